-- The tag by what two nodes are to each other, and by the hops of one of them, is that of its row for the other one.
use Rattle.std.proofs.Common.{◌≡◌, ◌≢◌, ◌∙◌, ◌<◌, ℕ, Option, Some, None, length, refl, sym, subst, inl, inr}
use Rattle.mrt_graph.specs.declared.cert.Row.{Row}
use Rattle.mrt_graph.specs.declared.cert.Tag.{Tag}
use Rattle.mrt_graph.specs.declared.cert.Tag.TheVariants as tags
use Rattle.mrt_graph.specs.declared.related.Relation.{Relation}
use Rattle.mrt_graph.specs.declared.related.Relation.TheVariants as relations
use Rattle.link_direction.proofs.TwoNodes.{Relates}
use Rattle.block_spf.specs.declared.reach.Dir.{Dir}
use Rattle.block_spf.specs.declared.reach.Dir.TheVariants.{Down, Up}
use Rattle.block_spf.specs.declared.reach.Hop.{Hop}
use Rattle.block_spf.specs.LeastPath.{IsHop, Reached, HaveCommonBlockOfMoreLinks}
use Rattle.mrt_rows.specs.RowLines.{LineOf}
use Rattle.mrt_rows.proofs.OrderedGraphs.{OrderedGraph, one_is_head}
use Rattle.mrt_rows.proofs.RowsExist.{some_rows}
use Rattle.mrt_rows.proofs.RowTags.{PeerTag, peer_tag, way_here, way_of, way_tag, without}
use Rattle.mrt_rows.proofs.Ways.{Inside, Ring, Way, inside_head, inside_itself, not_head}
use Rattle.mrt_rows.proofs.WaysBegun.{no_way, peer_ring, peers_are, share}
use Rattle.order_repair.specs.ColorTable.{IsOfTable}
use Rattle.order_repair.specs.steps.Tagging.{IsPair, IsTagFor, tag_by}
use Rattle.order_repair.proofs.Round.{way_to}
use Rattle.order_repair.proofs.RowWays.{AboveRow, BelowRow, HeadRow, RowWays, TopRow, UnorderedRow, row_of_table, row_ways}
use Rattle.order_repair.proofs.SharedBlock.{SharedRing, shared_ring}

module _ (og : OrderedGraph) (s t : ℕ) (s_within : s < length og.g.ids) (t_within : t < length og.g.ids) (two : s ≢ t) where
  -- the one's head is the other: there is a way up, and the tag is one
  to_head : (m blue red : ℕ) (ring : Ring og m) {tag : Tag} → RowWays og m s t blue red tag → og.w.head s ≡ t → (tag ≡ tags.Head) × Way og m Up s t
  to_head m blue red ring (HeadRow a b up down) head = (refl, subst (λ (x : ℕ). Way og m Up s x) (sym b) (way_of og m Up s (og.w.head m) blue up))
  to_head m blue red ring (TopRow a b up down) head = absurd (one_is_head og s t s_within t_within two head (inside_head og m ring t b ∙ sym a))
  to_head m blue red ring (BelowRow a b up down) head = absurd (not_head og m ring t b (sym head ∙ inside_head og m ring s a))
  to_head m blue red ring (AboveRow a b up down) head = absurd (not_head og m ring t b (sym head ∙ inside_head og m ring s a))
  to_head m blue red ring (UnorderedRow a b none_up none_down down up) head = absurd (not_head og m ring t b (sym head ∙ inside_head og m ring s a))

  from_head : (m blue red : ℕ) (ring : Ring og m) {tag : Tag} → RowWays og m s t blue red tag → og.w.head t ≡ s → (tag ≡ tags.Top) × Way og m Up s t
  from_head m blue red ring (TopRow a b up down) head = (refl, subst (λ (x : ℕ). Way og m Up x t) (sym a) (way_of og m Up (og.w.head m) t blue up))
  from_head m blue red ring (HeadRow a b up down) head = absurd (one_is_head og s t s_within t_within two (inside_head og m ring s a ∙ sym b) head)
  from_head m blue red ring (BelowRow a b up down) head = absurd (not_head og m ring s a (sym head ∙ inside_head og m ring t b))
  from_head m blue red ring (AboveRow a b up down) head = absurd (not_head og m ring s a (sym head ∙ inside_head og m ring t b))
  from_head m blue red ring (UnorderedRow a b none_up none_down down up) head = absurd (not_head og m ring s a (sym head ∙ inside_head og m ring t b))

  -- the row of s for t, where they have a block of more than one link in common, by what its line tells of its tag
  module _ (k h : ℕ) (shares : HaveCommonBlockOfMoreLinks og.g og.w s t k h) where
    it : SharedRing og s t k h
    it = shared_ring og s t k h s_within t_within shares

    pair : (tag : Tag) → ((rows : ℕ → Option Row) (row : Row) → LineOf row.tag og.g og.root og.w s rows t row → row.tag ≡ tag) → IsPair og.g og.root og.w s t tag k h
    pair tag is =
        let rows = some_rows og s s_within in
        let its = rows.1 t t_within two in
        let tag_is = is rows.0 its.row its.line in
        record {
          share = shares;
          row = its.row;
          its_row = record { rows = rows.0; by_table = rows.1; is = its.is };
          tag_is = tag_is;
          of_table = subst IsOfTable tag_is (row_of_table og it.m it.ring s t it.sharing its.row.tag rows.0 its.row its.line);
        }

    -- where one of them is the other's head
    by_head : (tag : Tag) → ((m blue red : ℕ) (ring : Ring og m) (of : Tag) → RowWays og m s t blue red of → (of ≡ tag) × Way og m Up s t) → IsPair og.g og.root og.w s t tag k h
    by_head tag is = pair tag (λ rows row line.
        (is it.m row.blue row.red it.ring row.tag (row_ways og it.m it.ring s t it.sharing row.tag rows row line)).0)

    has_way : (tag : Tag) → ((m blue red : ℕ) (ring : Ring og m) (of : Tag) → RowWays og m s t blue red of → (of ≡ tag) × Way og m Up s t) → IsHop og.g og.w Up s t None → ⊥
    has_way tag is none =
        let rows = some_rows og s s_within in
        let its = rows.1 t t_within two in
        no_way og it.m Up s t (share og it.m s t it.ring it.sharing) none
        (is it.m its.row.blue its.row.red it.ring its.row.tag (row_ways og it.m it.ring s t it.sharing its.row.tag rows.0 its.row its.line)).1

  -- two nodes of one block
  module _ (same : og.w.block s ≡ og.w.block t) where
    ring : Ring og s
    ring = peer_ring og s t s_within t_within two same

    shares : HaveCommonBlockOfMoreLinks og.g og.w s t (og.w.block s) (og.w.head s)
    shares = (peers_are og s t s_within t_within two same).share

    target : Inside og s t
    target = record { within = t_within; block = sym same }

    peer : (rows : ℕ → Option Row) (row : Row) → LineOf row.tag og.g og.root og.w s rows t row → PeerTag og s s t row.tag
    peer rows row line = peer_tag og s ring s t (inside_itself og s ring) target two row.tag rows row line

    here : (dir : Dir) (hop : Hop) → IsHop og.g og.w dir s t (Some hop) → (tag : Tag) → PeerTag og s s t tag → tag ≡ way_tag dir
    here dir hop is tag of =
        way_here og s ring s t (inside_itself og s ring) target two dir tag of
        (way_to og s ring dir s t (inside_itself og s ring) target (record { hop = hop; reached = is }))

    peer_found : (up down : Option Hop) → IsHop og.g og.w Up s t up → IsHop og.g og.w Down s t down → IsTagFor og.g og.root og.w s t (tag_by relations.OneBlock up down)
    peer_found (Some up) down is_up is_down = (_, _, pair _ _ shares tags.Below (λ rows row line. here Up up is_up row.tag (peer rows row line)))
    peer_found None (Some down) is_up is_down = (_, _, pair _ _ shares tags.Above (λ rows row line. here Down down is_down row.tag (peer rows row line)))
    peer_found None None is_up is_down = (
      _,
      _,
      pair _ _ shares tags.Unordered (λ rows row line.
          elim (without og s ring s t (inside_itself og s ring) target two Up row.tag (peer rows row line) (no_way og s Up s t shares is_up)) [
            | inl unordered ↦ unordered
            | inr above ↦ elim (without og s ring s t (inside_itself og s ring) target two Down row.tag (peer rows row line) (no_way og s Down s t shares is_down)) [
              | inl unordered ↦ unordered
              | inr below ↦ absurd (cc)
            ]
          ]),
    )

  pub found : (r : Relation) (up down : Option Hop) → Relates og.w s t r → IsHop og.g og.w Up s t up → IsHop og.g og.w Down s t down
      → IsTagFor og.g og.root og.w s t (tag_by r up down)
  found relations.OneBlock up down same is_up is_down = peer_found same up down is_up is_down
  found relations.ToHead (Some up) down head (Reached k h hop shares least) is_down =
      (k, h, by_head k h shares tags.Head (λ m blue red ring of ways. to_head m blue red ring ways head))
  found relations.ToHead None down head is_up is_down =
      λ k h shares. has_way k h shares tags.Head (λ m blue red ring of ways. to_head m blue red ring ways head) is_up
  found relations.FromHead (Some up) down head (Reached k h hop shares least) is_down =
      (k, h, by_head k h shares tags.Top (λ m blue red ring of ways. from_head m blue red ring ways head))
  found relations.FromHead None down head is_up is_down =
      λ k h shares. has_way k h shares tags.Top (λ m blue red ring of ways. from_head m blue red ring ways head) is_up
  found relations.Apart up down none is_up is_down = λ k h shares. none k h shares.common
