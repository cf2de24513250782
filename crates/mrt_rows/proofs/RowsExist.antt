-- Each node has a row for each other one by the table.
use Rattle.std.proofs.Common.{◌≡◌, ◌≢◌, ◌∙◌, ◌<◌, ℕ, Option, Some, None, length, refl, sym, ap, subst, inl, inr, arith}
use Rattle.std.proofs.lemmas.Bool.{cases_eq, cases_lt}
use Rattle.mrt_graph.specs.declared.cert.Row.{Row}
use Rattle.mrt_graph.specs.declared.cert.Tag.TheVariants as tags
use Rattle.mrt_graph.specs.declared.related.Relation.{Relation}
use Rattle.mrt_graph.specs.declared.related.Relation.TheVariants as relations
use Rattle.mrt_graph.specs.Tags.{carried}
use Rattle.link_direction.specs.CommonBlock.{FromHead, HaveCommonBlock, Peers, ToHead}
use Rattle.link_direction.proofs.TwoNodes.{Relates, of_two}
use Rattle.block_spf.specs.declared.reach.Dir.{Dir}
use Rattle.block_spf.specs.declared.reach.Dir.TheVariants.{Down, Up}
use Rattle.block_spf.specs.declared.reach.Hop.{Hop}
use Rattle.block_spf.specs.LeastPath.{HaveCommonBlockOfMoreLinks, IsHop}
use Rattle.mrt_rows.specs.steps.ColumnOf.{IsRowIn}
use Rattle.mrt_rows.specs.steps.NearOf.{Apart, InCommon, IsNearRow}
use Rattle.mrt_rows.specs.RowLines.{AreMembers, BeginsOver, HasOneLink, LineOf}
use Rattle.mrt_rows.specs.RowsOf.{HasRow}
use Rattle.mrt_rows.proofs.Carriers.{carrier_by}
use Rattle.mrt_rows.proofs.HeadWays.{way_from_head, way_home}
use Rattle.mrt_rows.proofs.HopsExist.{has_hop}
use Rattle.mrt_rows.proofs.LinesHold.{with_head}
use Rattle.mrt_rows.proofs.OneRow.{Far, HasTheRow, IsRowFor, Near, by_carriers, has_all, of_table, one_for}
use Rattle.mrt_rows.proofs.OrderedGraphs.{OrderedGraph, has_head}
use Rattle.mrt_rows.proofs.Ways.{Ring, Way, inside_itself}
use Rattle.mrt_rows.proofs.WaysBegun.{Sharing, no_way, peer_ring, peers_are, share}

-- a near row, where they have a block in common
module _ (og : OrderedGraph) (s t : ℕ) (s_within : s < length og.g.ids) (t_within : t < length og.g.ids) (two : s ≢ t) where
  abbrev HasNear : Type 0
  HasNear = (near : Option Row) × IsNearRow og.g og.root og.w s t near

  -- where a way of m's block leads to x, a least path begins over a link
  begun : (m x : ℕ) (dir : Dir) → Ring og m → Sharing og m s x → Way og m dir s x → (link : ℕ) × BeginsOver og.g og.w dir s x link
  begun m x dir ring sharing way = go (has_hop og dir s x s_within sharing.target)
    where
      go : (hop : Option Hop) × IsHop og.g og.w dir s x hop → (link : ℕ) × BeginsOver og.g og.w dir s x link
      go (Some hop, is) = (hop.link, record { hop = hop; reached = is; over = refl })
      go (None, none) = absurd (no_way og m dir s x (share og m s x ring sharing) none way)

  near_row : (row : Row) (k h : ℕ) → HaveCommonBlock og.w s t k h → ((rows : ℕ → Option Row) → LineOf row.tag og.g og.root og.w s rows t row) → HasNear
  near_row row k h common line = (Some row, InCommon row k h common (record { line = line }))

  -- over the block of m: its one link, or a row by the ways to t
  over_block : (m : ℕ) → m < length og.g.ids → m ≢ og.root → Sharing og m s t → ((dir : Dir) → Ring og m → Way og m dir s t)
      → ((blue red : ℕ) → HaveCommonBlockOfMoreLinks og.g og.w s t (og.w.block m) (og.w.head m) → BeginsOver og.g og.w Up s t blue
      → BeginsOver og.g og.w Down s t red → HasNear) → HasNear
  over_block m inside other sharing way by_ways = elim (og.ordered.blocks m inside other) [
    | inl sole ↦
        let one : HasOneLink og.g og.w (og.w.block m) sole.link = record { within = sole.within; in_block = sole.in_block; no_other = sole.no_other_link } in
        near_row (record { blue = sole.link; red = sole.link; tag = tags.Sole }) (og.w.block m) (og.w.head m) sharing.common
        (λ rows. record { block = og.w.block m; head = og.w.head m; common = sharing.common; one_link = one; red = refl })
    | inr closed ↦
        let ring : Ring og m = record { inside = inside; other = other; closed = closed } in
        let blue = begun m t Up ring sharing (way Up ring) in
        let red = begun m t Down ring sharing (way Down ring) in
        by_ways blue.0 red.0 (share og m s t ring sharing) blue.1 red.1
  ]

  under : og.w.head s ≡ t → HasNear
  under head =
      over_block s s_within (has_head og s t two head)
      (record { source = s_within; target = t_within; two = two; common = ToHead refl head (sym head) })
      (λ dir ring. subst (λ (x : ℕ). Way og s dir s x) head (way_home og s dir ring))
      (λ blue red share up down. near_row (record { blue = blue; red = red; tag = tags.Head }) (og.w.block s) (og.w.head s) share.common
      (λ rows. record { block = og.w.block s; head = og.w.head s; share = share; at_head = sym head; blue = up; red = down }))

  over : og.w.head t ≡ s → HasNear
  over head =
      over_block t t_within (has_head og t s (λ back. two (sym back)) head)
      (record { source = s_within; target = t_within; two = two; common = FromHead refl head (sym head) })
      (λ dir ring. subst (λ (x : ℕ). Way og t dir x t) head (way_from_head og t dir ring))
      (λ blue red share up down. near_row (record { blue = blue; red = red; tag = tags.Top }) (og.w.block t) (og.w.head t) share.common
      (λ rows. record { block = og.w.block t; head = og.w.head t; share = share; at_head = sym head; blue = up; red = down }))

  -- another node of the block
  module _ (same : og.w.block s ≡ og.w.block t) (ring : Ring og s) where
    abbrev k : ℕ
    k = og.w.block s

    abbrev h : ℕ
    h = og.w.head s

    are : AreMembers og.g og.w s t k h
    are = peers_are og s t s_within t_within two same

    home : (dir : Dir) → (link : ℕ) × BeginsOver og.g og.w dir s h link
    home dir = begun s h dir ring (with_head og s s ring (inside_itself og s ring)) (way_home og s dir ring)

    peer_row : (up down : Option Hop) → IsHop og.g og.w Up s t up → IsHop og.g og.w Down s t down → HasNear
    peer_row (Some up) down is_up is_down =
        near_row (record { blue = up.link; red = (home Down).0; tag = tags.Below }) k h (Peers refl (sym same) refl)
        (λ rows. record { block = k; head = h; members = are; blue = record { hop = up; reached = is_up; over = refl }; red = (home Down).1 })
    peer_row None (Some down) none_up is_down =
        near_row (record { blue = (home Up).0; red = down.link; tag = tags.Above }) k h (Peers refl (sym same) refl)
        (λ rows. record { block = k; head = h; members = are; none_up = none_up; blue = (home Up).1; red = record { hop = down; reached = is_down; over = refl } })
    peer_row None None none_up none_down =
        near_row (record { blue = (home Down).0; red = (home Up).0; tag = tags.Unordered }) k h (Peers refl (sym same) refl)
        (λ rows. record { block = k; head = h; members = are; none_up = none_up; none_down = none_down; blue = (home Down).1; red = (home Up).1 })

  has_near : HasNear
  has_near = let is = of_two og.w s t in by is.0 is.1
    where
      by : (r : Relation) → Relates og.w s t r → HasNear
      by relations.OneBlock same =
          let up = has_hop og Up s t s_within t_within in
          let down = has_hop og Down s t s_within t_within in
          peer_row same (peer_ring og s t s_within t_within two same) up.0 down.0 up.1 down.1
      by relations.ToHead head = under head
      by relations.FromHead head = over head
      by relations.Apart none = (None, Apart none)

module _ (og : OrderedGraph) (s : ℕ) where
  abbrev n : ℕ
  n = length og.g.ids

  -- the row for each other node
  some_for : s < n → (t : ℕ) → t < n → s ≢ t → (row : Row) × IsRowFor og s t row
  some_for s_within = by_carriers og s s_within (λ t. (row : Row) × IsRowFor og s t row)
      (λ t t_within two far. let it = has_near og s t s_within t_within two in go t it.0 it.1 far)
    where
      go : (t : ℕ) (near : Option Row) → IsNearRow og.g og.root og.w s t near
          → (((k h : ℕ) → ¬ HaveCommonBlock og.w s t k h) → (row : Row) × IsRowFor og s (carrier_by og.w og.root s t) row) → (row : Row) × IsRowFor og s t row
      go t (Some row) near far = (row, Near near)
      go t None (Apart apart) far = let it = far apart in (carried it.0, Far (Apart apart) it.1)

  -- all as one function
  each_at : (t : ℕ) → (found : Option Row) × (s < n → t < n → s ≢ t → HasTheRow og s t found)
  each_at t = elim (cases_lt s n) [
    | inl s_within ↦ elim (cases_lt t n) [
      | inl t_within ↦ elim (cases_eq s t) [
        | inl same ↦ (None, λ in_range too two. absurd (two same))
        | inr two ↦ let it = some_for s_within t t_within two in (Some it.0, λ in_range too other. record { row = it.0; is = refl; the = it.1 })
      ]
      | inr past ↦ (None, λ in_range too two. absurd (omega (arith, too, past)))
    ]
    | inr past ↦ (None, λ in_range too two. absurd (omega (arith, in_range, past)))
  ]

  pub each_row : ℕ → Option Row
  each_row t = (each_at t).0

  pub each_the : (t : ℕ) → s < n → t < n → s ≢ t → HasTheRow og s t (each_row t)
  unfolding each_row
  each_the t = (each_at t).1

  pub each_has : (t : ℕ) → s < n → t < n → s ≢ t → HasRow og.g og.root og.w s each_row t
  each_has t s_within t_within two =
      has_all og s s_within each_row (λ u within apart. each_the u s_within within apart) t t_within two

  pub some_rows : s < n → (rows : ℕ → Option Row) × ((t : ℕ) → t < n → s ≢ t → HasRow og.g og.root og.w s rows t)
  some_rows s_within = (each_row, λ t t_within two. each_has t s_within t_within two)

-- the row of s for t is the one among its rows by the table
module _ (og : OrderedGraph) (s t : ℕ) (found : Option Row) (s_within : s < length og.g.ids) (t_within : t < length og.g.ids) (two : s ≢ t) where
  pub row_in : HasTheRow og s t found → IsRowIn og.g og.root og.w s t found
  row_in it = record {
    row = it.row;
    is = it.is;
    each = λ rows has.
        let by = of_table og s s_within rows has t t_within two in
        by.is ∙ ap (λ (r : Row). Some r) (one_for og s s_within t by.row it.row t_within two by.the it.the);
  }

  pub the_row : IsRowIn og.g og.root og.w s t found → HasTheRow og s t found
  the_row it =
      let own = each_the og s t s_within t_within two in
      record {
        row = own.row;
        is = it.is ∙ sym (it.each (each_row og s) (λ u within apart. each_has og s u s_within within apart)) ∙ own.is;
        the = own.the;
      }

-- rows of which each is so are a table
pub rows_have : (og : OrderedGraph) (s : ℕ) (rows : ℕ → Option Row) → s < length og.g.ids
    → ((t : ℕ) → t < length og.g.ids → s ≢ t → IsRowIn og.g og.root og.w s t (rows t))
    → (t : ℕ) → t < length og.g.ids → s ≢ t → HasRow og.g og.root og.w s rows t
rows_have og s rows s_within each =
    has_all og s s_within rows (λ t t_within two. the_row og s t (rows t) s_within t_within two (each t t_within two))
