-- The row for a node with which the source has a block in common, by first links and sole links.
use Rattle.std.proofs.Common.{◌≡◌, ◌≢◌, ◌<◌, ℕ, true, Some, length, refl, sym, subst, inl, inr}
use Rattle.std.proofs.lemmas.Bool.{cases_eq}
use Rattle.mrt_graph.specs.declared.cert.Row.{Row}
use Rattle.mrt_graph.specs.declared.cert.Tag.TheVariants as tags
use Rattle.mrt_graph.specs.declared.gadag.Place.{Place}
use Rattle.mrt_graph.specs.declared.related.Relation.{Relation}
use Rattle.mrt_graph.specs.declared.related.Relation.TheVariants as relations
use Rattle.mrt_graph.specs.Related.{IsRelation, is_apart}
use Rattle.link_direction.specs.CommonBlock.{FromHead, HaveCommonBlock, Peers, ToHead}
use Rattle.link_direction.specs.Directions.{Directions}
use Rattle.link_direction.proofs.TwoNodes.{Relates, relates}
use Rattle.block_spf.specs.FirstLink.{no_link}
use Rattle.mrt_rows.specs.declared.row_over.FirstLinks.{FirstLinks}
use Rattle.mrt_rows.specs.steps.NearOf.{InCommon, IsNearRow, IsPlaceOf}
use Rattle.mrt_rows.specs.NearOf.{IsSoleOf}
use Rattle.mrt_rows.specs.Put.{AreFirstLinks, AreInCommonBlockOfMoreLinks}
use Rattle.mrt_rows.specs.steps.Put.{IsMemberRow, IsOwnRow, NoneOfOneLink}
use Rattle.mrt_rows.specs.RowLines.{HasOneLink}
use Rattle.mrt_rows.proofs.LinesHold.{has_head}
use Rattle.mrt_rows.proofs.MemberRows.{head_row, top_row}
use Rattle.mrt_rows.proofs.NearRows.{ring_by}
use Rattle.mrt_rows.proofs.OrderedGraphs.{OrderedGraph, one_common}
use Rattle.mrt_rows.proofs.WaysBegun.{more_of}

-- what the relation of two nodes tells of them, by their places
pub relates_by : (w : Directions) (s t : ℕ) (here there : Place) → IsPlaceOf w s here → IsPlaceOf w t there → (r : Relation) → IsRelation s here t there r
    → Relates w s t r
relates_by w s t here there at_s at_t r is = relates w s t here there (at_s.head, at_s.block) (at_t.head, at_t.block) r is

pub apart_by : (w : Directions) (s t : ℕ) (r : Relation) → Relates w s t r → is_apart r ≡ true → (k h : ℕ) → ¬ HaveCommonBlock w s t k h
apart_by w s t relations.OneBlock tells is = absurd (cc)
apart_by w s t relations.ToHead tells is = absurd (cc)
apart_by w s t relations.FromHead tells is = absurd (cc)
apart_by w s t relations.Apart tells is = tells

-- the row of a source over a sole link
abbrev pub sole_of : ℕ → Row
sole_of e = record { blue = e; red = e; tag = tags.Sole }

module _ (og : OrderedGraph) (s t : ℕ) (s_within : s < length og.g.ids) (t_within : t < length og.g.ids) (two : s ≢ t) (links : FirstLinks)
    (first : AreFirstLinks og.g og.w s t links) where
  pub over_peers : (home : FirstLinks) (row : Row) → og.w.block s ≡ og.w.block t → AreFirstLinks og.g og.w s (og.w.head s) home
      → IsMemberRow links home row → IsNearRow og.g og.root og.w s t (Some row)
  over_peers home row same is_home is =
      InCommon row (og.w.block s) (og.w.head s) (Peers refl (sym same) refl)
      (is.own og.g og.root s t og.w og.kept og.ordered s_within t_within two same first is_home)

  -- where the block of two nodes has no sole link, it has more than one
  no_sole : (m h : ℕ) → HaveCommonBlock og.w s t (og.w.block m) h → ((e : ℕ) → HasOneLink og.g og.w (og.w.block m) e → ⊥) → NoneOfOneLink og.g og.w s t
  no_sole m h common none = λ k i link other one.
      none link (subst (λ (x : ℕ). HasOneLink og.g og.w x link)
      (one_common og s t k i (og.w.block m) h s_within t_within two other common).0 one)

  -- over a sole link, or by the first links, where m is the one that lies in the block
  over_end : (m h sole : ℕ) (row other : Row) → m < length og.g.ids → m ≢ og.root → HaveCommonBlock og.w s t (og.w.block m) h
      → IsSoleOf og.g og.w m sole → (sole ≢ no_link → row ≡ sole_of sole) → (sole ≡ no_link → row ≡ other)
      → (NoneOfOneLink og.g og.w s t → AreInCommonBlockOfMoreLinks og.g og.w s t → IsOwnRow og.g og.root og.w s t other)
      → IsNearRow og.g og.root og.w s t (Some row)
  over_end m h sole row other within not_root common is by_sole by_links own =
      InCommon row (og.w.block m) h common (elim (cases_eq sole no_link) [
        | inl none ↦
            let more = no_sole m h common (is.none none) in
            let ring = ring_by og s t s_within t_within two more m h within not_root common in
            subst (λ (r : Row). IsOwnRow og.g og.root og.w s t r) (sym (by_links none))
            (own more (record { block = og.w.block m; head = h; share = record { two = two; common = common; more = more_of og m ring } }))
        | inr some ↦
            subst (λ (r : Row). IsOwnRow og.g og.root og.w s t r) (sym (by_sole some))
            (record { line = λ rows. record { block = og.w.block m; head = h; common = common; one_link = is.sole some; red = refl } })
      ])

  pub over_head : (sole : ℕ) (row : Row) → og.w.head s ≡ t → IsSoleOf og.g og.w s sole → (sole ≢ no_link → row ≡ sole_of sole)
      → (sole ≡ no_link → row ≡ record { blue = links.up; red = links.down; tag = tags.Head }) → IsNearRow og.g og.root og.w s t (Some row)
  over_head sole row head is by_sole by_links =
      over_end s t sole row (record { blue = links.up; red = links.down; tag = tags.Head }) s_within (has_head og s t two head) (ToHead refl head refl) is by_sole by_links
      (λ more shares. head_row og s t s_within t_within two more links.up links.down (first.up shares) (first.down shares) head)

  pub over_top : (sole : ℕ) (row : Row) → og.w.head t ≡ s → IsSoleOf og.g og.w t sole → (sole ≢ no_link → row ≡ sole_of sole)
      → (sole ≡ no_link → row ≡ record { blue = links.up; red = links.down; tag = tags.Top }) → IsNearRow og.g og.root og.w s t (Some row)
  over_top sole row head is by_sole by_links =
      over_end t s sole row (record { blue = links.up; red = links.down; tag = tags.Top }) t_within (has_head og t s (λ same. two (sym same)) head) (FromHead refl head refl)
      is by_sole by_links (λ more shares. top_row og s t s_within t_within two more links.up links.down (first.up shares) (first.down shares) head)
