-- What a primary leaves of a distance.
use Rattle.std.proofs.Common.{◌≡◌, ◌<◌, ◌≤◌, ◌+◌, ◌-◌, ◌∙◌, ℕ, Option, Some, None, length, slice_get, refl, sym, ap, subst, arith}
use Rattle.std.proofs.lemmas.Option.{same_Some}
use Rattle.area_graph.specs.declared.area_types.Arc.{Arc}
use Rattle.area_graph.specs.AreaInvariant.{IsArea}
use Rattle.area_graph.specs.Parts.{AreaParts}
use Rattle.mrt_graph.specs.GraphInvariant.{IsNetwork}
use Rattle.primary_alt.specs.declared.shortest.Primary.{Primary}
use Rattle.primary_alt.specs.Distance.{IsDistance}
use Rattle.primary_alt.specs.Primaries.{Direct, IsFirstArc, IsPrimary, Itself, NoWalk, Over}
use Rattle.primary_alt.proofs.AreaArcs.{arcs_between}
use Rattle.primary_alt.proofs.ArcWalks.{arc_kept, one_distance}

-- where the primary goes on over a second arc, which costs nothing, and where it does not
pub data GoesOn (area : AreaParts) (primary : Primary) (arc : Arc) : Type 0 where
  Alone : primary.second ≡ None → primary.next ≡ arc.to → GoesOn area primary arc
  Onward : (second : ℕ) (onward : Arc) → primary.second ≡ Some second → slice_get area.arcs second ≡ Some onward → onward.tail ≡ arc.to → onward.metric ≡ 0
      → primary.next ≡ onward.to → GoesOn area primary arc

-- the primary's first arc is there; its metric and the distance of the primary's next are the distance
pub record IsPart (area : AreaParts) (s t : ℕ) (primary : Primary) : Type 0 where
  pub arc : Arc
  pub there : slice_get area.arcs primary.first ≡ Some arc
  pub from : arc.tail ≡ s
  pub rest : ℕ
  pub near : IsDistance area.arcs s t (arc.metric + rest)
  pub far : IsDistance area.arcs primary.next t rest
  pub next : primary.next < length area.ids
  pub on : GoesOn area primary arc

module _ (area : AreaParts) (kept : IsArea area) (s t : ℕ) where
  first_near : (n : ℕ) (arc : Arc) → (first : IsFirstArc area.arcs s t n arc) → IsDistance area.arcs s t (arc.metric + first.shortest.rest)
  first_near n arc first = subst (λ (v : ℕ). IsDistance area.arcs v t (arc.metric + first.shortest.rest)) first.from first.shortest.near

  by_entry : (primary : Primary) (entry : Option Primary) → IsPrimary area s t entry → entry ≡ Some primary → IsPart area s t primary
  by_entry primary entry (Itself same) is = cc
  by_entry primary entry (NoWalk none) is = cc
  by_entry primary entry (Direct n arc apart first direct) is =
      let made : Primary = record { first = n; second = None; next = arc.to } in
      subst (λ (p : Primary). IsPart area s t p) (same_Some made primary is)
      (record {
        arc = arc;
        there = first.there;
        from = first.from;
        rest = first.shortest.rest;
        near = first_near n arc first;
        far = first.shortest.far;
        next = (arcs_between area kept).tos n arc first.there;
        on = Alone refl refl;
      })
  by_entry primary entry (Over n k arc onward apart first over second) is =
      let made : Primary = record { first = n; second = Some k; next = onward.to } in
      let free : onward.metric ≡ 0 = ((arc_kept area k onward kept second.there).of_network (subst (λ (v : ℕ). IsNetwork area.ids v) (sym second.from) over.network)).0 in
      let on = subst (λ (v : ℕ). IsDistance area.arcs v t (onward.metric + second.shortest.rest)) second.from second.shortest.near in
      let same : first.shortest.rest ≡ second.shortest.rest =
      omega (arith, free, one_distance area.arcs arc.to t first.shortest.rest (onward.metric + second.shortest.rest) first.shortest.far on) in
      subst (λ (p : Primary). IsPart area s t p) (same_Some made primary is)
      (record {
        arc = arc;
        there = first.there;
        from = first.from;
        rest = second.shortest.rest;
        near = subst (λ (d : ℕ). IsDistance area.arcs s t (arc.metric + d)) same (first_near n arc first);
        far = second.shortest.far;
        next = (arcs_between area kept).tos k onward second.there;
        on = Onward k onward refl second.there second.from free refl;
      })

  pub part_of : (primary : Primary) → IsPrimary area s t (Some primary) → IsPart area s t primary
  part_of primary is = by_entry primary (Some primary) is refl

  -- so it is at most the distance, and the rest is left
  pub left_of : (primary : Primary) → IsPrimary area s t (Some primary) → (arc : Arc) (d : ℕ) → slice_get area.arcs primary.first ≡ Some arc → IsDistance area.arcs s t d
      → (arc.metric ≤ d) × IsDistance area.arcs primary.next t (d - arc.metric)
  left_of primary is arc d there far =
      let part = part_of primary is in
      let same : part.arc ≡ arc = same_Some part.arc arc (sym part.there ∙ there) in
      let metric : part.arc.metric ≡ arc.metric = ap (λ (a : Arc). a.metric) same in
      let whole : d ≡ part.arc.metric + part.rest = one_distance area.arcs s t d (part.arc.metric + part.rest) far part.near in
      let rest : part.rest ≡ d - arc.metric = omega (arith, metric, whole) in
      (omega (arith, metric, whole), subst (λ (n : ℕ). IsDistance area.arcs primary.next t n) rest part.far)
