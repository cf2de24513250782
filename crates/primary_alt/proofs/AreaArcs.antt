-- All arcs of an area, node by node.
use Rattle.std.proofs.Common.{◌≡◌, ◌<◌, ◌+◌, ◌-◌, ◌==◌, ◌∙◌, ◌++◌, ℕ, List, [], ◌∷◌, length, take, inl, inr, refl, sym, ap, subst, arith}
use Rattle.std.specs.Prelude.{IsPermutation, nat_lt}
use Rattle.std.specs.List.{AllByRecursion, filter}
use Rattle.std.proofs.Math.Seq.{take-add}
use Rattle.std.proofs.lemmas.Bool.{lt-ltb}
use Rattle.std.proofs.lemmas.List.Sorted.{Contains-permutation, IsPermutation-sym}
use Rattle.area_graph.specs.declared.area_types.Arc.{Arc}
use Rattle.area_graph.specs.AreaInvariant.{IsArc, IsArea}
use Rattle.area_graph.specs.Parts.{AreaParts}
use Rattle.area_graph.specs.steps.Starts.{below}
use Rattle.area_graph.proofs.Slices.{arcs_of_node, climbs, fewer_below}
use Rattle.mrt_graph.proofs.Members.{all_from_has, all_has}
use Rattle.mrt_graph.proofs.Tallies.{count_is_tally, tally}
use Rattle.mrt_graph.proofs.ListPlaces.{place_of}
use Rattle.primary_alt.specs.steps.ArcsInto.{AreFromBelow}
use Rattle.primary_alt.specs.steps.Attaining.{AreBetween}
use Rattle.primary_alt.proofs.ArcWalks.{arc_bond, arc_kept}
use Rattle.primary_alt.proofs.ArcsOffered.{far_within}

-- an arc leaves a node of the area
pub tail_within : (area : AreaParts) (arc : Arc) → IsArea area → IsArc area.ids area.bonds arc → arc.tail < length area.ids
tail_within area arc kept is =
    let bond = arc_bond area arc kept is in
    elim is.leads [
      | inl there ↦ subst (λ (v : ℕ). v < length area.ids) (sym there.tail) bond.a
      | inr back ↦ subst (λ (v : ℕ). v < length area.ids) (sym back.tail) bond.b
    ]

pub arcs_between : (area : AreaParts) → IsArea area → AreBetween (length area.ids) area.arcs
arcs_between area kept = record {
  tails = λ k arc there. tail_within area arc kept (arc_kept area k arc kept there);
  tos = λ k arc there. far_within area arc kept (arc_kept area k arc kept there);
}

-- the arcs of lower nodes, and those of a node
pub arcs_more : (s : ℕ) (area : AreaParts) → IsArea area
    → take (below s area.arcs) area.arcs ++ filter (λ arc. arc.tail == s) area.arcs ≡ take (below (s + 1) area.arcs) area.arcs
arcs_more s area kept =
    let arcs = area.arcs in
    let rest : below s arcs + (below (s + 1) arcs - below s arcs) ≡ below (s + 1) arcs = omega (arith, fewer_below s arcs) in
    ap (λ (xs : List Arc). take (below s arcs) arcs ++ xs) (sym (arcs_of_node s arcs (climbs arcs kept.arcs_ascend)))
    ∙ sym (take-add (below s arcs) (below (s + 1) arcs - below s arcs) arcs)
    ∙ ap (λ (n : ℕ). take n arcs) rest

all_counted : (n : ℕ) (arcs : List Arc) → AllByRecursion (λ arc. arc.tail < n) arcs → tally (λ arc. nat_lt arc.tail n) arcs ≡ length arcs
all_counted n [] all = refl
all_counted n (arc ∷ arcs) all = let e = lt-ltb arc.tail n all.0 in rw e (omega (arith, all_counted n arcs all.1))

-- all of them leave a node of the area
pub all_arcs_below : (area : AreaParts) → IsArea area → below (length area.ids) area.arcs ≡ length area.arcs
all_arcs_below area kept =
    count_is_tally (λ (arc : Arc). nat_lt arc.tail (length area.ids)) area.arcs
    ∙ all_counted (length area.ids) area.arcs
    (all_from_has (λ (arc : Arc). arc.tail < length area.ids) area.arcs
    (λ arc has. tail_within area arc kept (all_has (IsArc area.ids area.bonds) area.arcs arc kept.arcs_kept has)))

-- so do arcs in another order
pub from_below : (area : AreaParts) (arcs : List Arc) (n : ℕ) → IsArea area → IsPermutation area.arcs arcs → n ≡ length area.ids → AreFromBelow n arcs
from_below area arcs n kept p all = λ arc has.
    let at = place_of area.arcs arc (Contains-permutation arcs area.arcs arc (IsPermutation-sym area.arcs arcs p) has) in
    omega (arith, all, (arcs_between area kept).tails at.0 arc at.1)
