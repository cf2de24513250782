-- Distances from one node, found along the arcs turned round.
use Rattle.std.proofs.Common.{◌≡◌, ◌+◌, ◌∙◌, ℕ, List, Option, length, map, subst, ap, arith}
use Rattle.std.specs.Prelude.{IsPermutation}
use Rattle.std.proofs.lemmas.List.Sorted.{IsPermutation-sym, Contains-permutation}
use Rattle.area_graph.specs.declared.area_types.Arc.{Arc}
use Rattle.area_graph.specs.AreaInvariant.{IsArea}
use Rattle.area_graph.specs.Parts.{AreaParts}
use Rattle.mrt_graph.proofs.ListPlaces.{place_of}
use Rattle.mrt_graph.proofs.Members.{contains_from_has, has_from_contains, is_from}
use Rattle.primary_alt.specs.steps.ArcsInto.{AreFromBelow, AreStartsInto}
use Rattle.primary_alt.specs.steps.Distances.{AreDistances}
use Rattle.primary_alt.specs.DistancesFrom.{AreDistancesFrom}
use Rattle.primary_alt.specs.steps.DistancesFrom.{AreItsArcs}
use Rattle.primary_alt.specs.steps.Turned.{turned}
use Rattle.primary_alt.proofs.AreaArcs.{arcs_between}
use Rattle.primary_alt.proofs.FirstsByDistances.{distances_moved}
use Rattle.primary_alt.proofs.TurnedWalks.{distances_turned}

-- they leave nodes where the arcs lead
turned_from : (area : AreaParts) (others : List Arc) → IsArea area → IsPermutation (map turned area.arcs) others → AreFromBelow (length area.ids) others
turned_from area others kept same other has =
    let one = is_from turned area.arcs other
    (has_from_contains (map turned area.arcs) other (Contains-permutation others (map turned area.arcs) other (IsPermutation-sym (map turned area.arcs) others same) has)) in
    let at = place_of area.arcs one.origin (contains_from_has area.arcs one.origin one.there) in
    omega (arith, (arcs_between area kept).tos at.0 one.origin at.1, ap (λ (a : Arc). a.tail) one.is)

pub are_its_arcs : (area : AreaParts) (arcs others moved : List Arc) (starts : List ℕ) → IsArea area → arcs ≡ area.arcs → others ≡ map turned arcs → IsPermutation others moved
    → AreStartsInto moved starts → length starts ≡ length area.ids + 1 → AreItsArcs area moved starts
are_its_arcs area arcs others moved starts kept all are same begin rows =
    let turned = subst (λ (xs : List Arc). IsPermutation xs moved) (are ∙ ap (map turned) all) same in
    record { turned = turned; tails = turned_from area moved kept turned; begin = begin; rows = rows }

pub all_from : (arcs others : List Arc) (s : ℕ) (known : List (Option ℕ)) → IsPermutation (map turned arcs) others → AreDistances others s known → AreDistancesFrom arcs s known
all_from arcs others s known same are = distances_turned arcs s known (distances_moved others (map turned arcs) s known same are)
