-- There is an answer for each node.
use Rattle.std.proofs.Common.{◌≡◌, ◌≢◌, ◌<◌, ◌≤◌, ◌+◌, ◌∙◌, ◌++◌, ℕ, zero, suc, List, [], ◌∷◌, Option, Some, None, length, slice_get, inl, inr, refl, sym, subst, arith}
use Rattle.std.specs.Prelude.{◌↔◌}
use Rattle.std.specs.Option.{option_map}
use Rattle.std.proofs.lemmas.Bool.{cases_Bool, cases_eq}
use Rattle.std.proofs.lemmas.List.Sorted.{IsPermutation-refl}
use Rattle.std.proofs.lemmas.Option.{same_Some}
use Rattle.area_graph.specs.declared.area_types.Arc.{Arc}
use Rattle.area_graph.specs.AreaInvariant.{IsArea}
use Rattle.area_graph.specs.Parts.{AreaParts}
use Rattle.mrt_graph.proofs.ListPlaces.{place_of}
use Rattle.mrt_graph.proofs.ListTests.{there}
use Rattle.primary_alt.specs.declared.shortest.Primary.{Primary}
use Rattle.primary_alt.specs.Offers.{is_network}
use Rattle.primary_alt.specs.Primaries.{IsPrimary}
use Rattle.primary_alt.specs.Routers.{IsRouter}
use Rattle.primary_alt.specs.steps.Distances.{AreDistances}
use Rattle.primary_alt.proofs.AreaArcs.{arcs_between}
use Rattle.primary_alt.proofs.ArcWalks.{network_by_test, no_network_by_test}
use Rattle.primary_alt.proofs.DistancesExist.{distances_exist}
use Rattle.primary_alt.proofs.PrimariesExist.{primaries_exist}
use Rattle.primary_alt.proofs.RouterFacts.{router_within}
use Rattle.lfa_alt.specs.declared.alternate.FreeCandidate.{FreeCandidate}
use Rattle.lfa_alt.specs.declared.alternate.Lfa.{Lfa}
use Rattle.lfa_alt.specs.declared.destination.Destination.{Destination}
use Rattle.lfa_alt.specs.declared.neighbour_path.NeighbourPath.{NeighbourPath}
use Rattle.lfa_alt.specs.steps.Choosing.{IsDestination, IsOfferedBy, Offers, better, offer}
use Rattle.lfa_alt.specs.Candidates.{Leaves}
use Rattle.lfa_alt.specs.LoopFree.{ByPrimary, IsBest, IsLfa, NoPrimary, alternate_of}
use Rattle.lfa_alt.specs.steps.NeighbourPaths.{AddsAcross, AddsOver, ArePaths, path_across, path_over}
use Rattle.lfa_alt.proofs.Bettering.{none_yet, one_more}
use Rattle.lfa_alt.proofs.Beyond.{part_of}
use Rattle.lfa_alt.proofs.LfasFound.{best_free, paths_within}
use Rattle.lfa_alt.proofs.Offered.{IsTold, offer_told}
use Rattle.lfa_alt.proofs.PathsFound.{ArePathsTo, across_left, across_more, across_none, all_paths, arc_left, arc_more, network_adds, no_path, router_adds}

-- one more
one_up : (n : ℕ) → n + 1 ≡ suc n
one_up n = omega arith

-- there are lists of all paths
across_exist : (arcs : List Arc) (s number : ℕ) (arc : Arc) (olds : List NeighbourPath) (count : ℕ) → count ≤ length arcs → (paths : List NeighbourPath) × AddsAcross arcs s number arc count olds paths
across_exist arcs s number arc olds zero low = (olds, across_none arcs s number arc olds)
across_exist arcs s number arc olds (suc count) low =
    let before = across_exist arcs s number arc olds count (omega (arith, low)) in
    let onward = there arcs count (omega (arith, low)) in
    subst (λ (n : ℕ). (paths : List NeighbourPath) × AddsAcross arcs s number arc n olds paths) (one_up count)
    (elim (cases_eq onward.0.tail arc.to) [
      | inr other ↦ (before.0, across_left arcs s number arc olds before.0 count onward.0 onward.1 before.1 (λ on. absurd (other on.0)))
      | inl from ↦ elim (cases_eq onward.0.to s) [
        | inl back ↦ (before.0, across_left arcs s number arc olds before.0 count onward.0 onward.1 before.1 (λ on. absurd (on.1 back)))
        | inr further ↦
            let made = path_across number arc (Some count) onward.0 in
            (before.0 ++ made ∷ [], across_more arcs s number arc olds before.0 count onward.0 onward.1 before.1 (from, further) made refl)
      ]
    ])

module _ (area : AreaParts) (kept : IsArea area) (s : ℕ) where
  over_exist : (number : ℕ) (arc : Arc) → Leaves area s number arc → (olds : List NeighbourPath) → (paths : List NeighbourPath) × AddsOver area s number olds paths
  over_exist number arc leaves olds = elim (cases_Bool (is_network area.ids arc.to)) [
    | inl holds ↦
        let made = path_over number arc (Some arc.to) in
        let more = across_exist area.arcs s number arc (olds ++ made ∷ []) (length area.arcs) (omega arith) in
        (more.0, network_adds area s number arc leaves kept (network_by_test area.ids arc.to holds) olds (olds ++ made ∷ []) more.0 made refl refl more.1)
    | inr fails ↦
        let made = path_over number arc None in
        (olds ++ made ∷ [], router_adds area s number arc leaves (no_network_by_test area.ids arc.to fails) olds (olds ++ made ∷ []) made refl refl)
  ]

  paths_to : (count : ℕ) → count ≤ length area.arcs → (paths : List NeighbourPath) × ArePathsTo area s count paths
  paths_to zero low = ([], no_path area s)
  paths_to (suc count) low =
      let before = paths_to count (omega (arith, low)) in
      let arc = there area.arcs count (omega (arith, low)) in
      subst (λ (n : ℕ). (paths : List NeighbourPath) × ArePathsTo area s n paths) (one_up count)
      (elim (cases_eq arc.0.tail s) [
        | inl from ↦
            let more = over_exist count arc.0 (record { there = arc.1; from = from }) before.0 in
            (more.0, arc_more area s count before.0 more.0 before.1 more.1)
        | inr other ↦
            (before.0, arc_left area s count before.0 (λ a at. subst (λ (x : Arc). x.tail ≢ s) (same_Some arc.0 a (sym arc.1 ∙ at)) other) before.1)
      ])

  pub paths_exist : (paths : List NeighbourPath) × ArePaths area s paths
  paths_exist =
      let all = paths_to (length area.arcs) (omega arith) in
      (all.0, all_paths area s (length area.arcs) all.0 all.0 (omega arith) all.1 (IsPermutation-refl all.0))

-- there are distances from each node
told : (area : AreaParts) → IsArea area → (n v : ℕ) → n < length area.ids → v < length area.ids → (o : Option ℕ) × IsTold area.arcs n v o
told area kept n v from to =
    let known = distances_exist area.arcs v (length area.ids) (λ arc has. let at = place_of area.arcs arc has in (arcs_between area kept).tails at.0 arc at.1) to in
    let is = there known.0 n (omega (arith, from, known.1)) in
    go known.0 known.2 is.0 is.1
  where
    go : (known : List (Option ℕ)) → AreDistances area.arcs v known → (o : Option ℕ) → slice_get known n ≡ Some o → (o : Option ℕ) × IsTold area.arcs n v o
    go known are None at = (None, are.none n at)
    go known are (Some d) at = (Some d, are.some n d at)

module _ (area : AreaParts) (kept : IsArea area) (s t : ℕ) (source : s < length area.ids) (to : t < length area.ids) (destination : Destination) (is : IsDestination area s t destination) where
  offered : (path : NeighbourPath) → path.next < length area.ids → (o : Option FreeCandidate) × ((choice : FreeCandidate) → (o ≡ Some choice) ↔ Offers area s t (Some destination) path choice)
  offered path within =
      let rest = told area kept path.next t within to in
      let out = told area kept path.next s within source in
      let through = told area kept path.next destination.primary.next within (part_of area kept s t destination.primary is.primary).next in
      (offer path destination t rest.0 out.0 through.0, offer_told area s t path destination is rest.0 out.0 through.0 rest.1 out.1 through.1)

  best_to : (paths : List NeighbourPath) → ArePaths area s paths → (count : ℕ) → count ≤ length paths → (best : Option FreeCandidate) × IsBest (IsOfferedBy area s t (Some destination) paths count) best
  best_to paths are zero low = (None, none_yet area s t (Some destination) paths)
  best_to paths are (suc count) low =
      let before = best_to paths are count (omega (arith, low)) in
      let path = there paths count (omega (arith, low)) in
      let more = offered path.0 (paths_within area kept s paths are count path.0 path.1) in
      let made = better before.0 more.0 in
      subst (λ (n : ℕ). (best : Option FreeCandidate) × IsBest (IsOfferedBy area s t (Some destination) paths n) best) (one_up count)
      (made, one_more area s t count (Some destination) paths path.0 before.0 made path.1 before.1 (record { offered = more.0; exactly = more.1; is = refl }))

by_primary : (area : AreaParts) → IsArea area → (s t : ℕ) → s < length area.ids → t < length area.ids → (entry : Option Primary) → IsPrimary area s t entry
    → (lfa : Option Lfa) × IsLfa area s t lfa
by_primary area kept s t source to None is = (None, NoPrimary is)
by_primary area kept s t source to (Some primary) is =
    let part = part_of area kept s t primary is in
    let destination : Destination = record { primary = primary; bond = part.arc.bond; distance = part.arc.metric + part.rest; beyond = part.rest } in
    let destination_is : IsDestination area s t destination = record { primary = is; arc = part.arc; there = part.there; bond = refl; far = part.near; beyond = part.far } in
    let paths = paths_exist area kept s in
    let best = best_to area kept s t source to destination destination_is paths.0 paths.1 (length paths.0) (omega arith) in
    (option_map alternate_of best.0, ByPrimary primary best.0 is (best_free area kept s paths.0 paths.1 t destination best.0 best.1))

pub lfa_exists : (area : AreaParts) → IsArea area → (s t : ℕ) → IsRouter area.ids s → t < length area.ids → (entry : Option Lfa) × IsLfa area s t entry
lfa_exists area kept s t router to =
    let primaries = primaries_exist area kept in
    by_primary area kept s t (router_within area.ids s router) to (primaries.0 s t) (primaries.1 s t router to)
