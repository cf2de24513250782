-- The first arc that attains the distance of its tail begins a shortest path.
use Rattle.std.proofs.Common.{◌≡◌, ◌≢◌, ◌<◌, ◌+◌, ℕ, List, [], ◌∷◌, Option, Some, None, length, slice_get, inl, inr, sym, subst, arith}
use Rattle.std.specs.Prelude.{Contains, IsPermutation}
use Rattle.std.proofs.lemmas.Bool.{cases_lt}
use Rattle.std.proofs.lemmas.List.Sorted.{Contains-permutation, IsPermutation-sym}
use Rattle.area_graph.specs.declared.area_types.Arc.{Arc}
use Rattle.area_graph.specs.AreaInvariant.{IsArea}
use Rattle.area_graph.specs.Parts.{AreaParts}
use Rattle.area_graph.specs.steps.Starts.{below}
use Rattle.mrt_graph.proofs.ListPlaces.{place_of}
use Rattle.mrt_graph.proofs.ListTests.{there}
use Rattle.primary_alt.specs.steps.Attaining.{Attains, Does, IsFirstToAttain, NoneDoes}
use Rattle.primary_alt.specs.ArcWalk.{ArcWalk, cost_of}
use Rattle.primary_alt.specs.steps.Distances.{AreDistances}
use Rattle.primary_alt.specs.Distances.{HasDistance}
use Rattle.primary_alt.specs.steps.FirstArcs.{IsFirstFor}
use Rattle.primary_alt.specs.Primaries.{BeginsShortest}
use Rattle.primary_alt.proofs.AreaArcs.{arcs_between}
use Rattle.primary_alt.proofs.ArcWalks.{one_distance}
use Rattle.primary_alt.proofs.ArcsOffered.{leaves, not_higher, not_lower}

-- distances do not depend on the order of the arcs
walk_moved : (arcs others : List Arc) → ((arc : Arc) → Contains arcs arc → Contains others arc) → (walk : List Arc) (s t : ℕ) → ArcWalk arcs s walk t → ArcWalk others s walk t
walk_moved arcs others all [] s t w = w
walk_moved arcs others all (arc ∷ more) s t w = (all arc w.0, w.1, walk_moved arcs others all more arc.to t w.2)

pub distances_moved : (arcs others : List Arc) (t : ℕ) (known : List (Option ℕ)) → IsPermutation others arcs → AreDistances arcs t known → AreDistances others t known
distances_moved arcs others t known p are = record {
  some = λ v d has.
      let is = are.some v d has in
      record { walk = is.walk; leads = there is.walk v is.leads; costs = is.costs; least = λ walk w. is.least walk (back walk v w) };
  none = λ v has walk w. are.none v has walk (back walk v w);
}
  where
    there : (walk : List Arc) (v : ℕ) → ArcWalk arcs v walk t → ArcWalk others v walk t
    there walk v w = walk_moved arcs others (λ arc has. Contains-permutation arcs others arc (IsPermutation-sym others arcs p) has) walk v t w

    back : (walk : List Arc) (v : ℕ) → ArcWalk others v walk t → ArcWalk arcs v walk t
    back walk v w = walk_moved others arcs (λ arc has. Contains-permutation others arcs arc p has) walk v t w

-- a node from which a walk leads has its distance
pub distance_there : (arcs : List Arc) (t v : ℕ) (known : List (Option ℕ)) (walk : List Arc) → v < length known → AreDistances arcs t known → ArcWalk arcs v walk t
    → (d : ℕ) × HasDistance known v d
distance_there arcs t v known walk within are w = let at = there known v within in by_cases at.0 at.1
  where
    by_cases : (o : Option ℕ) → slice_get known v ≡ Some o → (d : ℕ) × HasDistance known v d
    by_cases None at = absurd (are.none v at walk w)
    by_cases (Some d) at = (d, at)

module _ (area : AreaParts) (kept : IsArea area) (t : ℕ) (known : List (Option ℕ)) (one_each : length known ≡ length area.ids)
    (are : AreDistances area.arcs t known) where
  attains_by : (k : ℕ) (arc : Arc) → slice_get area.arcs k ≡ Some arc → BeginsShortest area.arcs t arc → Attains known arc
  attains_by k arc at shortest =
      let to = distance_there area.arcs t arc.to known shortest.far.walk (omega (arith, one_each, (arcs_between area kept).tos k arc at)) are shortest.far.leads in
      let tail = distance_there area.arcs t arc.tail known shortest.near.walk (omega (arith, one_each, (arcs_between area kept).tails k arc at)) are shortest.near.leads in
      let same = one_distance area.arcs arc.to t to.0 shortest.rest (are.some arc.to to.0 to.1) shortest.far in
      let same' = one_distance area.arcs arc.tail t tail.0 (arc.metric + shortest.rest) (are.some arc.tail tail.0 tail.1) shortest.near in
      record {
        rest = shortest.rest;
        far = subst (λ (d : ℕ). HasDistance known arc.to d) same to.1;
        near = subst (λ (d : ℕ). HasDistance known arc.tail d) same' tail.1;
      }

  shortest_by : (arc : Arc) → Attains known arc → BeginsShortest area.arcs t arc
  shortest_by arc attains = record {
    rest = attains.rest;
    far = are.some arc.to attains.rest attains.far;
    near = are.some arc.tail (arc.metric + attains.rest) attains.near;
  }

  -- an arc that a least walk begins with attains the distance
  begins_walk : (x d : ℕ) → x ≢ t → HasDistance known x d → (walk : List Arc) → ArcWalk area.arcs x walk t → cost_of walk ≡ d
      → (arc : Arc) × Contains area.arcs arc × (arc.tail ≡ x) × Attains known arc
  begins_walk x d apart has [] w cost = absurd (apart w)
  begins_walk x d apart has (arc ∷ more) w cost =
      let at = place_of area.arcs arc w.0 in
      let to = distance_there area.arcs t arc.to known more (omega (arith, one_each, (arcs_between area kept).tos at.0 arc at.1)) are w.2 in
      let rest = are.some arc.to to.0 to.1 in
      let whole = are.some x d has in
      let low = whole.least (arc ∷ rest.walk) (w.0, w.1, rest.leads) in
      let same : d ≡ arc.metric + to.0 = omega (arith, cost, low, rest.costs, rest.least more w.2) in (
        arc,
        w.0,
        w.1,
        record {
          rest = to.0;
          far = to.1;
          near = subst (λ (v : ℕ). HasDistance known v (arc.metric + to.0)) (sym w.1) (subst (λ (n : ℕ). HasDistance known x n) same has);
        },
      )

  pub first_by_distances : (x low high : ℕ) (first : Option ℕ) → x < length area.ids → x ≢ t → low ≡ below x area.arcs → high ≡ below (x + 1) area.arcs
      → IsFirstToAttain area.arcs low high known first → IsFirstFor area.arcs x t first
  first_by_distances x low high first within apart begins ends (NoneDoes none) = λ walk w.
      let found = distance_there area.arcs t x known walk (omega (arith, one_each, within)) are w in
      let whole = are.some x found.0 found.1 in
      let arc = begins_walk x found.0 apart found.1 whole.walk whole.leads whole.costs in
      let at = place_of area.arcs arc.0 arc.1 in
      none at.0 arc.0 (omega (arith, begins, not_lower area x at.0 arc.0 kept at.1 arc.2)) (omega (arith, ends, not_higher area x at.0 arc.0 kept at.1 arc.2)) at.1 arc.3
  first_by_distances x low high first within apart begins ends (Does number arc from to at attains none) = (
    arc,
    record {
      there = at;
      from = leaves area x number arc kept at (omega (arith, begins, from)) (omega (arith, ends, to));
      shortest = shortest_by arc attains;
      first = λ k other at' tail shortest. elim (cases_lt k number) [
        | inl early ↦
            absurd (none k other (omega (arith, begins, not_lower area x k other kept at' tail)) early at' (attains_by k other at' shortest))
        | inr upto ↦ upto
      ];
    },
  )
