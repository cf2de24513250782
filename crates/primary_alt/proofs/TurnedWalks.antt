-- Walks along arcs, and along the arcs turned round.
use Rattle.std.proofs.Common.{◌≡◌, ◌<◌, ◌+◌, ◌++◌, ℕ, List, [], ◌∷◌, Option, Some, None, length, map, slice_get, refl, sym, subst, arith}
use Rattle.std.specs.Prelude.{Contains}
use Rattle.area_graph.specs.declared.area_types.Arc.{Arc}
use Rattle.mrt_graph.proofs.ListPlaces.{contains_at}
use Rattle.mrt_graph.proofs.ListTests.{there}
use Rattle.mrt_graph.proofs.Members.{contains_from_has, has_from_contains, has_map, is_from}
use Rattle.primary_alt.specs.ArcWalk.{ArcWalk, cost_of}
use Rattle.primary_alt.specs.steps.BackwardSearch.{HasAtMost}
use Rattle.primary_alt.specs.steps.Distances.{AreDistances}
use Rattle.primary_alt.specs.Distances.{HasDistance}
use Rattle.primary_alt.specs.DistancesFrom.{AreDistancesFrom}
use Rattle.primary_alt.specs.steps.Turned.{turned}
use Rattle.primary_alt.proofs.ArcWalks.{arc_onward, cost_onward}

-- one walk after another
pub joined : (arcs walk more : List Arc) (s x v : ℕ) → ArcWalk arcs s walk x → ArcWalk arcs x more v → ArcWalk arcs s (walk ++ more) v
joined arcs [] more s x v w m = subst (λ (u : ℕ). ArcWalk arcs u more v) (sym w) m
joined arcs (arc ∷ walk) more s x v w m = (w.0, w.1, joined arcs walk more arc.to x v w.2 m)

pub cost_joined : (walk more : List Arc) → cost_of (walk ++ more) ≡ cost_of walk + cost_of more
cost_joined [] more = omega arith
cost_joined (arc ∷ walk) more = omega (arith, cost_joined walk more)

-- a walk turned round, and then another one
turn : List Arc → List Arc → List Arc
turn [] done = done
turn (arc ∷ walk) done = turn walk (turned arc ∷ done)

turn_cost : (walk done : List Arc) → cost_of (turn walk done) ≡ cost_of walk + cost_of done
unfolding turn
turn_cost [] done = omega arith
turn_cost (arc ∷ walk) done = omega (arith, turn_cost walk (turned arc ∷ done))

turn_walk : (arcs others : List Arc) → ((arc : Arc) → Contains arcs arc → Contains others (turned arc)) → (walk done : List Arc) (s x v : ℕ) → ArcWalk arcs x walk v → ArcWalk others x done s
    → ArcWalk others v (turn walk done) s
unfolding turn
turn_walk arcs others all [] done s x v w d = subst (λ (u : ℕ). ArcWalk others u done s) w d
turn_walk arcs others all (arc ∷ walk) done s x v w d =
    turn_walk arcs others all walk (turned arc ∷ done) s arc.to v w.2 (all arc w.0, refl, subst (λ (u : ℕ). ArcWalk others u done s) (sym w.1) d)

-- arcs turned round twice are the arcs
there_too : (arcs : List Arc) (arc : Arc) → Contains arcs arc → Contains (map turned arcs) (turned arc)
there_too arcs arc has = contains_from_has (map turned arcs) (turned arc) (has_map turned arcs arc (has_from_contains arcs arc has))

back_again : (arcs : List Arc) (other : Arc) → Contains (map turned arcs) other → Contains arcs (turned other)
back_again arcs other has =
    let one = is_from turned arcs other (has_from_contains (map turned arcs) other has) in
    subst (λ (a : Arc). Contains arcs (turned a)) one.is (contains_from_has arcs one.origin one.there)

-- so distances along these are those the other way
pub distances_turned : (arcs : List Arc) (s : ℕ) (known : List (Option ℕ)) → AreDistances (map turned arcs) s known → AreDistancesFrom arcs s known
distances_turned arcs s known are = record {
  some = λ t d has.
      let is = are.some t d has in
      record {
        walk = turn is.walk [];
        leads = turn_walk (map turned arcs) arcs (back_again arcs) is.walk [] t t s is.leads refl;
        costs = omega (arith, turn_cost is.walk [], is.costs);
        least = λ other w.
            omega (arith, turn_cost other [], is.least (turn other []) (turn_walk arcs (map turned arcs) (there_too arcs) other [] s s t w refl));
      };
  none = λ t at walk w. are.none t at (turn walk []) (turn_walk arcs (map turned arcs) (there_too arcs) walk [] s s t w refl);
}

-- a node that a walk leads to has its distance
pub upto_walk : (arcs : List Arc) (s : ℕ) (known : List (Option ℕ)) → AreDistancesFrom arcs s known → (v : ℕ) (walk : List Arc) → v < length known → ArcWalk arcs s walk v
    → HasAtMost known v (cost_of walk)
upto_walk arcs s known from v walk within w = let at = there known v within in by_cases at.0 at.1
  where
    by_cases : (o : Option ℕ) → slice_get known v ≡ Some o → HasAtMost known v (cost_of walk)
    by_cases None at = absurd (from.none v at walk w)
    by_cases (Some d) at = let is = from.some v d at in record { least = d; there = at; upto = is.least walk w }

module _ (arcs : List Arc) (s count : ℕ) (known : List (Option ℕ)) (one_each : length known ≡ count) (from : AreDistancesFrom arcs s known)
    (tos : (k : ℕ) (arc : Arc) → slice_get arcs k ≡ Some arc → arc.to < count) where
  -- a walk that is least is so on its way
  pub on_way : (x d number v : ℕ) (arc : Arc) (more : List Arc) → HasDistance known x d → slice_get arcs number ≡ Some arc → arc.tail ≡ x
      → ArcWalk arcs arc.to more v → HasDistance known v (d + (arc.metric + cost_of more)) → HasDistance known arc.to (d + arc.metric)
  on_way x d number v arc more has there tail w whole =
      let is = from.some x d has in
      let step = arc_onward arcs is.walk s x arc is.leads (contains_at arcs number arc there) tail in
      let upto = upto_walk arcs s known from arc.to (is.walk ++ arc ∷ []) (omega (arith, one_each, tos number arc there)) step in
      let next = from.some arc.to upto.least upto.there in
      let last = from.some v _ whole in
      let low = last.least (next.walk ++ more) (joined arcs next.walk more s arc.to v next.leads w) in
      let same : upto.least ≡ d + arc.metric =
      omega (arith, upto.upto, cost_onward is.walk arc, is.costs, low, cost_joined next.walk more, next.costs) in
      subst (λ (n : ℕ). HasDistance known arc.to n) same upto.there
