use Rattle.std.proofs.Common.{◌≡◌, ◌∙◌, ◌∷◌, [], ℕ, List, Option, length, refl, subst, arith}
use Rattle.std.specs.BinaryHeap.{heap_items}
use Rattle.std.specs.declared.cmp.Reverse.{Reverse}
use Rattle.mrt_graph.proofs.Members.{contains_first, contains_none}
use Rattle.primary_alt.specs.declared.backward.Offer.{Offer}
use Rattle.primary_alt.specs.steps.BackwardSearch.{AreSmall, IsSearching, Waits}
use Rattle.primary_alt.specs.Distances.{HasDistance}
use Rattle.primary_alt.proofs.BackwardSteps.{held, search_begins, search_ends, searching_moved}
use Rattle.primary_alt.proofs.backward.distances_to.Goals as goal

nothing_left : (heap : List (Reverse Offer)) → length heap ≡ 0 → heap ≡ []
nothing_left [] none = refl
nothing_left (offer ∷ heap) none = absurd (omega (arith, none))

none_small : (known : List (Option ℕ)) → ((v d : ℕ) → ¬ HasDistance known v d) → AreSmall known
none_small known none = λ v d has. absurd (none v d has)

pub loop-nearest-init : goal.loop-nearest-init
loop-nearest-init c =
    let offered = c.in_ok-offer_to.ensures.offered in
    let begun = c.forget.new.known.items in
    record {
      one_each = offered.one_each ∙ c.forget.ensures.one_each;
      small = offered.small (none_small begun c.forget.ensures.none) (omega arith);
      searching = search_begins c.args.into.now.arcs.items c.args.t begun c.offer_to.new.known.items (heap_items c.clear.new.self) (heap_items c.offer_to.new.waiting)
          (omega (arith, c.requires.node, c.forget.ensures.one_each)) c.forget.ensures.none
          (λ v d waits. contains_none (held v d) (subst (λ (xs : List (Reverse Offer)). Waits xs v d) c.clear.ensures.items waits)) offered;
    }

pub settle-requires-clause-tails : goal.settle-requires-clause-tails
settle-requires-clause-tails c = λ arc has. omega (arith, c.requires.tails arc has, c.loop-nearest.invariant.one_each)

pub settle-requires-clause-node : goal.settle-requires-clause-node
settle-requires-clause-node c =
    let moved = searching_moved c.args.into.now.arcs.items c.args.t c.loop-nearest.known.items (heap_items c.loop-nearest.waiting) (c.in-Some.field-0 ∷ heap_items c.pop.new.self)
    c.in-Some.ensures.permutation c.loop-nearest.invariant.searching in
    moved.within c.in-Some.field-0.0.node c.in-Some.field-0.0.distance (contains_first c.in-Some.field-0 (heap_items c.pop.new.self))

pub loop-nearest-preserved : goal.loop-nearest-preserved
loop-nearest-preserved c =
    let moved = searching_moved c.args.into.now.arcs.items c.args.t c.loop-nearest.known.items (heap_items c.loop-nearest.waiting) (c.in-Some.field-0 ∷ heap_items c.pop.new.self)
    c.in-Some.ensures.permutation c.loop-nearest.invariant.searching in
    record {
      one_each = c.in_ok-settle.ensures.one_each ∙ c.loop-nearest.invariant.one_each;
      small = c.in_ok-settle.ensures.small;
      searching = c.in_ok-settle.ensures.searching c.args.t moved;
    }

pub returns-clause-distances : goal.returns-clause-distances
returns-clause-distances c =
    let empty : heap_items c.loop-nearest.waiting ≡ [] =
    nothing_left (heap_items c.loop-nearest.waiting) (omega (arith, c.in_default.ensures.none, c.loop-nearest.waiting.data.ok.0)) in
    search_ends c.args.into.now.arcs.items c.args.t c.loop-nearest.known.items
    (subst (λ (xs : List (Reverse Offer)). IsSearching c.args.into.now.arcs.items c.args.t c.loop-nearest.known.items xs) empty c.loop-nearest.invariant.searching)
