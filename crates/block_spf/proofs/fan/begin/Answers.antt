use Rattle.std.proofs.Common.{rules, ◌≡◌, ◌<◌, ◌+◌, ◌∙◌, ℕ, Bool, List, true, Some, length, length-set, set, slice_get, refl, sym, ap, subst, inl, inr, arith}
use Rattle.std.proofs.lemmas.Bool.{cases_eq, cases_lt}
use Rattle.std.specs.Prelude.{replicate}
use Rattle.std.proofs.lemmas.List.{get_or-replicate, get_or_past, length-replicate}
use Rattle.std.proofs.lemmas.Option.{slice_get_within}
use Rattle.mrt_graph.proofs.ListPlaces.{set_elsewhere, set_there}
use Rattle.block_spf.specs.steps.Known.{AreLanes, OfAny, known_at, no_place, nothing}
use Rattle.block_spf.specs.steps.Offers.{IsFirstOffer}
use Rattle.block_spf.specs.Rest.{far}
use Rattle.link_direction.proofs.TwoNodes.{place_says}
use Rattle.block_spf.proofs.Offering.{none_yet, offered_all, offered_more}
use Rattle.block_spf.proofs.fan.begin.Goals as goal

-- nothing is known at any place
none_known : (count i : ℕ) → i < count → known_at (replicate count far) (replicate count no_place) i ≡ nothing
none_known count i inside = rw (get_or-replicate count i far 0 inside, get_or-replicate count i no_place 0 inside) refl

blank : (count : ℕ) → AreLanes (replicate count far) (replicate count no_place)
blank count = record {
  one_place_each = length-replicate count no_place ∙ sym (length-replicate count far);
  none = λ i above. elim (cases_lt i count) [
    | inl inside ↦ none_known count i inside
    | inr past ↦ absurd (omega (arith, above, get_or_past (replicate count far) i 0 (omega (arith, past, length-replicate count far))))
  ];
}

-- marks where one more is set
marked : (marks : List Bool) (i k : ℕ) → i ≡ k → k < length marks → slice_get (set marks i true) k ≡ Some true
marked marks i k is within = subst (λ (v : ℕ). slice_get (set marks v true) k ≡ Some true) (sym is) (set_there marks k true within)

stays : (marks : List Bool) (i k : ℕ) → slice_get marks k ≡ Some true → slice_get (set marks i true) k ≡ Some true
stays marks i k at = elim (cases_eq i k) [
  | inl same ↦ marked marks i k same (slice_get_within marks k true at)
  | inr other ↦ set_elsewhere marks i k true (λ same. other (sym same)) ∙ at
]

pub loop-j-init : goal.loop-j-init
loop-j-init c =
    let costs = c.fill.ensures.after (λ y same. search rules) in
    let places = c.fill-2.ensures.after (λ y same. search rules) in
    record {
      lanes = rw (costs, places, c.requires.places, sym c.requires.costs) (blank (length c.args.costs.now));
      begun = λ root w are. none_yet _ (known_at c.fill.new.self c.fill-2.new.self);
      stops = record {
        one_each = c.fill-3.ensures.len ∙ c.requires.stops;
        sources = λ k below. absurd (omega (arith, below));
        heads = λ root k w are below. absurd (omega (arith, below));
      };
    }

pub loop-j-preserved : goal.loop-j-preserved
loop-j-preserved c =
    let opening = c.args.opening.now in
    let g = opening.graph.now in
    let first = opening.first in
    let j = c.loop-j.j in
    let s = c.new-source.result in
    let source : s ≡ first + j = omega (arith, c.new-source.ensures, c.get.ensures.value) in
    let within : s < length g.ids = omega (arith, source, c.loop-j-test.true, c.source_count-j-end.ensures.within) in
    let so_far = c.loop-j.invariant.stops in
    let marks = set c.loop-j.stops c.get-in-loop-j.result true in
    let long : length marks ≡ length g.ids = length-set c.loop-j.stops c.get-in-loop-j.result true ∙ so_far.one_each in
    let head = c.get-in-loop-j-2.result in
    record {
      lanes = c.offer_begun.ensures.lanes;
      begun = λ root w are.
          offered_more (λ k. OfAny (IsFirstOffer opening w (first + k) c.args.width k)) (OfAny (IsFirstOffer opening w s c.args.width j)) j _ _ _
          (λ i offer. subst (λ (x : ℕ). OfAny (IsFirstOffer opening w x c.args.width j) i offer) source)
          (λ i offer. subst (λ (x : ℕ). OfAny (IsFirstOffer opening w x c.args.width j) i offer) (sym source))
          (c.loop-j.invariant.begun root w are) (c.offer_begun.ensures.offered root w are);
      stops = record {
        one_each = length-set marks head true ∙ long;
        sources = λ k below inside. stays marks head (first + k) (elim (cases_eq k j) [
          | inl same ↦
              marked c.loop-j.stops c.get-in-loop-j.result (first + k) (omega (arith, c.get-in-loop-j.ensures.value, source, same)) (omega (arith, inside, so_far.one_each))
          | inr other ↦ stays c.loop-j.stops c.get-in-loop-j.result (first + k) (so_far.sources k (omega (arith, below, other)) inside)
        ]);
        heads = λ root k w are below inside. elim (cases_eq k j) [
          | inl same ↦
              let place = place_says g opening.directed.now w s c.place.result are.says within c.place.ensures in
              let it : s ≡ first + k = omega (arith, source, same) in
              marked marks head (w.head (first + k)) (c.get-in-loop-j-2.ensures.value ∙ place.0 ∙ ap w.head it)
              (omega (arith, are.ordered.heads.head_within (first + k) inside, long))
          | inr other ↦
              stays marks head (w.head (first + k))
              (stays c.loop-j.stops c.get-in-loop-j.result (w.head (first + k)) (so_far.heads root k w are (omega (arith, below, other)) inside))
        ];
      };
    }

pub returns-clause-begun : goal.returns-clause-begun
returns-clause-begun c =
    let opening = c.args.opening.now in
    record {
      one_cost_each = omega (arith, c.requires.costs);
      lanes = c.loop-j.invariant.lanes;
      before = known_at c.fill.new.self c.fill-2.new.self;
      blank = λ i inside.
          rw (c.fill.ensures.after (λ y same. search rules), c.fill-2.ensures.after (λ y same. search rules), c.requires.places, sym c.requires.costs)
          (none_known (length c.args.costs.now) i (omega (arith, inside)));
      offered = λ root w are.
          offered_all (λ k. OfAny (IsFirstOffer opening w (opening.first + k) c.args.width k)) _ c.loop-j.j _ _
          (λ i offer of. record { index = of.index; is = of.is })
          (λ i offer of.
          let it = of.is.is in
          let listed = slice_get_within opening.graph.now.ends (opening.first + of.index) it.step.ends it.step.list in
          let early = c.source_count-j-end.ensures.all of.index it.below (omega (arith, listed, c.requires.opening.kept.a_list_each)) in
          record { index = of.index; early = omega (arith, c.loop-j-test.false, early); is = of.is })
          (c.loop-j.invariant.begun root w are);
    }

pub returns-clause-stops : goal.returns-clause-stops
returns-clause-stops c =
    let so_far = c.loop-j.invariant.stops in
    record {
      one_each = so_far.one_each;
      sources = λ k below inside. so_far.sources k (reached k below inside) inside;
      heads = λ root k w are below inside. so_far.heads root k w are (reached k below inside) inside;
    }
  where
    reached : (k : ℕ) → k < c.args.width → c.args.opening.now.first + k < length c.args.opening.now.graph.now.ids → k < c.loop-j.j
    reached k below inside = let early = c.source_count-j-end.ensures.all k below inside in omega (arith, early, c.loop-j-test.false)
