use Rattle.std.proofs.Common.{◌≡◌, ◌<◌, ◌+◌, ◌∙◌, ℕ, List, Some, length, set, slice_get, inl, inr, refl, sym, ap, subst, arith}
use Rattle.std.proofs.lemmas.Bool.{cases_eq}
use Rattle.std.proofs.lemmas.List.{length-set}
use Rattle.std.proofs.lemmas.Option.{same_Some, slice_get_read, slice_get_within}
use Rattle.mrt_graph.proofs.ListPlaces.{set_elsewhere, set_there}
use Rattle.link_direction.specs.steps.Counting.{StandOnce}
use Rattle.link_direction.proofs.numbering.numbers_of.Goals as goal

-- one number more
number_more : (order numbers : List ℕ) (place u : ℕ) → StandOnce order → slice_get order place ≡ Some u → u < length numbers
    → ((k v : ℕ) → k < place → slice_get order k ≡ Some v → slice_get numbers v ≡ Some (k + 1))
    → (k v : ℕ) → k < place + 1 → slice_get order k ≡ Some v → slice_get (set numbers u (place + 1)) v ≡ Some (k + 1)
number_more order numbers place u once at within so_far k v low there = elim (cases_eq k place) [
  | inl same ↦
      let is : u ≡ v = same_Some u v (sym at ∙ ap (λ (i : ℕ). slice_get order i) (sym same) ∙ there) in
      subst (λ (w : ℕ). slice_get (set numbers u (place + 1)) w ≡ Some (k + 1)) is
      (set_there numbers u (place + 1) within ∙ ap (λ (i : ℕ). Some (i + 1)) (sym same))
  | inr other ↦
      set_elsewhere numbers u v (place + 1) (λ same. other (once k place v there (at ∙ ap (λ (w : ℕ). Some w) (sym same))))
      ∙ so_far k v (omega (arith, low, other)) there
]

pub loop-place-init : goal.loop-place-init
loop-place-init c = record {
  one_each = omega (arith, c.in_ok-numbers.ensures.len, c.in_ok-numbers.numbers.ok.0, c.node_count.ensures.count);
  so_far = λ k v low. absurd (omega (arith, low));
}

pub index_mut-requires : goal.index_mut-requires
index_mut-requires c =
    let u = c.index-order-place.result in
    let at = slice_get_read c.args.order.now (length c.args.order.now) c.loop-place.place u refl c.loop-place-test.true c.index-order-place.is in
    omega (arith, c.requires.within c.loop-place.place u at, c.get.ensures.value, c.loop-place.invariant.one_each, c.loop-place.numbers.ok.0)

pub loop-place-preserved : goal.loop-place-preserved
loop-place-preserved c =
    let order = c.args.order.now in
    let numbers = c.loop-place.numbers.items in
    let place = c.loop-place.place in
    let u = c.index-order-place.result in
    let at = slice_get_read order (length order) place u refl c.loop-place-test.true c.index-order-place.is in
    let within : u < length numbers = omega (arith, c.requires.within place u at, c.loop-place.invariant.one_each) in
    record {
      one_each = length-set numbers _ _ ∙ c.loop-place.invariant.one_each;
      so_far = λ k v low there.
          ap (λ (i : ℕ). slice_get (set numbers i (place + 1)) v) c.get.ensures.value
          ∙ number_more order numbers place u c.requires.once at within c.loop-place.invariant.so_far k v low there;
    }

pub returns : goal.returns
returns c = record {
  one_each = c.loop-place.invariant.one_each;
  places = λ k v at. c.loop-place.invariant.so_far k v (omega (arith, slice_get_within c.args.order.now k v at, c.loop-place-test.false)) at;
}
