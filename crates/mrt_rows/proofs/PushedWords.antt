-- Words put one after another, each for what stands at its place.
use Rattle.std.proofs.Common.{◌≡◌, ◌∙◌, ◌<◌, ◌+◌, ◌++◌, ℕ, List, [], ◌∷◌, Some, length, slice_get, sym, ap, subst, inl, inr, arith}
use Rattle.std.proofs.lemmas.Bool.{cases_eq}
use Rattle.mrt_graph.proofs.ListPlaces.{at_last, at_left}

-- what is put after so many stands at that place
pub stands_last : {Y : Type 0} (ys : List Y) (k : ℕ) (y : Y) → length ys ≡ k → slice_get (ys ++ y ∷ []) k ≡ Some y
stands_last ys k y many = subst (λ (i : ℕ). slice_get (ys ++ y ∷ []) i ≡ Some y) many (at_last ys y)

pub one_word_more : {X Y : Type 0} (words : ℕ → X → Y) (xs : List X) (ys : List Y) (k : ℕ) (y : Y) → length ys ≡ k
    → ((x : X) → slice_get xs k ≡ Some x → y ≡ words k x)
    → ((a : ℕ) (x : X) → a < k → slice_get xs a ≡ Some x → slice_get ys a ≡ Some (words a x))
    → (a : ℕ) (x : X) → a < k + 1 → slice_get xs a ≡ Some x → slice_get (ys ++ y ∷ []) a ≡ Some (words a x)
one_word_more words xs ys k y many is so_far a x below at = elim (cases_eq a k) [
  | inl same ↦
      let here : slice_get xs k ≡ Some x = subst (λ (i : ℕ). slice_get xs i ≡ Some x) same at in
      subst (λ (i : ℕ). slice_get (ys ++ y ∷ []) i ≡ Some (words i x)) (sym same)
      (stands_last ys k y many ∙ ap (λ z. Some z) (is x here))
  | inr other ↦ at_left ys (y ∷ []) a (words a x) (so_far a x (omega (arith, below, other)) at)
]
