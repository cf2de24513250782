-- What blocks aim at, where they aim at one node at all places.
use Rattle.std.proofs.Common.{◌≡◌, ◌⊎◌, ◌∙◌, ◌<◌, ◌≤◌, ◌+◌, ℕ, Bool, true, List, Some, length, set, slice_get, slice_index, inl, inr, sym, ap, subst, arith}
use Rattle.std.proofs.lemmas.Bool.{cases_eq}
use Rattle.std.proofs.lemmas.List.{get_or-set_other, get_or-set_same, length-set}
use Rattle.std.proofs.lemmas.Option.{same_Some}
use Rattle.mrt_graph.proofs.ListPlaces.{set_elsewhere, set_there}
use Rattle.block_spf.specs.BlockAims.{aim_at}

-- the first so many blocks are looked at; the others are wanted as before
pub record AreSharedTo (count width : ℕ) (aims : List ℕ) (marks wanted : List Bool) (firsts : List ℕ) (shared : List Bool) (k : ℕ) : Type 0 where
  pub one_each : length wanted ≡ count
  pub one_first_each : length firsts ≡ count
  pub a_mark_each : length shared ≡ count
  pub first : (i : ℕ) → i < k → slice_index firsts i ≡ aim_at aims width 0 i
  pub alike : (j i : ℕ) → j < width → i < k → slice_get shared i ≡ Some true → aim_at aims width j i ≡ slice_index firsts i
  pub marked : (i : ℕ) → i < k → slice_get marks i ≡ Some true → (slice_get wanted i ≡ Some true) ⊎ (slice_get shared i ≡ Some true)
  pub ahead : (i : ℕ) → k ≤ i → slice_get wanted i ≡ slice_get marks i

-- one more is: where it is shared, it aims at one node; where it was wanted and is not shared, it is wanted still
pub one_shared : (count width : ℕ) (aims : List ℕ) (marks wanted : List Bool) (firsts : List ℕ) (shared : List Bool) (k first : ℕ) (is_shared left : Bool)
    → AreSharedTo count width aims marks wanted firsts shared k → k < count → first ≡ aim_at aims width 0 k
    → (is_shared ≡ true → (j : ℕ) → j < width → aim_at aims width j k ≡ first)
    → (slice_get wanted k ≡ Some true → (left ≡ true) ⊎ (is_shared ≡ true))
    → AreSharedTo count width aims marks (set wanted k left) (set firsts k first) (set shared k is_shared) (k + 1)
one_shared count width aims marks wanted firsts shared k first is_shared left so_far below is one kept = record {
  one_each = length-set wanted k left ∙ so_far.one_each;
  one_first_each = length-set firsts k first ∙ so_far.one_first_each;
  a_mark_each = length-set shared k is_shared ∙ so_far.a_mark_each;
  first = λ i before. elim (cases_eq i k) [
    | inl same ↦ ap (λ (x : ℕ). slice_index (set firsts k first) x) same ∙ here ∙ is ∙ ap (λ (x : ℕ). aim_at aims width 0 x) (sym same)
    | inr other ↦ there i other ∙ so_far.first i (omega (arith, before, other))
  ];
  alike = λ j i j_below before at. elim (cases_eq i k) [
    | inl same ↦
        let shared_here : slice_get (set shared k is_shared) k ≡ Some true = subst (λ (x : ℕ). slice_get (set shared k is_shared) x ≡ Some true) same at in
        let it : is_shared ≡ true = same_Some is_shared true (sym (set_there shared k is_shared (omega (arith, below, so_far.a_mark_each))) ∙ shared_here) in
        ap (λ (x : ℕ). aim_at aims width j x) same ∙ one it j j_below ∙ sym here ∙ ap (λ (x : ℕ). slice_index (set firsts k first) x) (sym same)
    | inr other ↦
        so_far.alike j i j_below (omega (arith, before, other)) (sym (set_elsewhere shared k i is_shared other) ∙ at) ∙ sym (there i other)
  ];
  marked = λ i before at. elim (cases_eq i k) [
    | inl same ↦
        let wanted_here : slice_get wanted k ≡ Some true =
        so_far.ahead k (omega arith) ∙ subst (λ (x : ℕ). slice_get marks x ≡ Some true) same at in
        elim (kept wanted_here) [
          | inl still ↦
              inl (ap (λ (x : ℕ). slice_get (set wanted k left) x) same ∙ set_there wanted k left (omega (arith, below, so_far.one_each))
              ∙ ap (λ (b : Bool). Some b) still)
          | inr now ↦
              inr (ap (λ (x : ℕ). slice_get (set shared k is_shared) x) same ∙ set_there shared k is_shared (omega (arith, below, so_far.a_mark_each))
              ∙ ap (λ (b : Bool). Some b) now)
        ]
    | inr other ↦ elim (so_far.marked i (omega (arith, before, other)) at) [
      | inl still ↦ inl (set_elsewhere wanted k i left other ∙ still)
      | inr now ↦ inr (set_elsewhere shared k i is_shared other ∙ now)
    ]
  ];
  ahead = λ i past. set_elsewhere wanted k i left (λ same. omega (arith, past, same)) ∙ so_far.ahead i (omega (arith, past));
}
  where
    here : slice_index (set firsts k first) k ≡ first
    here = get_or-set_same firsts k first 0 (omega (arith, below, so_far.one_first_each))

    there : (i : ℕ) → (i ≡ k → ⊥) → slice_index (set firsts k first) i ≡ slice_index firsts i
    there i other = get_or-set_other firsts k i first 0 other
