-- What is known to stand before the entries of a way, as a pass over all entries goes on.
use Rattle.std.proofs.Common.{◌≡◌, ◌∙◌, ◌+◌, ◌≤◌, ◌<◌, ℕ, zero, suc, true, false, List, [], ◌∷◌, ◌++◌, length, get_or, set, refl, sym, subst, inl, inr, arith}
use Rattle.std.specs.List.Sorted.{IsSorted}
use Rattle.std.proofs.lemmas.Bool.{cases_eq, cases_lt, both_ways, false_from_ne_true}
use Rattle.std.proofs.lemmas.List.{get_or_default, get_or-set_same, get_or-set_other}
use Rattle.area_graph.specs.declared.entry.NumberedEntry.{NumberedEntry as Entry}
use Rattle.area_graph.specs.steps.NumberedArcs.{pairing_cmp}
use Rattle.area_graph.specs.steps.EntryOrder.{is_before_ends, AreBefore, AreMarks, IsFirstOf, IsUpto}
use Rattle.area_graph.proofs.EntriesInOrder.{IsWayBelow, IsWayUpto, below_from_true, partitioned, true_from_below, ways_climb}

pub none_before : (tail far : ℕ) (xs : List Entry) → AreBefore tail far xs 0
none_before tail far xs = record { within = omega arith; below = λ k d low under. absurd (omega (arith, under)) }

pub before_first : (tail far : ℕ) (xs : List Entry) (first : ℕ) → IsFirstOf tail far xs first → AreBefore tail far xs first
before_first tail far xs first is_first = record { within = is_first.within; below = is_first.below }

below_then : (t f tail far tail' far' : ℕ) → IsWayBelow t f tail far → IsWayUpto tail far tail' far' → IsWayBelow t f tail' far'
below_then t f tail far tail' far' (inl lower) (inl lower') = inl (omega arith)
below_then t f tail far tail' far' (inl lower) (inr same') = inl (omega arith)
below_then t f tail far tail' far' (inr same) (inl lower') = inl (omega arith)
below_then t f tail far tail' far' (inr same) (inr same') = inr (omega arith, omega arith)

-- what stands before a way stands before a later one
pub before_later : (t f t' f' : ℕ) (xs : List Entry) (place : ℕ) → IsWayUpto t f t' f' → AreBefore t f xs place → AreBefore t' f' xs place
before_later t f t' f' xs place up before = record {
  within = before.within;
  below = λ k d low under. true_from_below t' f' (get_or xs k d)
      (below_then (get_or xs k d).tail (get_or xs k d).far t f t' f' (below_from_true t f (get_or xs k d) (before.below k d low under)) up);
}

-- one more
pub before_more : (tail far : ℕ) (xs : List Entry) (at : ℕ) (e : Entry) → AreBefore tail far xs at → at < length xs → is_before_ends tail far (get_or xs at e) ≡ true
    → AreBefore tail far xs (at + 1)
before_more tail far xs at e before within passes = record {
  within = omega (arith, within);
  below = λ k d low under. elim (cases_lt k at) [
    | inl earlier ↦ before.below k d low earlier
    | inr last ↦
        let same : at ≡ k = omega (arith, under, last) in
        subst (λ (n : ℕ). is_before_ends tail far (get_or xs n d) ≡ true) same (rw (get_or_default xs at d e within) passes)
  ];
}

-- and no more
pub first_found : (tail far : ℕ) (xs : List Entry) (at : ℕ) (e : Entry) → IsSorted pairing_cmp xs → AreBefore tail far xs at
    → (at < length xs → is_before_ends tail far (get_or xs at e) ≡ false) → IsFirstOf tail far xs at
first_found tail far xs at e sorted before stops = record {
  within = before.within;
  below = before.below;
  above = λ k d from under.
      let within : at < length xs = omega (arith, from, under) in
      false_from_ne_true (is_before_ends tail far (get_or xs k d))
      (λ also. both_ways (is_before_ends tail far (get_or xs at e)) (stops within)
      (rw (get_or_default xs at e d within) (partitioned tail far xs sorted at k d from under also)));
}

-- a fact of each place of a list and of all beyond it, with one element more
pub all_more : {X : Type 0} (P : ℕ → X → Type 0) (xs : List X) (x d : X) → ((n : ℕ) → P n (get_or xs n d)) → P (length xs) x → (n : ℕ) → P n (get_or (xs ++ x ∷ []) n d)
all_more P [] x d all here zero = here
all_more P [] x d all here (suc n) = all (suc n)
all_more P (y ∷ ys) x d all here zero = all 0
all_more P (y ∷ ys) x d all here (suc n) = all_more (λ k. P (suc k)) ys x d (λ k. all (suc k)) here n

pub marks_begin : (xs : List Entry) (marks : List ℕ) → ((node : ℕ) → AreBefore node 0 xs (get_or marks node 0)) → AreMarks xs 0 marks
marks_begin xs marks all = record {
  upto = λ node k d low under. before_later node 0 node (get_or xs k d).tail xs (get_or marks node 0) (inr (refl, omega arith)) (all node);
}

pub marks_stay : (xs : List Entry) (place : ℕ) (marks : List ℕ) → AreMarks xs place marks → AreMarks xs (place + 1) marks
marks_stay xs place marks are = record { upto = λ node k d low under. are.upto node k d (omega (arith, low)) under }

-- ways climb from an entry on
climb : (xs : List Entry) (place : ℕ) (e : Entry) → IsSorted pairing_cmp xs → get_or xs place e ≡ e → (k : ℕ) (d : Entry) → place + 1 ≤ k → k < length xs
    → IsWayUpto e.tail e.far (get_or xs k d).tail (get_or xs k d).far
climb xs place e sorted there k d low under =
    let read : get_or xs place d ≡ e = get_or_default xs place d e (omega (arith, low, under)) ∙ there in
    rw read at (ways_climb xs sorted place k d (omega (arith, low)) under)

tails : (t f t' f' : ℕ) → IsWayUpto t f t' f' → t ≤ t'
tails t f t' f' (inl lower) = omega arith
tails t f t' f' (inr same) = omega arith

pub marks_move : (xs : List Entry) (place : ℕ) (e : Entry) (marks : List ℕ) (first : ℕ) → IsSorted pairing_cmp xs → get_or xs place e ≡ e → e.far < length marks
    → IsFirstOf e.far e.tail xs first → AreMarks xs place marks → AreMarks xs (place + 1) (set marks e.far first)
marks_move xs place e marks first sorted there within is_first are = record {
  upto = λ node k d low under. elim (cases_eq node e.far) [
    | inl same ↦
        let later : e.tail ≤ (get_or xs k d).tail = tails e.tail e.far (get_or xs k d).tail (get_or xs k d).far (climb xs place e sorted there k d low under) in
        subst (λ (n : ℕ). AreBefore n (get_or xs k d).tail xs (get_or (set marks e.far first) n 0)) (sym same)
        (rw (get_or-set_same marks e.far first 0 within)
        (before_later e.far e.tail e.far (get_or xs k d).tail xs first (inr (refl, later)) (before_first e.far e.tail xs first is_first)))
    | inr other ↦ rw (get_or-set_other marks e.far node first 0 other) (are.upto node k d (omega (arith, low)) under)
  ];
}

pub upto_none : (xs : List Entry) → IsUpto xs 0 0
upto_none xs = record { upto = λ k d low under. none_before (get_or xs k d).tail (get_or xs k d).far xs }

pub upto_next : (xs : List Entry) (place : ℕ) (e : Entry) (first : ℕ) → IsSorted pairing_cmp xs → get_or xs place e ≡ e → IsFirstOf e.tail e.far xs first
    → IsUpto xs (place + 1) first
upto_next xs place e first sorted there is_first = record {
  upto = λ k d low under. before_later e.tail e.far (get_or xs k d).tail (get_or xs k d).far xs first (climb xs place e sorted there k d low under)
      (before_first e.tail e.far xs first is_first);
}
