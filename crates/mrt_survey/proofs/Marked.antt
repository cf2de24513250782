-- Marks that are made one after another, and their number.
use Rattle.std.proofs.Common.{◌≡◌, ◌⊎◌, ◌↔◌, ◌∙◌, ◌<◌, ◌+◌, ℕ, suc, Bool, true, false, List, [], ◌∷◌, length, set, inl, inr, refl, sym, ap, subst, get_or, arith}
use Rattle.std.specs.Prelude.{Contains, replicate, slice_index_or}
use Rattle.std.specs.List.{filter, range_with_len}
use Rattle.std.proofs.lemmas.List.{get_or-set_same}
use Rattle.mrt_graph.specs.Search.{IsMarked}
use Rattle.mrt_graph.proofs.Members.{Has, contains_from_has, has_from_contains}
use Rattle.mrt_graph.proofs.Searching.{mark_kept, mark_set, no_mark_at_first}
use Rattle.mrt_survey.specs.Counting.{AreSoMany}
use Rattle.mrt_survey.specs.steps.Marking.{IsMarkedToo}

-- what is marked, and what is left to be marked
abbrev pub MarkedSoFar : List ℕ → List ℕ → List Bool → List Bool → Type 0
MarkedSoFar numbers left before marks = (k : ℕ) → (IsMarked marks k ⊎ Has left k) ↔ (IsMarked before k ⊎ Has numbers k)

pub so_far_begins : (numbers : List ℕ) (before : List Bool) → MarkedSoFar numbers numbers before before
so_far_begins numbers before k = ((λ h. h), (λ h. h))

pub so_far_goes_on : (numbers left : List ℕ) (x : ℕ) (before marks : List Bool) → x < length marks
    → MarkedSoFar numbers (x ∷ left) before marks → MarkedSoFar numbers left before (set marks x true)
so_far_goes_on numbers left x before marks within so_far k = (
  (λ h. elim h [
    | inl marked ↦ elim (mark_set marks x k within marked) [
      | inl old ↦ (so_far k).0 (inl old)
      | inr same ↦ (so_far k).0 (inr (inl (sym same)))
    ]
    | inr later ↦ (so_far k).0 (inr (inr later))
  ]),
  (λ h. elim ((so_far k).1 h) [
    | inl old ↦ inl (mark_kept marks x k within old)
    | inr found ↦ elim found [
      | inl same ↦ inl (subst (λ (y : ℕ). IsMarked (set marks x true) y) same (get_or-set_same marks x true false within))
      | inr later ↦ inr later
    ]
  ]),
)

pub so_far_ends : (numbers left : List ℕ) (before marks : List Bool) → left ≡ [] → MarkedSoFar numbers left before marks → IsMarkedToo numbers before marks
so_far_ends numbers left before marks none so_far k = (
  (λ marked. elim ((so_far k).0 (inl marked)) [
    | inl old ↦ inl old
    | inr found ↦ inr (contains_from_has numbers k found)
  ]),
  (λ h. elim h [
    | inl old ↦ ended ((so_far k).1 (inl old))
    | inr found ↦ ended ((so_far k).1 (inr (has_from_contains numbers k found)))
  ]),
)
  where
    ended : IsMarked marks k ⊎ Has left k → IsMarked marks k
    ended (inl marked) = marked
    ended (inr later) = absurd (subst (λ (xs : List ℕ). Has xs k) none later)

count_shifted : (marks : List Bool) (test : ℕ → Bool) (from : ℕ) → ((k : ℕ) → k < length marks → test (from + k) ≡ get_or marks k false)
    → length (filter (λ mark. mark) marks) ≡ length (filter test (range_with_len from (length marks)))
count_shifted [] test from told = refl
count_shifted (mark ∷ marks) test from told =
    go mark (sym (ap test (omega arith)) ∙ told 0 (omega arith))
    (count_shifted marks test (from + 1) (λ k within. ap test (omega arith) ∙ told (suc k) (omega (arith, within))))
  where
    go : (mark : Bool) → test from ≡ mark → length (filter (λ mark. mark) marks) ≡ length (filter test (range_with_len (from + 1) (length marks)))
        → length (filter (λ mark. mark) (mark ∷ marks)) ≡ length (filter test (range_with_len from (length {A = Bool} (mark ∷ marks))))
    go true is rest = rw is (ap (λ (n : ℕ). suc n) rest)
    go false is rest = rw is rest

-- so many numbers are marked
pub so_many_marked : (HasIt : ℕ → Type 0) (n count : ℕ) (marks : List Bool) → length marks ≡ n → count ≡ length (filter (λ mark. mark) marks)
    → ((x : ℕ) → (IsMarked marks x) ↔ HasIt x) → AreSoMany HasIt n count
so_many_marked HasIt n count marks same counted told = record {
  test = λ x. slice_index_or marks x false;
  tells = λ x within. told x;
  passing = counted ∙ count_shifted marks (λ x. slice_index_or marks x false) 0 (λ k within. ap (λ (i : ℕ). slice_index_or marks i false) (omega arith))
      ∙ ap (λ (m : ℕ). length (filter (λ x. slice_index_or marks x false) (range_with_len 0 m))) same;
}

-- where nothing was marked before, just these numbers are marked
pub marked_alone : (numbers : List ℕ) (n : ℕ) (before marks : List Bool) → before ≡ replicate n false → IsMarkedToo numbers before marks
    → (x : ℕ) → (IsMarked marks x) ↔ Contains numbers x
marked_alone numbers n before marks none too x = (
  (λ marked. elim ((too x).0 marked) [
    | inl old ↦ absurd (no_mark_at_first n x (subst (λ (ms : List Bool). IsMarked ms x) none old))
    | inr found ↦ found
  ]),
  (λ found. (too x).1 (inr found)),
)
