-- How many flags before a place are set, and which elements of a list these are.
use Rattle.std.proofs.Common.{◌≡◌, ◌<◌, ◌≤◌, ◌+◌, ◌∙◌, ℕ, zero, suc, Bool, true, false, List, [], ◌∷◌, length, map, take, Some, refl, ap, arith}
use Rattle.std.specs.Prelude.{slice_get}
use Rattle.std.specs.List.{AllByRecursion, filter}
use Rattle.std.specs.List.Sorted.{IsStrictlySortedBy}
use Rattle.std.specs.declared.cmp.Ordering.{Ordering}
use Rattle.std.specs.declared.cmp.Ordering.TheVariants.{Less}
use Rattle.std.proofs.lemmas.List.{take_all}
use Rattle.std.proofs.lemmas.List.Sums.{sum_by-cons}
use Rattle.mrt_graph.specs.Search.{IsMarked}
use Rattle.mrt_island.specs.Numbering.{flagged, flags_set, number_inside}
use Rattle.mrt_graph.proofs.Tallies.{one_if}
use Rattle.mrt_island.proofs.Flagging.{set_within}

pub set_cons : (flag : Bool) (flags : List Bool) → flags_set (flag ∷ flags) ≡ one_if flag + flags_set flags
set_cons flag flags = sum_by-cons (λ b. one_if b) flag flags

-- a set flag counts one more, another none
pub set_one : (flags : List Bool) → flags_set (true ∷ flags) ≡ suc (flags_set flags)
set_one flags = omega (arith, set_cons true flags)

pub set_none : (flags : List Bool) → flags_set (false ∷ flags) ≡ flags_set flags
set_none flags = omega (arith, set_cons false flags)

pub number_one : (flags : List Bool) (s : ℕ) → number_inside (true ∷ flags) (suc s) ≡ suc (number_inside flags s)
number_one flags s = set_one (take s flags)

pub number_none : (flags : List Bool) (s : ℕ) → number_inside (false ∷ flags) (suc s) ≡ number_inside flags s
number_none flags s = set_none (take s flags)

-- numbers rise from a set flag on, and fall nowhere
pub number_keeps : (flags : List Bool) (s t : ℕ) → s ≤ t → number_inside flags s ≤ number_inside flags t
number_keeps [] zero t le = omega arith
number_keeps [] (suc s) zero le = omega arith
number_keeps [] (suc s) (suc t) le = omega arith
number_keeps (flag ∷ flags) zero t le = omega arith
number_keeps (flag ∷ flags) (suc s) zero le = absurd (omega (arith, le))
number_keeps (true ∷ flags) (suc s) (suc t) le = omega (arith, number_one flags s, number_one flags t, number_keeps flags s t (omega (arith, le)))
number_keeps (false ∷ flags) (suc s) (suc t) le = omega (arith, number_none flags s, number_none flags t, number_keeps flags s t (omega (arith, le)))

pub number_rises : (flags : List Bool) (s t : ℕ) → s < t → IsMarked flags s → number_inside flags s < number_inside flags t
number_rises [] s t lt set = absurd cc
number_rises (flag ∷ flags) s zero lt set = absurd (omega (arith, lt))
number_rises (true ∷ flags) zero (suc t) lt set = omega (arith, number_one flags t)
number_rises (false ∷ flags) zero (suc t) lt set = absurd cc
number_rises (true ∷ flags) (suc s) (suc t) lt set = omega (arith, number_one flags s, number_one flags t, number_rises flags s t (omega (arith, lt)) set)
number_rises (false ∷ flags) (suc s) (suc t) lt set = omega (arith, number_none flags s, number_none flags t, number_rises flags s t (omega (arith, lt)) set)

-- the number of a set flag is below the count of them all
pub number_within : (flags : List Bool) (s : ℕ) → IsMarked flags s → number_inside flags s < flags_set flags
number_within flags s set =
    let all : number_inside flags (length flags) ≡ flags_set flags = ap flags_set (take_all (length flags) flags (omega arith)) in
    omega (arith, all, number_rises flags s (length flags) (set_within flags s set) set)

-- a set flag that has this number
pub record HasNumber (flags : List Bool) (number : ℕ) : Type 0 where
  pub place : ℕ
  pub set : IsMarked flags place
  pub is : number_inside flags place ≡ number

-- each number below the count is a set flag's
pub numbered_at : (flags : List Bool) (number : ℕ) → number < flags_set flags → HasNumber flags number
numbered_at [] number lt = absurd (omega (arith, lt))
numbered_at (true ∷ flags) zero lt = record { place = zero; set = refl; is = refl }
numbered_at (true ∷ flags) (suc number) lt =
    let later : HasNumber flags number = numbered_at flags number (omega (arith, lt, set_one flags)) in
    record { place = suc later.place; set = later.set; is = number_one flags later.place ∙ ap suc later.is }
numbered_at (false ∷ flags) number lt =
    let later : HasNumber flags number = numbered_at flags number (omega (arith, lt, set_none flags)) in
    record { place = suc later.place; set = later.set; is = number_none flags later.place ∙ later.is }

-- the element of a set flag has its number among the flagged ones
pub flagged_at : {X : Type 0} (flags : List Bool) (xs : List X) (s : ℕ) (x : X) → slice_get xs s ≡ Some x → IsMarked flags s → slice_get (flagged flags xs) (number_inside flags s) ≡ Some x
flagged_at {X} [] xs s x there set = absurd cc
flagged_at {X} (flag ∷ flags) [] s x there set = absurd cc
flagged_at {X} (true ∷ flags) (y ∷ ys) zero x there set = there
flagged_at {X} (false ∷ flags) (y ∷ ys) zero x there set = absurd cc
flagged_at {X} (true ∷ flags) (y ∷ ys) (suc s) x there set = ap (slice_get (y ∷ flagged flags ys)) (number_one flags s) ∙ flagged_at flags ys s x there set
flagged_at {X} (false ∷ flags) (y ∷ ys) (suc s) x there set = ap (slice_get (flagged flags ys)) (number_none flags s) ∙ flagged_at flags ys s x there set

-- where an element of the flagged ones comes from
pub record IsFrom {X : Type 0} (flags : List Bool) (xs : List X) (number : ℕ) (x : X) : Type 0 where
  pub place : ℕ
  pub set : IsMarked flags place
  pub there : slice_get xs place ≡ Some x
  pub is : number_inside flags place ≡ number

pub flagged_from : {X : Type 0} (flags : List Bool) (xs : List X) (number : ℕ) (x : X) → slice_get (flagged flags xs) number ≡ Some x → IsFrom flags xs number x
flagged_from {X} [] xs number x at = absurd cc
flagged_from {X} (flag ∷ flags) [] number x at = absurd cc
flagged_from {X} (true ∷ flags) (y ∷ ys) zero x at = record { place = zero; set = refl; there = at; is = refl }
flagged_from {X} (true ∷ flags) (y ∷ ys) (suc number) x at =
    let later : IsFrom flags ys number x = flagged_from flags ys number x at in
    record { place = suc later.place; set = later.set; there = later.there; is = number_one flags later.place ∙ ap suc later.is }
flagged_from {X} (false ∷ flags) (y ∷ ys) number x at =
    let later : IsFrom flags ys number x = flagged_from flags ys number x at in
    record { place = suc later.place; set = later.set; there = later.there; is = number_none flags later.place ∙ later.is }

-- as many as flags are set
pub length_flagged : {X : Type 0} (flags : List Bool) (xs : List X) → length flags ≡ length xs → length (flagged flags xs) ≡ flags_set flags
length_flagged {X} [] xs same = refl
length_flagged {X} (flag ∷ flags) [] same = absurd (omega (arith, same))
length_flagged {X} (true ∷ flags) (x ∷ xs) same = omega (arith, set_one flags, length_flagged flags xs (omega (arith, same)))
length_flagged {X} (false ∷ flags) (x ∷ xs) same = omega (arith, set_none flags, length_flagged flags xs (omega (arith, same)))

-- what holds of each element holds of each flagged one
pub all_flagged : {X : Type 0} (P : X → Type 0) (flags : List Bool) (xs : List X) → AllByRecursion P xs → AllByRecursion P (flagged flags xs)
all_flagged {X} P [] xs all = tt
all_flagged {X} P (flag ∷ flags) [] all = tt
all_flagged {X} P (true ∷ flags) (x ∷ xs) all = (all.0, all_flagged P flags xs all.1)
all_flagged {X} P (false ∷ flags) (x ∷ xs) all = all_flagged P flags xs all.1

-- they ascend as the list does
pub ascend_flagged : {X : Type 0} (cmp : X → X → Ordering) (flags : List Bool) (xs : List X) → IsStrictlySortedBy cmp xs → IsStrictlySortedBy cmp (flagged flags xs)
unfolding IsStrictlySortedBy
ascend_flagged {X} cmp [] xs up = tt
ascend_flagged {X} cmp (flag ∷ flags) [] up = tt
ascend_flagged {X} cmp (true ∷ flags) (x ∷ xs) up = (all_flagged (λ y. cmp x y ≡ Less) flags xs up.0, ascend_flagged cmp flags xs up.1)
ascend_flagged {X} cmp (false ∷ flags) (x ∷ xs) up = ascend_flagged cmp flags xs up.1

next_filtered : {X : Type 0} (p : X → Bool) (x : X) (xs : List X) (b : Bool) → p x ≡ b → flagged (map p xs) xs ≡ filter p xs → flagged (map p (x ∷ xs)) (x ∷ xs) ≡ filter p (x ∷ xs)
next_filtered {X} p x xs true holds later = rw holds (ap (λ (rest : List X). x ∷ rest) later)
next_filtered {X} p x xs false fails later = rw fails later

-- where the flags tell what passes a test, they are the filtered list
pub flagged_filter : {X : Type 0} (p : X → Bool) (xs : List X) → flagged (map p xs) xs ≡ filter p xs
flagged_filter {X} p [] = refl
flagged_filter {X} p (x ∷ xs) = next_filtered p x xs (p x) refl (flagged_filter p xs)
