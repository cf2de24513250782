-- The elements whose flags are set, one after another.
use Rattle.std.proofs.Common.{◌≡◌, ◌<◌, ◌+◌, ◌++◌, ◌∙◌, ℕ, zero, suc, Bool, true, false, List, [], ◌∷◌, length, get_or, drop, map, Some, refl, sym, ap, arith, append_assoc, add-one}
use Rattle.std.specs.Prelude.{slice_get}
use Rattle.std.proofs.lemmas.List.{drop_more}
use Rattle.std.proofs.lemmas.Option.{slice_get_within, get_or_from_slice_get}
use Rattle.mrt_island.specs.Numbering.{flagged}

-- a flag that is set is one of the flags
pub set_within : (flags : List Bool) (s : ℕ) → get_or flags s false ≡ true → s < length flags
set_within [] s set = absurd cc
set_within (flag ∷ flags) zero set = omega arith
set_within (flag ∷ flags) (suc s) set = omega (arith, set_within flags s set)

-- the elements from place s on, where the flag there is set
pub flagged_here : {X : Type 0} (flags : List Bool) (xs : List X) (s : ℕ) (x : X) → slice_get xs s ≡ Some x → get_or flags s false ≡ true
    → flagged (drop s flags) (drop s xs) ≡ x ∷ flagged (drop (s + 1) flags) (drop (s + 1) xs)
flagged_here {X} flags xs s x there set =
    let in_flags : s < length flags = set_within flags s set in
    let in_xs : s < length xs = slice_get_within xs s x there in
    let is_x : get_or xs s x ≡ x = get_or_from_slice_get xs s x x there in
    rw (drop_more flags s false in_flags, drop_more xs s x in_xs, set, is_x) refl

-- and where it is not
not_here : {X : Type 0} (flags : List Bool) (xs : List X) (s : ℕ) → s < length flags → s < length xs → get_or flags s false ≡ false
    → flagged (drop s flags) (drop s xs) ≡ flagged (drop (suc s) flags) (drop (suc s) xs)
not_here {X} [] xs s in_flags in_xs clear = absurd (omega (arith, in_flags))
not_here {X} (flag ∷ flags) [] s in_flags in_xs clear = absurd (omega (arith, in_xs))
not_here {X} (true ∷ flags) (x ∷ xs) zero in_flags in_xs clear = absurd cc
not_here {X} (false ∷ flags) (x ∷ xs) zero in_flags in_xs clear = refl
not_here {X} (flag ∷ flags) (x ∷ xs) (suc s) in_flags in_xs clear = not_here flags xs s (omega (arith, in_flags)) (omega (arith, in_xs)) clear

pub flagged_not_here : {X : Type 0} (flags : List Bool) (xs : List X) (s : ℕ) → s < length flags → s < length xs → get_or flags s false ≡ false
    → flagged (drop s flags) (drop s xs) ≡ flagged (drop (s + 1) flags) (drop (s + 1) xs)
flagged_not_here {X} flags xs s in_flags in_xs clear = rw add-one (not_here flags xs s in_flags in_xs clear)

-- a list of them that is made from the front
pub taken_here : {X : Type 0} (flags : List Bool) (xs : List X) (s : ℕ) (x : X) (before done all : List X) → slice_get xs s ≡ Some x → get_or flags s false ≡ true
    → done ≡ before ++ x ∷ [] → before ++ flagged (drop s flags) (drop s xs) ≡ all → done ++ flagged (drop (s + 1) flags) (drop (s + 1) xs) ≡ all
taken_here {X} flags xs s x before done all there set grown so_far =
    ap (λ (d : List X). d ++ flagged (drop (s + 1) flags) (drop (s + 1) xs)) grown
    ∙ append_assoc before (x ∷ []) (flagged (drop (s + 1) flags) (drop (s + 1) xs))
    ∙ ap (λ (r : List X). before ++ r) (sym (flagged_here flags xs s x there set)) ∙ so_far

pub passed_here : {X : Type 0} (flags : List Bool) (xs : List X) (s : ℕ) (before done all : List X) → s < length flags → s < length xs
    → get_or flags s false ≡ false → done ≡ before → before ++ flagged (drop s flags) (drop s xs) ≡ all → done ++ flagged (drop (s + 1) flags) (drop (s + 1) xs) ≡ all
passed_here {X} flags xs s before done all in_flags in_xs clear same so_far =
    ap (λ (d : List X). d ++ flagged (drop (s + 1) flags) (drop (s + 1) xs)) same
    ∙ ap (λ (r : List X). before ++ r) (sym (flagged_not_here flags xs s in_flags in_xs clear)) ∙ so_far

-- the same, where something is made of each
pub made_here : {X Y : Type 0} (f : X → Y) (flags : List Bool) (xs : List X) (s : ℕ) (x : X) (before done all : List Y) → slice_get xs s ≡ Some x → get_or flags s false ≡ true
    → done ≡ before ++ f x ∷ [] → before ++ map f (flagged (drop s flags) (drop s xs)) ≡ all → done ++ map f (flagged (drop (s + 1) flags) (drop (s + 1) xs)) ≡ all
made_here {X} {Y} f flags xs s x before done all there set grown so_far =
    ap (λ (d : List Y). d ++ map f (flagged (drop (s + 1) flags) (drop (s + 1) xs))) grown
    ∙ append_assoc before (f x ∷ []) (map f (flagged (drop (s + 1) flags) (drop (s + 1) xs)))
    ∙ ap (λ (r : List X). before ++ map f r) (sym (flagged_here flags xs s x there set)) ∙ so_far

pub unmade_here : {X Y : Type 0} (f : X → Y) (flags : List Bool) (xs : List X) (s : ℕ) (before done all : List Y) → s < length flags → s < length xs
    → get_or flags s false ≡ false → done ≡ before → before ++ map f (flagged (drop s flags) (drop s xs)) ≡ all → done ++ map f (flagged (drop (s + 1) flags) (drop (s + 1) xs)) ≡ all
unmade_here {X} {Y} f flags xs s before done all in_flags in_xs clear same so_far =
    ap (λ (d : List Y). d ++ map f (flagged (drop (s + 1) flags) (drop (s + 1) xs))) same
    ∙ ap (λ (r : List X). before ++ map f r) (sym (flagged_not_here flags xs s in_flags in_xs clear)) ∙ so_far
