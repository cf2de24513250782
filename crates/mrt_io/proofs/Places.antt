-- The file at a place, and what is left of it.
use Rattle.std.proofs.Common.{◌≡◌, ◌<◌, ◌≤◌, ◌+◌, ◌∙◌, ℕ, List, [], ◌∷◌, Option, Some, None, true, zero, suc, length, drop, get_or, refl, ap, arith}
use Rattle.std.proofs.lemmas.Grind.{common_steps}
use Rattle.std.proofs.lemmas.Option.{slice_get-map, slice_get_read}
use Rattle.std.specs.Global.{Vec}
use Rattle.std.specs.Option.{IsSomeAnd, option_map}
use Rattle.std.specs.Str.{bytes_eq}
use Rattle.mrt_io.specs.Memory.{file_of}
use Rattle.mrt_io.specs.Named.{named}
use Rattle.mrt_io.specs.steps.Opened.{IsOpenIn, bytes_at, left_of}

-- the bytes at a place are those of the file that is there
pub bytes_at_place : (files : List (List ℕ × Vec ℕ)) (place : ℕ) (file : List ℕ × Vec ℕ)
    → place < length files → file ≡ get_or files place file → bytes_at (named files) place ≡ Some file.1.items
bytes_at_place files place file within is =
    ap (option_map (λ (f : List ℕ × List ℕ). f.1))
    (slice_get-map (λ (f : List ℕ × Vec ℕ). (f.0, f.1.items)) files place
    ∙ ap (option_map (λ (f : List ℕ × Vec ℕ). (f.0, f.1.items))) (slice_get_read files (length files) place file refl within is))

-- where there are bytes at a place, a file is there
pub place_within : (files : List (List ℕ × Vec ℕ)) (place : ℕ) (P : List ℕ → Type 0)
    → IsSomeAnd (bytes_at (named files) place) P → place < length files
place_within [] place P there = absurd there
place_within (file ∷ files) zero P there = omega arith
place_within (file ∷ files) (suc place) P there = omega (arith, place_within files place P there)

-- the first of the files from a place on that has the name is the one at the place, where that has it
pub first_from : (files : List (List ℕ × Vec ℕ)) (place : ℕ) (file : List ℕ × Vec ℕ) (name : List ℕ)
    → place < length files → file ≡ get_or files place file → bytes_eq file.0 name ≡ true
    → file_of (named (drop place files)) name ≡ Some file.1.items
first_from files place file name within is same = grind (arith, common_steps)

-- so many more of the bytes at a place were read
further : (bytes : Option (List ℕ)) (taken count : ℕ) (left : List ℕ) → IsSomeAnd bytes (λ all. taken ≤ length all)
    → option_map (drop taken) bytes ≡ Some left → count ≤ length left
    → IsSomeAnd bytes (λ all. taken + count ≤ length all)
    × (option_map (drop (taken + count)) bytes ≡ Some (drop count left))
further None taken count left opened is within = absurd opened
further (Some all) taken count left opened is within = grind (arith, common_steps)

-- so many more of the open file's bytes were read
pub open_further : (files : List (List ℕ × List ℕ)) (place taken count : ℕ) (left : List ℕ)
    → IsOpenIn files (Some (record { place = place; taken = taken }))
    → left_of files (Some (record { place = place; taken = taken })) ≡ Some left → count ≤ length left
    → IsOpenIn files (Some (record { place = place; taken = taken + count }))
    × (left_of files (Some (record { place = place; taken = taken + count })) ≡ Some (drop count left))
open_further files place taken count left opened is within = further (bytes_at files place) taken count left opened is within
