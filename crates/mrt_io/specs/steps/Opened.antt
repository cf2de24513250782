-- Which file of a shelf in memory is open.
use Rattle.std.specs.Prelude.{◌≤◌, ℕ, List, Option, IfSome, length, drop}
use Rattle.std.specs.List.{slice_get}
use Rattle.std.specs.Option.{IsSomeAnd, option_and_then, option_map}
use Rattle.mrt_io.specs.declared.mem_shelf.Open.{Open}

-- the bytes of the file at this place
abbrev pub bytes_at : List (List ℕ × List ℕ) → ℕ → Option (List ℕ)
bytes_at files place = option_map (λ file. file.1) (slice_get files place)

-- what is left of the file that is open, if one is: its bytes but for those that were read
abbrev pub left_of : List (List ℕ × List ℕ) → Option Open → Option (List ℕ)
left_of files opened = option_and_then (λ o. option_map (drop o.taken) (bytes_at files o.place)) opened

-- the file that is open is one of these, and at most all of its bytes were read
abbrev pub IsOpenIn : List (List ℕ × List ℕ) → Option Open → Type 0
IsOpenIn files opened = IfSome opened (λ o. IsSomeAnd (bytes_at files o.place) (λ bytes. o.taken ≤ length bytes))
