-- Places that may be noted or not, as numbers of 32 bits.
use Rattle.std.specs.Prelude.{◌-◌, ◌^◌, ◌==◌, ℕ, Option, Some, None, if◌then◌else◌}

-- the place that a number tells: none where it is the greatest of 32 bits, which no LSA has as its place
abbrev pub place_in : ℕ → Option ℕ
place_in number = if number == 2 ^ 32 - 1 then None else Some number
