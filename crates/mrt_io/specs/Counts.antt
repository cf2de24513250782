-- Counts of faults: numbers of 64 bits that never fall and stay at their last value.
use Rattle.std.specs.Prelude.{ℕ, ◌+◌, ◌≤◌, min}

-- the last value of a count, where it stays
abbrev pub last_count : ℕ
last_count = 18446744073709551615

-- the count rose: it is greater than before, or stands at its last value
abbrev pub Rose : ℕ → ℕ → Type 0
Rose before now = min (before + 1) last_count ≤ now
