-- Where a row stands.
use Rattle.std.specs.Prelude.{ℕ, ◌+◌, ◌-◌, ◌*◌, nat_lt, if◌then◌else◌}

-- the place of the row of s for t among the rows of that many nodes: by ascending source, then by ascending
-- destination, the source left out
abbrev pub place_of_row : ℕ → ℕ → ℕ → ℕ
place_of_row count s t = s * (count - 1) + (if nat_lt t s then t else t - 1)
