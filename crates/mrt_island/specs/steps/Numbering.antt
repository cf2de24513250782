-- The numbers of flags.
use Rattle.std.specs.Prelude.{◌≡◌, ◌<◌, ℕ, Bool, false, List, Option, Some, None, if◌then◌else◌, length, slice_get, slice_index_or}
use Rattle.mrt_island.specs.Numbering.{number_inside}

-- the number of the flag at a place, where it is set: how many of those before it are set
abbrev pub number_at : List Bool → ℕ → Option ℕ
number_at flags k = if slice_index_or flags k false then Some (number_inside flags k) else None

-- of each flag that number
pub record AreFlagNumbers (flags : List Bool) (numbers : List (Option ℕ)) : Type 0 where
  pub one_each : length numbers ≡ length flags
  pub each : (k : ℕ) → k < length flags → slice_get numbers k ≡ Some (number_at flags k)
