-- Numbers that a search holds.
use Rattle.std.specs.Prelude.{◌<◌, ℕ, List, length, slice_index_or}

-- each number of a list is below n
abbrev pub AreBelow : ℕ → List ℕ → Type 0
AreBelow n numbers = (k : ℕ) → k < length numbers → slice_index_or numbers k 0 < n
