-- What a sink was given, told or not told.
use Rattle.std.specs.Prelude.{◌≡◌, ◌<◌, ◌++◌, ℕ, List, Option, Some, None, length, take}
use Rattle.mrt_io.specs.declared.device.PutError.{PutError}
use Rattle.mrt_io.specs.declared.device.PutError.TheVariants.{Failed}

-- the sink gained these bytes at the end, and nothing else; it tells now what it told before
abbrev pub Gained : Option (List ℕ) → List ℕ → Option (List ℕ) → Type 0
Gained None bytes now = now ≡ None
Gained (Some before) bytes now = now ≡ Some (before ++ bytes)

-- the sink gained the first of these bytes, as many as the error says and fewer than all
abbrev pub GainedPart : Option (List ℕ) → List ℕ → Option (List ℕ) → PutError → Type 0
GainedPart before bytes now (Failed taken) = (taken < length bytes) × Gained before (take taken bytes) now
