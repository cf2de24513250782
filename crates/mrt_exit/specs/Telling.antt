-- What a sink gained of a text or of a line, where it may have failed in it.
use Rattle.std.specs.Prelude.{◌⊎◌, ◌<◌, ℕ, List, Option, length, take}
use Rattle.mrt_io.specs.Counts.{Rose}
use Rattle.mrt_io.specs.Writing.{Gained}

-- a sink failed after so many bytes of a text, fewer than all: it gained just these, its count of faults rose, and it was not
-- healthy for the text
pub record IsCutShort (healthy_for : ℕ → Type 0) (before now : ℕ) (old new : Option (List ℕ)) (text : List ℕ) (taken : ℕ)
    : Type 0 where
  pub fewer : taken < length text
  pub gained : Gained old (take taken text) new
  pub rose : Rose before now
  pub unhealthy : healthy_for (length text) → ⊥

-- a sink gained a line, or was cut short in it
abbrev pub GainedLine : (ℕ → Type 0) → ℕ → ℕ → Option (List ℕ) → Option (List ℕ) → List ℕ → Type 0
GainedLine healthy_for before now old new line =
    Gained old line new ⊎ ((taken : ℕ) × IsCutShort healthy_for before now old new line taken)
