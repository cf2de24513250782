-- What the top call says of its sinks.
use Rattle.std.specs.Prelude.{◌⊎◌, ℕ, List, Option, length}
use Rattle.mrt_io.specs.Counts.{Rose}
use Rattle.mrt_io.specs.Holding.{Files}
use Rattle.mrt_cmd.specs.Comes.{GivesText}
use Rattle.mrt_exit.specs.declared.exit.Exit.{Exit}
use Rattle.mrt_exit.specs.declared.exit.Exit.TheVariants.{Done, NoMemory, WriteFault}

-- no fault of a device decides: its count of faults did not rise in the call, or the device was healthy for it
abbrev pub IsUndisturbed : Type 0 → ℕ → ℕ → Type 0
IsUndisturbed Healthy before now = (Rose before now → ⊥) ⊎ Healthy

-- a sink is healthy for the text that the words give, if they give one
abbrev pub IsHealthyForText : (ℕ → Type 0) → Option Files → List (List ℕ) → Type 0
IsHealthyForText healthy_for held words = (text : List ℕ) → GivesText held words text → healthy_for (length text)

-- the exit is one on which nothing is written to the output
abbrev pub WritesNothing : Exit → Type 0
WritesNothing Done = ⊥
WritesNothing (WriteFault taken) = ⊥
WritesNothing _ = Unit {0}

-- the exit is one of those of a survey: done, a fault of the output, want of memory
abbrev pub IsExitOfSurvey : Exit → Type 0
IsExitOfSurvey Done = Unit {0}
IsExitOfSurvey (WriteFault taken) = Unit {0}
IsExitOfSurvey NoMemory = Unit {0}
IsExitOfSurvey _ = ⊥
