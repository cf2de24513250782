-- The exits of a step.
use Rattle.std.specs.Prelude.{Err}
use Rattle.mrt_exit.specs.declared.exit.Exit.{Exit}
use Rattle.mrt_exit.specs.AnswerSteps.{Step}

-- each exit that comes of a step is such a one
abbrev pub EndsAs : {A : Type 0} → (Exit → Type 0) → Step A → Type 0
EndsAs Is step = (exit : Exit) → step (Err exit) → Is exit
