-- The survey of an island.
use Rattle.std.specs.Prelude.{ℕ, List}
use Rattle.mrt_exit.specs.AnswerSteps.{Step, such, ◌▸◌}
use Rattle.mrt_answer.specs.Input.{Input}
use Rattle.mrt_answer.specs.Islands.{island_in}
use Rattle.mrt_answer.specs.Surveyed.{IsSummedUp}

-- the text is the survey of the island of router 1, where there is one
abbrev pub summed_up_in : ℕ → Input → Step (List ℕ)
summed_up_in number input = island_in input 1 ▸ λ island. such (IsSummedUp number island.graph island.root)
