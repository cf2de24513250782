-- The exits of a survey.
use Rattle.std.proofs.Common.{◌≡◌, sym, subst}
use Rattle.mrt_exit.specs.declared.exit.Exit.{Exit}
use Rattle.mrt_exit.specs.declared.exit.Exit.TheVariants as exits
use Rattle.mrt_cmd.specs.Run.{IsExitOfSurvey, WritesNothing}

pub written_of_survey : (exit : Exit) → (WritesNothing exit → ⊥) → IsExitOfSurvey exit
written_of_survey exits.Done never = tt
written_of_survey (exits.WriteFault taken) never = tt
written_of_survey exits.NoMemory never = tt
written_of_survey exit never = absurd (never tt)

pub memory_of_survey : (exit : Exit) → exit ≡ exits.NoMemory → IsExitOfSurvey exit
memory_of_survey exit is = subst IsExitOfSurvey (sym is) tt
