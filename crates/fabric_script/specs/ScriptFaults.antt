-- The script that lines are, and the first line that is not as it should be.
use Rattle.std.specs.Prelude.{◌≡◌, ◌⊎◌, ℕ, List, ◌∷◌, Some, map, Result, Err}
use Rattle.text_parts.specs.LinesRead.{IsFirstWrong, lines_read}
use Rattle.fabric_script.specs.declared.script.Script.{Script}
use Rattle.fabric_script.specs.declared.script_error.ScriptError.{ScriptError}
use Rattle.fabric_script.specs.declared.script_error.ScriptError.TheVariants.{NoMemory}
use Rattle.fabric_script.specs.ScriptLines.{event_in, start_in}

-- the script that lines are: the first of those that are not passed over is its first line, and each later one an event
pub record IsScript (lines : List (List ℕ)) (script : Script) : Type 0 where
  pub first : List ℕ
  pub others : List (List ℕ)
  pub told_are : lines_read lines ≡ first ∷ others
  pub start : start_in first ≡ Some (record { router = script.router; room = script.room })
  pub events : map event_in others ≡ map (λ event. Some event) script.events

-- the line with this number, from 1, is the first that is not as it should be; or the lines end before it, and all of them
-- are passed over, so that there is no first line
abbrev pub IsFirstScriptFault : List (List ℕ) → ℕ → Type 0
IsFirstScriptFault lines number = IsFirstWrong IsScript lines number

-- what reading comes to is as expected, or there was no memory
abbrev pub OrNoMemory : Result Script ScriptError → Result Script ScriptError → Type 0
OrNoMemory outcome expected = (outcome ≡ expected) ⊎ (outcome ≡ Err NoMemory)
