-- The script that lines are, and the first line that is not as it should be.
use Rattle.std.specs.Prelude.{◌≡◌, ◌<◌, ◌≤◌, ◌⊎◌, ℕ, List, ◌∷◌, Some, map, Result, Err}
use Rattle.std.specs.List.{AllByRecursion}
use Rattle.text_parts.specs.LinesRead.{IsFirstWrong, lines_read}
use Rattle.flood.specs.declared.script_error.FloodScriptError.{FloodScriptError}
use Rattle.flood.specs.declared.script_error.FloodScriptError.TheVariants.{NoMemory}
use Rattle.flood.specs.declared.script.FloodLine.{FloodLine}
use Rattle.flood.specs.declared.script.FloodLine.TheVariants.{Deliver, Same}
use Rattle.flood.specs.declared.script.FloodScript.{FloodScript}
use Rattle.flood.specs.Deliveries.{deliveries_in}
use Rattle.flood.specs.FloodLines.{line_in, routers_in}

-- the two routers that a line compares are among so many
abbrev pub IsAmong : ℕ → FloodLine → Type 0
IsAmong count (Deliver packet router) = Unit {0}
IsAmong count (Same one other router) = (one < count) × (other < count)

-- the script that lines are: the first of those that are not passed over says how many routers there are, and each later
-- one is a delivery, of which there are at most 65,535, or compares two of these routers
pub record IsScript (lines : List (List ℕ)) (script : FloodScript) : Type 0 where
  pub first : List ℕ
  pub others : List (List ℕ)
  pub told_are : lines_read lines ≡ first ∷ others
  pub start : routers_in first ≡ Some script.routers
  pub lines_are : map line_in others ≡ map (λ line. Some line) script.lines
  pub few : deliveries_in script.lines ≤ 65535
  pub among : AllByRecursion (IsAmong script.routers) script.lines

-- the line with this number, from 1, is the first that is not as it should be; or the lines end before it, and all of them
-- are passed over, so that there is no first line
abbrev pub IsFirstFloodFault : List (List ℕ) → ℕ → Type 0
IsFirstFloodFault lines number = IsFirstWrong IsScript lines number

-- what reading comes to is as expected, or there was no memory
abbrev pub OrNoMemory : Result FloodScript FloodScriptError → Result FloodScript FloodScriptError → Type 0
OrNoMemory outcome expected = (outcome ≡ expected) ⊎ (outcome ≡ Err NoMemory)
