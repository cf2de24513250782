-- The lines of a script, taken in one after another.
use Rattle.std.specs.Prelude.{◌++◌, ℕ, List, [], ◌∷◌, Option, Some, None}
use Rattle.std.specs.Option.{ok_or, option_map}
use Rattle.text_parts.specs.declared.line_error.LineError.{LineError}
use Rattle.text_parts.specs.declared.line_error.LineError.TheVariants as errors
use Rattle.text_parts.specs.TextRule.{TextRule}
use Rattle.fabric_script.specs.declared.event.ScriptEvent.{ScriptEvent}
use Rattle.fabric_script.specs.declared.line.Start.{Start}
use Rattle.fabric_script.specs.declared.script.Script.{Script}
use Rattle.fabric_script.specs.declared.script_error.ScriptError.{ScriptError}
use Rattle.fabric_script.specs.declared.script_error.ScriptError.TheVariants.{Fault, NoMemory}
use Rattle.fabric_script.specs.ScriptLines.{event_in, start_in}

-- what lines say: the first of them, if there was one, and the events after it
pub record TakenLines : Type 0 where
  pub start : Option Start
  pub events : List ScriptEvent

abbrev pub taken_lines : Option Start → List ScriptEvent → TakenLines
taken_lines start events = record { start = start; events = events }

abbrev pub no_lines_taken : TakenLines
no_lines_taken = taken_lines None []

-- what is said after one more line: the first one says the router and the room, and each later one an event
abbrev pub after_line : Option Start → List ScriptEvent → List ℕ → Option TakenLines
after_line None events line = option_map (λ start. taken_lines (Some start) events) (start_in line)
after_line (Some start) events line = option_map (λ event. taken_lines (Some start) (events ++ event ∷ [])) (event_in line)

-- the script that ends there; there is none without a first line
abbrev pub script_of : Option Start → List ScriptEvent → Option Script
script_of None events = None
script_of (Some start) events = Some (record { router = start.router; room = start.room; events = events })

-- what is wrong with a line, or with a text that ends: there is no more to tell
abbrev pub wrong : Unit {0}
wrong = tt

-- how a script is read
abbrev pub script_rule : TextRule TakenLines Script (Unit {0})
script_rule = record {
  start = no_lines_taken;
  after = λ so_far line. ok_or (after_line so_far.start so_far.events line) wrong;
  ends = λ so_far. ok_or (script_of so_far.start so_far.events) wrong;
}

-- the error of a reading of lines, as that of scripts
abbrev pub error_of : LineError (Unit {0}) → ScriptError
error_of (errors.Fault line fault) = Fault line
error_of errors.NoMemory = NoMemory
