-- The lines of a script of deliveries, taken in one after another.
use Rattle.std.specs.Prelude.{◌++◌, ◌&&◌, ℕ, Bool, List, [], ◌∷◌, Option, Some, None, nat_lt, if◌then◌else◌}
use Rattle.std.specs.Option.{ok_or, option_and_then, option_map}
use Rattle.text_parts.specs.declared.line_error.LineError.{LineError}
use Rattle.text_parts.specs.declared.line_error.LineError.TheVariants as errors
use Rattle.text_parts.specs.TextRule.{TextRule}
use Rattle.flood.specs.declared.script_error.FloodScriptError.{FloodScriptError}
use Rattle.flood.specs.declared.script_error.FloodScriptError.TheVariants.{Fault, NoMemory}
use Rattle.flood.specs.declared.script.FloodLine.{FloodLine}
use Rattle.flood.specs.declared.script.FloodLine.TheVariants.{Deliver, Same}
use Rattle.flood.specs.declared.script.FloodScript.{FloodScript}
use Rattle.flood.specs.Deliveries.{deliveries_in}
use Rattle.flood.specs.FloodLines.{line_in, routers_in}

-- what lines say: how many routers there are, if a line said so, and the lines after it
pub record TakenLines : Type 0 where
  pub routers : Option ℕ
  pub lines : List FloodLine

abbrev pub taken_lines : Option ℕ → List FloodLine → TakenLines
taken_lines routers lines = record { routers = routers; lines = lines }

abbrev pub no_lines_taken : TakenLines
no_lines_taken = taken_lines None []

-- whether a line may follow these, where there are so many routers: there are at most 65,535 deliveries, and the routers that
-- are compared are among them
abbrev pub may_follow : ℕ → List FloodLine → FloodLine → Bool
may_follow count lines (Deliver packet router) = nat_lt (deliveries_in lines) 65535
may_follow count lines (Same one other router) = nat_lt one count && nat_lt other count

-- after one more line that may follow
abbrev pub after_more : ℕ → List FloodLine → FloodLine → Option TakenLines
after_more count lines line =
    if may_follow count lines line then Some (taken_lines (Some count) (lines ++ line ∷ [])) else None

-- what is said after one more line: the first one says how many routers there are, and each later one a line that may follow
abbrev pub after_line : Option ℕ → List FloodLine → List ℕ → Option TakenLines
after_line None lines line = option_map (λ count. taken_lines (Some count) lines) (routers_in line)
after_line (Some count) lines line = option_and_then (after_more count lines) (line_in line)

-- the script that ends there; there is none without a first line
abbrev pub script_of : Option ℕ → List FloodLine → Option FloodScript
script_of None lines = None
script_of (Some routers) lines = Some (record { routers = routers; lines = lines })

-- what is wrong with a line, or with a text that ends: there is no more to tell
abbrev pub wrong : Unit {0}
wrong = tt

-- how a script is read
abbrev pub flood_rule : TextRule TakenLines FloodScript (Unit {0})
flood_rule = record {
  start = no_lines_taken;
  after = λ so_far line. ok_or (after_line so_far.routers so_far.lines line) wrong;
  ends = λ so_far. ok_or (script_of so_far.routers so_far.lines) wrong;
}

-- the error of a reading of lines, as that of scripts of deliveries
abbrev pub error_of : LineError (Unit {0}) → FloodScriptError
error_of (errors.Fault line fault) = Fault line
error_of errors.NoMemory = NoMemory
