-- What the reading of a text line by line comes to.
use Rattle.std.specs.Prelude.{ℕ, List, Result, Ok, Err}
use Rattle.text_parts.specs.declared.line_error.LineError.{LineError}
use Rattle.text_parts.specs.declared.line_error.LineError.TheVariants.{Fault, NoMemory}
use Rattle.text_parts.specs.TextRule.{IsFirstFault, IsText, TextRule}

-- where there was memory: what the whole text says, or the first fault
abbrev pub Reads : {S W F : Type 0} → TextRule S W F → List (List ℕ) → Result W (LineError F) → Type 0
Reads rule lines (Ok text) = IsText rule lines text
Reads rule lines (Err (Fault number fault)) = IsFirstFault rule lines number fault
Reads rule lines (Err NoMemory) = Unit {0}
