-- How one line is read.
use Rattle.std.specs.Prelude.{◌≡◌, ℕ, List, Result, Ok, Err}
use Rattle.text_parts.specs.declared.line_error.LineError.{LineError}
use Rattle.text_parts.specs.declared.line_error.LineError.TheVariants.{Fault, NoMemory}
use Rattle.text_parts.specs.TextRule.{TextRule, with_line}

-- the reading of the line with this number alone, after which so much is said
abbrev pub Takes : {S W F : Type 0} → TextRule S W F → S → List ℕ → ℕ → Result (Unit {0}) (LineError F) → S → Type 0
Takes rule said line number (Ok done) after = with_line rule (Ok said) line ≡ Ok after
Takes rule said line number (Err (Fault told fault)) after = (told ≡ number) × (with_line rule (Ok said) line ≡ Err fault)
Takes rule said line number (Err NoMemory) after = Unit {0}
