use Rattle.std.proofs.Common.{length}
use Rattle.text_parts.specs.TextLines.{text_lines}
use Rattle.text_parts.proofs.LinesTaken.{AreTaken}
use Rattle.text_parts.proofs.reading.text_of.Given as goal

abbrev pub invariant-loop-line : goal.invariant-loop-line
invariant-loop-line g l = AreTaken g.T.TakesLines.rule (text_lines l.bytes) l.number (text_lines l.rest) l.taken

abbrev pub decreases-loop-line : goal.decreases-loop-line
decreases-loop-line g l = length (text_lines l.rest)
