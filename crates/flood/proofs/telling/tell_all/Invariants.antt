use Rattle.std.proofs.Common.{drop}
use Rattle.flood.proofs.TextsTold.{AreTold}
use Rattle.flood.proofs.telling.tell_all.Given as goal

abbrev pub invariant-loop-line : goal.invariant-loop-line
invariant-loop-line g l =
    AreTold (g.C.Compare.says l.comparing) l.initial.flood l.lines l.flood l.text.items (drop l.line-index l.lines)
