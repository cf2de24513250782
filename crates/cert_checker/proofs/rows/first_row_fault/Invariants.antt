use Rattle.cert_checker.specs.steps.RowFaults.{Before, KeptRows}
use Rattle.cert_checker.proofs.rows.first_row_fault.Given as goal

abbrev pub invariant-loop-s : goal.invariant-loop-s
invariant-loop-s l = KeptRows l.g l.root l.c (Before l.c l.s) l.kept
