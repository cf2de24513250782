use Rattle.std.proofs.Common.{◌≡◌, length, arith}
use Rattle.cert_checker.proofs.rows.first_row_fault.Goals as goal

pub judge_rows_of-kept-requires-clause-before : goal.judge_rows_of-kept-requires-clause-before
judge_rows_of-kept-requires-clause-before c = rw (c.known_node.ensures.number, c.new.ensures) c.loop-s.invariant

pub loop-s-preserved : goal.loop-s-preserved
loop-s-preserved c = rw (c.known_node.ensures.number, c.new.ensures) at c.judge_rows_of-kept.ensures

pub returns : goal.returns
returns c = let all : c.loop-s.s ≡ length c.args.c.now.nodes = omega arith in rw all at c.loop-s.invariant
