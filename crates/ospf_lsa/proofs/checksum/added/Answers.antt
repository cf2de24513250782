use Rattle.std.proofs.Common.{arith}
use Rattle.std.proofs.lemmas.List.{drop_all}
use Rattle.ospf_lsa.proofs.checksum.added.Goals as goal

pub returns-clause-value : goal.returns-clause-value
returns-clause-value c =
    rw (drop_all c.loop-byte.byte-index c.args.run.now (omega arith)) at c.loop-byte.invariant.left

pub returns-clause-second_small : goal.returns-clause-second_small
returns-clause-second_small c = omega arith
