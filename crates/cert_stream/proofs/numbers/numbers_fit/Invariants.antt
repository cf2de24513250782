use Rattle.std.proofs.Common.{take}
use Rattle.std.specs.List.{AllByRecursion}
use Rattle.cert_format.specs.Limits.{HasNumber}
use Rattle.cert_stream.proofs.numbers.numbers_fit.Given as goal

abbrev pub invariant-loop-node : goal.invariant-loop-node
invariant-loop-node l = AllByRecursion HasNumber (take l.node-index l.nodes)
