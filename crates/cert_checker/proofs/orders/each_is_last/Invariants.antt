use Rattle.std.proofs.Common.{Some}
use Rattle.cert_checker.specs.steps.KeyTable.{has_number}
use Rattle.mrt_graph.specs.CertFields.{order_of}
use Rattle.mrt_graph.specs.Places.{Each}
use Rattle.cert_checker.proofs.orders.each_is_last.Given as goal

abbrev pub invariant-loop-a : goal.invariant-loop-a
invariant-loop-a l = Each (λ a. has_number l.last (order_of l.c a) (Some a)) l.a
