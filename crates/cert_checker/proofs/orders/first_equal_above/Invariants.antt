use Rattle.mrt_graph.specs.Places.{Each}
use Rattle.mrt_graph.specs.RootAndOrders.{orders_differ}
use Rattle.cert_checker.proofs.orders.first_equal_above.Given as goal

abbrev pub invariant-loop-b : goal.invariant-loop-b
invariant-loop-b l = Each (orders_differ l.c l.fn.a) l.b
