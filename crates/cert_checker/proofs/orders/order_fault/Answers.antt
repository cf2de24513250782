use Rattle.std.proofs.Common.{◌≡◌, ◌∙◌, sym, ℕ, true, length, Option, Some, None}
use Rattle.std.specs.Option.{MatchOption}
use Rattle.cert_checker.specs.declared.fault_at.FaultAt.{FaultAt}
use Rattle.cert_checker.specs.steps.Found.{FoundPair}
use Rattle.mrt_graph.specs.declared.cert.CertFile.{CertFile}
use Rattle.mrt_graph.specs.RootAndOrders.{RootAndOrders, OrderFault, AtRoot, EqualOrders, root_stands, orders_differ}
use Rattle.mrt_graph.specs.Topology.{Topology}
use Rattle.cert_checker.proofs.orders.order_fault.Goals as goal

orders_found : (g : Topology) (root : ℕ) (file : CertFile) → root_stands g root file ≡ true → (found : Option FaultAt)
    → FoundPair (orders_differ file.cert) (length file.cert.nodes) found
    → MatchOption found (RootAndOrders g root file) (λ place. OrderFault g root file place.a place.b)
orders_found g root file first None hold = record { root_first = first; orders = hold }
orders_found g root file first (Some place) fault = EqualOrders _ _ first fault

pub returns-then-not-is_root_first : goal.returns-then-not-is_root_first
returns-then-not-is_root_first c = rw c.get-at.ensures.value (AtRoot (sym c.is_root_first.ensures ∙ c.if-not-is_root_first.true))

pub returns : goal.returns
returns c = orders_found _ _ _ (sym c.is_root_first.ensures ∙ c.if-not-is_root_first.false) _ c.first_equal_orders.ensures
