use Rattle.next_hops.specs.Causes.{IsCause}
use Rattle.next_hops.specs.declared.failure.Failure.{Failure}
use Rattle.next_hops.specs.Failures.{area_failure, island_failure}
use Rattle.next_hops.specs.declared.next_hops.NextHops.{NextHops}
use Rattle.next_hops.specs.NextHops.{AreNextHops, AreNextHopsIn}
use Rattle.next_hops.proofs.Causing.{area_cause, failed, inside, island_cause, island_of, missed}
use Rattle.next_hops.proofs.Leading.{in_words}
use Rattle.next_hops.proofs.next_hops.next_hops.Goals as goal

pub returns-in_err-database-clause-none : goal.returns-in_err-database-clause-none
returns-in_err-database-clause-none c =
    failed c.from_residual.result c.in_err-database.field-0.0 (IsCause c.args.bytes.now c.args.router c.args.to) c.from_residual.ensures.1
    (c.in_err-database.ensures.none c.args.router c.args.to)

pub returns-in_err-area-clause-none : goal.returns-in_err-area-clause-none
returns-in_err-area-clause-none c =
    failed c.from_residual-in_err-area.result (area_failure c.in_err-area.field-0.0)
    (IsCause c.args.bytes.now c.args.router c.args.to) c.from_residual-in_err-area.ensures.1
    (area_cause c.args.bytes.now c.args.router c.args.to _ c.in_ok-database.ensures.newest _ c.in_err-area.ensures.refused)

pub returns-in_err-island-clause-none : goal.returns-in_err-island-clause-none
returns-in_err-island-clause-none c =
    failed c.from_residual-in_err-island.result (island_failure c.in_err-island.field-0.0)
    (IsCause c.args.bytes.now c.args.router c.args.to) c.from_residual-in_err-island.ensures.1
    (island_cause c.args.bytes.now c.args.router c.args.to _ c.in_ok-database.ensures.newest _ c.in_ok-area.ensures.area _ c.empty.ensures _
    c.in_err-island.ensures.not_there.0 c.in_err-island.ensures.unsupported.0)

pub next_hops_in-requires-clause-root : goal.next_hops_in-requires-clause-root
next_hops_in-requires-clause-root c = (inside _ _ _ _ _ _ c.in_ok-island.ensures.island).0

pub next_hops_in-requires-clause-own : goal.next_hops_in-requires-clause-own
next_hops_in-requires-clause-own c = (inside _ _ _ _ _ _ c.in_ok-island.ensures.island).1

pub returns-clause-hops : goal.returns-clause-hops
returns-clause-hops c = in_words NextHops Failure (AreNextHopsIn c.in_ok-island.island.graph c.in_ok-island.island.root c.args.router c.args.to)
    (AreNextHops c.args.bytes.now c.args.router c.args.to) c.next_hops_in.result (λ hops there. record {
      graph = c.in_ok-island.island.graph;
      root = c.in_ok-island.island.root;
      island = island_of _ _ _ _ _ _ c.in_ok-database.ensures.newest _ c.in_ok-area.ensures.area _ c.empty.ensures c.in_ok-island.ensures.island;
      there = there;
    }) c.next_hops_in.ensures.hops

pub returns-clause-none : goal.returns-clause-none
returns-clause-none c =
    missed c.next_hops_in.result c.args.bytes.now c.args.router c.args.to c.in_ok-island.island.graph c.in_ok-island.island.root
    (island_of _ _ _ _ _ _ c.in_ok-database.ensures.newest _ c.in_ok-area.ensures.area _ c.empty.ensures c.in_ok-island.ensures.island)
    c.next_hops_in.ensures.none
