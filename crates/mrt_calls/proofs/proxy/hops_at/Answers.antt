use Rattle.std.proofs.Common.{List, sym, subst}
use Rattle.proxy_rows.specs.declared.proxy_row.ProxyRow.{ProxyRow}
use Rattle.proxy_rows.specs.ProxyRows.{AreProxyRows}
use Rattle.proxy_rows.specs.steps.Touches.{AllTouch}
use Rattle.proxy_rows.proofs.Touching.{all_touch}
use Rattle.mrt_answer.proofs.OneProxy.{accepted_for}
use Rattle.mrt_calls.proofs.proxy.hops_at.Goals as goal

pub row_at-requires-clause-touch : goal.row_at-requires-clause-touch
row_at-requires-clause-touch c =
    let g = c.args.at.now.graph.now in
    let made = c.in_ok-entries.ensures.rows in
    subst (λ (xs : List ProxyRow). AllTouch g xs) (sym c.deref.ensures.value)
    (all_touch g made.0.cert c.args.a c.args.b c.in_ok-entries.entries.items c.node_count-count.ensures.kept
    (accepted_for g c.args.at.now.root made.0 made.1) made.2)

pub returns-clause-hops : goal.returns-clause-hops
returns-clause-hops c =
    let g = c.args.at.now.graph.now in
    let made = c.in_ok-entries.ensures.rows in
    let hops = c.row_at.ensures.hops in
    record {
      file = made.0;
      certificate = made.1;
      entries = c.deref.result.now;
      entries_are = subst (λ (xs : List ProxyRow). AreProxyRows g made.0.cert c.args.a c.args.b xs) (sym c.deref.ensures.value) made.2;
      entry = hops.0;
      entry_is = hops.1;
      done = c.row_at.ensures.done;
      blue_is = hops.2;
      red_is = hops.3;
    }
