use Rattle.std.proofs.Common.{sym, subst, arith}
use Rattle.mrt_graph.specs.Rules.{GraphRule}
use Rattle.proxy_rows.specs.ProxyRows.{AreProxyRows}
use Rattle.proxy_rows.proofs.Attaching.{node_there}
use Rattle.proxy_rows.proofs.text.proxy_text.Goals as goal

pub proxy_text_of-requires : goal.proxy_text_of-requires
proxy_text_of-requires c =
    let same = (c.requires.accepted.accepted GraphRule).counts.nodes in
    let told = subst (AreProxyRows c.args.g.now c.args.c.now c.args.a c.args.b) (sym c.deref.ensures.value) c.in_ok-rows.ensures.rows in
    let within = node_there (λ node. node.order) c.args.c.now c.args.root 1 c.requires.root in
    record {
      rows = (c.args.c.now, c.requires.accepted, told);
      root = omega (arith, within, same);
      first = c.requires.first;
      second = c.requires.second;
    }

pub returns-clause-text : goal.returns-clause-text
returns-clause-text c =
    c.in_ok-text.ensures c.args.c.now
    (subst (AreProxyRows c.args.g.now c.args.c.now c.args.a c.args.b) (sym c.deref.ensures.value) c.in_ok-rows.ensures.rows)
