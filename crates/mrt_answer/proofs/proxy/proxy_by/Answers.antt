use Rattle.std.proofs.Common.{List, sym, subst}
use Rattle.mrt_args.proofs.HandedOn.{if_ok}
use Rattle.proxy_rows.specs.declared.proxy_row.ProxyRow.{ProxyRow}
use Rattle.proxy_rows.specs.ProxyRows.{AreProxyRows}
use Rattle.mrt_answer.specs.Texts.{proxied}
use Rattle.mrt_answer.proofs.OneProxy.{accepted_for}
use Rattle.mrt_answer.proofs.TextSteps.{of_bytes}
use Rattle.mrt_answer.proofs.proxy.proxy_by.Goals as goal

pub proxy_text_of-requires-clause-rows : goal.proxy_text_of-requires-clause-rows
proxy_text_of-requires-clause-rows c =
    let made = c.in_ok-rows.ensures.rows in (
      made.0.cert,
      accepted_for c.args.graph.now c.args.root made.0 made.1,
      subst (λ (xs : List ProxyRow). AreProxyRows c.args.graph.now made.0.cert c.args.a c.args.b xs) (sym c.deref.ensures.value) made.2,
    )

pub returns : goal.returns
returns c =
    let made = c.in_ok-rows.ensures.rows in
    of_bytes (proxied c.args.graph.now c.args.root c.args.a c.args.b) c.proxy_text_of.result c.bytes_answer.result
    (if_ok c.proxy_text_of.result _ _
    (c.proxy_text_of.ensures made.0.cert
    (subst (λ (xs : List ProxyRow). AreProxyRows c.args.graph.now made.0.cert c.args.a c.args.b xs) (sym c.deref.ensures.value) made.2))
    (λ text spelled. record { file = made.0; certificate = made.1; spelled = spelled }))
    c.bytes_answer.ensures.text c.bytes_answer.ensures.none
