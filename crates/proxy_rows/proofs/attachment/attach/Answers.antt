use Rattle.std.proofs.Common.{◌≡◌, ◌∙◌, List, false, slice_get, length, inl, inr, refl, sym, ap, subst, arith}
use Rattle.std.proofs.lemmas.Bool.{cases_lt, true≢false}
use Rattle.mrt_graph.specs.declared.cert.CertNode.{CertNode}
use Rattle.mrt_graph.specs.Related.{are_unrelated}
use Rattle.proxy_rows.specs.Attachment.{IsAttachment}
use Rattle.proxy_rows.proofs.Attaching.{attached, attached_turned, head_there, orders_differ, unrelated_in}
use Rattle.proxy_rows.proofs.attachment.attach.Goals as goal

pub returns-then-are_unrelated-clause-none : goal.returns-then-are_unrelated-clause-none
returns-then-are_unrelated-clause-none c cert same =
    (λ none. unrelated_in cert c.args.nodes.now c.args.a c.args.b same ∙ sym c.are_unrelated.ensures ∙ c.if-are_unrelated.true, λ unrelated. refl)

pub returns-clause-found : goal.returns-clause-found
returns-clause-found c g cert same accepted =
    let one = c.node_at-one.result in
    let other = c.node_at-other.result in
    let at_a = ap (λ (nodes : List CertNode). slice_get nodes c.args.a) same ∙ c.node_at-one.ensures in
    let at_b = ap (λ (nodes : List CertNode). slice_get nodes c.args.b) same ∙ c.node_at-other.ensures in
    let differ = orders_differ g cert accepted c.args.a c.args.b one other at_a at_b c.requires.different in
    let near : are_unrelated cert c.args.a c.args.b ≡ false = unrelated_in cert c.args.nodes.now c.args.a c.args.b same ∙ sym c.are_unrelated.ensures ∙ c.if-are_unrelated.false in
    elim (cases_lt one.order other.order) [
      | inl less ↦ subst (IsAttachment cert c.args.a c.args.b) (sym (c.in_order.ensures.ascending less))
          (attached g cert accepted c.args.a c.args.b one other at_a at_b c.requires.different near less)
      | inr above ↦ subst (IsAttachment cert c.args.a c.args.b) (sym (c.in_order.ensures.descending above))
          (attached_turned g cert accepted c.args.a c.args.b one other at_a at_b c.requires.different near (omega (arith, above, differ)))
    ]

pub returns-clause-head : goal.returns-clause-head
returns-clause-head c g cert same accepted =
    omega (arith, head_there g cert accepted _ _ (returns-clause-found c g cert same accepted).headed, ap length same)

pub returns-clause-none : goal.returns-clause-none
returns-clause-none c cert same = (
  λ none. absurd (cc),
  λ unrelated. absurd (true≢false (sym unrelated ∙ unrelated_in cert c.args.nodes.now c.args.a c.args.b same ∙ sym c.are_unrelated.ensures ∙ c.if-are_unrelated.false)),
)
