use Rattle.std.proofs.Common.{◌≡◌, ◌<◌, ◌∙◌, ◌==◌, ℕ, List, [], false, length, refl, sym, ap, subst, inl, inr, arith}
use Rattle.std.specs.List.{slice_index_or}
use Rattle.std.proofs.lemmas.Bool.{cases_eq, eq-eqb, ne_eqb}
use Rattle.mrt_graph.specs.Certificate.{certificate_of}
use Rattle.mrt_graph.specs.Foldable.{is_own_head}
use Rattle.mrt_graph.specs.declared.cert.CertNode.{CertNode}
use Rattle.cert_format.proofs.HeadFaults.{head_read, least_is, least_none}
use Rattle.cert_format.proofs.heads.least_own_head.Goals as goal

own_read : (nodes : List CertNode) (a : ℕ) (node : CertNode) → a < length nodes → node ≡ slice_index_or nodes a node → is_own_head (certificate_of nodes [] []) a ≡ (node.head == a)
own_read nodes a node within is = rw (head_read nodes a node within is) refl

pub returns-then-get-a : goal.returns-then-get-a
returns-then-get-a c =
    sym (least_is (is_own_head (certificate_of c.args.nodes.now [] [])) (length c.args.nodes.now) c.loop-a.a c.loop-a-test.true
    (own_read c.args.nodes.now c.loop-a.a c.index-nodes-a.result c.loop-a-test.true c.index-nodes-a.is ∙ eq-eqb c.index-nodes-a.result.head c.loop-a.a (ap (λ (it : CertNode). it.head) c.index-nodes-a.is ∙ sym c.get.ensures.value ∙ c.if-get-a.true))
    c.loop-a.invariant)

pub loop-a-preserved : goal.loop-a-preserved
loop-a-preserved c = λ x below. elim (cases_eq x c.loop-a.a) [
  | inl same ↦ subst (λ (y : ℕ). is_own_head (certificate_of c.args.nodes.now [] []) y ≡ false) (sym same)
      (own_read c.args.nodes.now c.loop-a.a c.index-nodes-a.result c.loop-a-test.true c.index-nodes-a.is ∙ ne_eqb c.index-nodes-a.result.head c.loop-a.a (λ e. c.if-get-a.false (c.get.ensures.value ∙ ap (λ (it : CertNode). it.head) (sym c.index-nodes-a.is) ∙ e)))
  | inr other ↦ c.loop-a.invariant x (omega (arith, below, other))
]

pub returns : goal.returns
returns c = sym (least_none (is_own_head (certificate_of c.args.nodes.now [] [])) (length c.args.nodes.now) (λ x below. c.loop-a.invariant x (omega (arith, below, c.loop-a-test.false))))
