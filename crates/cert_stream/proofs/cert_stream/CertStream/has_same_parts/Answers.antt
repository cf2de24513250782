use Rattle.std.proofs.Common.{◌≡◌, ◌↔◌, ◌∙◌, ℕ, Bool, false, List, sym, subst}
use Rattle.std.specs.Prelude.{IsTrue}
use Rattle.std.proofs.lemmas.Bool.{eqb-true, false≢true}
use Rattle.mrt_graph.specs.declared.cert.CertFile.{CertFile}
use Rattle.mrt_graph.specs.declared.cert.CertLink.{CertLink}
use Rattle.mrt_graph.specs.declared.cert.CertNode.{CertNode}
use Rattle.mrt_rows.specs.CertOf.{IsCertOf}
use Rattle.cert_stream.specs.steps.Stream.{AreOfFile, HaveSameParts}
use Rattle.cert_stream.specs.Stream.{Stream}
use Rattle.cert_stream.proofs.cert_stream.CertStream.has_same_parts.Goals.{then-self-other, else-self-other}
use Rattle.cert_stream.proofs.cert_stream.CertStream.has_same_parts.Goals as goal

module _ (file second : CertFile) (one other : ℕ) (nodes others : List CertNode) (links more : List CertLink) (r : Bool) (are : AreOfFile file one nodes links) (second_are : AreOfFile second other others more) where
  -- where the numbers and the nodes are the same, the links decide
  links_decide : one ≡ other → nodes ≡ others → (IsTrue r ↔ (links ≡ more)) → (IsTrue r ↔ HaveSameParts file second)
  links_decide same_root same_nodes both = (
    λ yes. record {
      root = sym are.of_root ∙ same_root ∙ second_are.of_root;
      nodes = sym are.all_nodes ∙ same_nodes ∙ second_are.all_nodes;
      links = sym are.all_links ∙ both.0 yes ∙ second_are.all_links;
    },
    λ same. both.1 (are.all_links ∙ same.links ∙ sym second_are.all_links),
  )

  -- where they are not, the files differ
  files_differ : ((one ≡ other) × (nodes ≡ others) → ⊥) → r ≡ false → (IsTrue r ↔ HaveSameParts file second)
  files_differ apart false_is = (
    λ yes. absurd (false≢true (sym false_is ∙ yes)),
    λ same. absurd (apart (are.of_root ∙ same.root ∙ sym second_are.of_root, are.all_nodes ∙ same.nodes ∙ sym second_are.all_nodes)),
  )

pub returns-then-are_nodes_same : goal.returns-then-are_nodes_same
returns-then-are_nodes_same c = λ file second is second_is.
    let now : IsCertOf c.self.inside.graph c.self.inside.rows.root file = subst (λ (it : Stream). IsCertOf it.graph it.root file) (sym c.self.view_is) is in
    let second_now : IsCertOf c.other.inside.graph c.other.inside.rows.root second = subst (λ (it : Stream). IsCertOf it.graph it.root second) (sym c.other.view_is) second_is in
    let same : (c.self.inside.number ≡ c.other.inside.number) × (c.self.inside.nodes.items ≡ c.other.inside.nodes.items) = elim c.if-self-other.branch [
      | then-self-other w ↦ (
        w.if-self-other.true,
        sym w.deref.ensures.value ∙ w.are_nodes_same.ensures.0 (sym w.value-is ∙ c.if-are_nodes_same.true) ∙ w.deref-then-self-other.ensures.value,
      )
      | else-self-other w ↦ absurd (w.if-self-other.false (eqb-true _ _ (sym w.value-is ∙ c.if-are_nodes_same.true)))
    ] in
    links_decide file second _ _ _ _ _ _ c.are_links_same.result (c.self.invariant.0.parts file now) (c.other.invariant.0.parts second second_now) same.0 same.1
    (rw (c.deref-then-are_nodes_same.ensures.value, c.deref-then-are_nodes_same-2.ensures.value) at c.are_links_same.ensures)

pub returns-else-are_nodes_same : goal.returns-else-are_nodes_same
returns-else-are_nodes_same c = λ file second is second_is.
    let now : IsCertOf c.self.inside.graph c.self.inside.rows.root file = subst (λ (it : Stream). IsCertOf it.graph it.root file) (sym c.self.view_is) is in
    let second_now : IsCertOf c.other.inside.graph c.other.inside.rows.root second = subst (λ (it : Stream). IsCertOf it.graph it.root second) (sym c.other.view_is) second_is in
    let apart : (c.self.inside.number ≡ c.other.inside.number) × (c.self.inside.nodes.items ≡ c.other.inside.nodes.items) → ⊥ = λ both. elim c.if-self-other.branch [
      | then-self-other w ↦ false≢true (sym c.if-are_nodes_same.false ∙ w.value-is ∙ w.are_nodes_same.ensures.1 (w.deref.ensures.value ∙ both.1 ∙ sym w.deref-then-self-other.ensures.value))
      | else-self-other w ↦ w.if-self-other.false both.0
    ] in
    files_differ file second _ _ _ _ _ _ c.if-self-other.value (c.self.invariant.0.parts file now) (c.other.invariant.0.parts second second_now) apart c.if-are_nodes_same.false
