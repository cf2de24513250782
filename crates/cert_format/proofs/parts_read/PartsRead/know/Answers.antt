use Rattle.std.proofs.Common.{◌≡◌, ◌∙◌, ℕ, List, [], None, Some, length, sym, subst, refl, ap, arith}
use Rattle.std.specs.List.{AllByRecursion}
use Rattle.std.proofs.lemmas.Bool.{ne_eqb}
use Rattle.mrt_graph.specs.Certificate.{IsCertNode, certificate_of}
use Rattle.mrt_graph.specs.Kin.{Kin, kin_of}
use Rattle.mrt_graph.specs.declared.cert.CertNode.{CertNode}
use Rattle.mrt_graph.proofs.Members.{all_weaker}
use Rattle.cert_format.specs.Folded.{head_fault}
use Rattle.cert_format.specs.steps.Reading.{IsNode}
use Rattle.cert_format.proofs.Files.{few_most_nodes}
use Rattle.cert_format.proofs.parts_read.PartsRead.know.Goals as goal

kept_nodes : (n : ℕ) (nodes items : List CertNode) → length nodes ≡ n → items ≡ nodes → AllByRecursion (IsNode n) nodes → AllByRecursion (IsCertNode (length items)) items
kept_nodes n nodes items all is kept =
    subst (λ (it : List CertNode). AllByRecursion (IsCertNode (length it)) it) (sym is)
    (subst (λ (k : ℕ). AllByRecursion (IsCertNode k) nodes) (sym all) (all_weaker (IsNode n) (IsCertNode n) (λ x keeps. keeps.kept) nodes kept))

pub returns-then-header-eq1-clause-knows : goal.returns-then-header-eq1-clause-knows
returns-then-header-eq1-clause-knows c = record { heads = rw c.if-header-eq1.true refl; index = rw c.if-header-eq1.true c.requires.none }

pub stray_head-requires : goal.stray_head-requires
stray_head-requires c = record {
  few = omega (arith, c.requires.all, c.requires.header.few_nodes, few_most_nodes c.args.header.version, ap length c.deref.ensures.value);
  kept = kept_nodes c.args.header.nodes c.args.self.now.nodes.items c.deref.result.now c.requires.all c.deref.ensures.value c.requires.kept;
}

pub new-requires : goal.new-requires
new-requires c = record {
  few = omega (arith, c.requires.all, c.requires.header.few_nodes, few_most_nodes c.args.header.version, ap length c.deref-2.ensures.value);
  kept = kept_nodes c.args.header.nodes c.args.self.now.nodes.items c.deref-2.result.now c.requires.all c.deref-2.ensures.value c.requires.kept;
}

pub returns-in-Some-clause-knows : goal.returns-in-Some-clause-knows
returns-in-Some-clause-knows c =
    let stray : head_fault (certificate_of c.args.self.now.nodes.items [] []) ≡ Some c.in-Some.a =
    sym (c.in_ok-a.ensures ∙ ap (λ (it : List CertNode). head_fault (certificate_of it [] [])) c.deref.ensures.value) ∙ c.in-Some.is in
    rw c.head_fault.ensures (c.in-Some.a, rw (ne_eqb c.args.header.version 1 c.if-header-eq1.false) stray, refl, refl)

pub returns-clause-knows : goal.returns-clause-knows
returns-clause-knows c =
    let two = ne_eqb c.args.header.version 1 c.if-header-eq1.false in
    let none : head_fault (certificate_of c.args.self.now.nodes.items [] []) ≡ None =
    sym (c.in_ok-a.ensures ∙ ap (λ (it : List CertNode). head_fault (certificate_of it [] [])) c.deref.ensures.value) ∙ c.in_default.is in
    record { heads = rw two none; index = rw two (ap (λ (it : Kin). Some it) (c.in_ok-new.ensures ∙ ap kin_of c.deref-2.ensures.value)) }
