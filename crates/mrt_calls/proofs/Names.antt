-- A kind and a number name one node.
use Rattle.std.proofs.Common.{◌≡◌, ◌∙◌, ℕ, refl, sym, arith}
use Rattle.cert_format.specs.CertText.{kind_number}
use Rattle.mrt_graph.specs.declared.node_id.Kind.{Kind}
use Rattle.mrt_graph.specs.declared.node_id.Kind.TheVariants.{Router, Network}
use Rattle.mrt_graph.specs.declared.node_id.NodeId.{NodeId}
use Rattle.mrt_calls.specs.TableRows.{IsNamed}

one_kind : (kind other : Kind) (number : ℕ) → kind_number kind ≡ number → kind_number other ≡ number → kind ≡ other
one_kind Router Router number one two = refl
one_kind Router Network number one two = absurd (omega (arith, one, two))
one_kind Network Router number one two = absurd (omega (arith, one, two))
one_kind Network Network number one two = refl

pub one_name : (id other : NodeId) (kind number : ℕ) → IsNamed id kind number → IsNamed other kind number → id ≡ other
one_name id other kind number one two =
    let kinds : id.kind ≡ other.kind = one_kind id.kind other.kind kind one.0 two.0 in
    let numbers : id.number ≡ other.number = one.1 ∙ sym two.1 in
    λ i. record { kind = kinds i; number = numbers i }

pub is_of_kind : (id : NodeId) (kind number : ℕ) → IsNamed id kind number → (kind ≡ 1 → ⊥) → (kind ≡ 2 → ⊥) → ⊥
is_of_kind id kind number named router network = go id.kind named.0
  where
    go : (k : Kind) → kind_number k ≡ kind → ⊥
    go Router is = router (sym is)
    go Network is = network (sym is)
