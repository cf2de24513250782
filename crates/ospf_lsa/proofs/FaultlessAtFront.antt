-- Where an LSA without a fault stands at the front of bytes, the record there has no fault.
use Rattle.std.proofs.Common.{◌≡◌, ◌<◌, ◌+◌, ◌*◌, ◌^◌, ℕ, Bool, true, false, List, ◌++◌, length, Option, Some, inl, inr, sym, ap, subst, ◌∙◌, arith}
use Rattle.std.specs.List.{list_any}
use Rattle.ospf_lsa.specs.declared.error.LsaKind.{LsaKind}
use Rattle.ospf_lsa.specs.declared.error.LsaKind.TheVariants as kinds
use Rattle.ospf_lsa.specs.declared.lsa.Body.{Body}
use Rattle.ospf_lsa.specs.declared.lsa.Body.TheVariants.{Router, Network, Other}
use Rattle.ospf_lsa.specs.declared.lsa.Lsa.{Lsa}
use Rattle.ospf_lsa.specs.Checksum.{is_good}
use Rattle.ospf_lsa.specs.Faults.{SpellsLinks, HasBadBody, HasFault, HasZeroMetric}
use Rattle.ospf_lsa.specs.Header.{type_field, length_field, covered_bytes, body_bytes, checksum_field}
use Rattle.ospf_lsa.specs.LsaText.{body_text, lsa_text}
use Rattle.ospf_lsa.specs.Lsas.{has_zero_metric, FitsBody, IsLsa, IsOfType, KeepsMetrics}
use Rattle.ospf_lsa.specs.steps.Reading.{body_links, Links}
use Rattle.ospf_lsa.proofs.Bodies.{spelled_found}
use Rattle.ospf_lsa.proofs.Numbers.{length_numbers}
use Rattle.ospf_lsa.proofs.Records.{IsAtFront, at_front}

-- bytes of a record of this type, its length and its body
record IsRecord (bytes : List ℕ) (kind : ℕ) (body : Body) : Type 0 where
  type : type_field bytes ≡ kind
  text : body_bytes bytes ≡ body_text body
  len : length_field bytes ≡ 20 + length (body_text body)
  short : length (body_text body) < 2 ^ 16

no_bad_body : (bytes : List ℕ) (kind : ℕ) (body : Body) → IsRecord bytes kind body → IsOfType kind body
    → FitsBody body → ¬ HasBadBody bytes
no_bad_body bytes kind (Router flags spare links tos) is of_type fits bad = elim bad [
  | inl router ↦ router.1 links (record { flags = flags; spare = spare; tos = tos; fits = fits; spelled = is.text })
  | inr network ↦ omega (arith, is.type, of_type, network.0)
]
no_bad_body bytes kind (Network mask routers) is of_type fits bad = elim bad [
  | inl router ↦ omega (arith, is.type, of_type, router.0)
  | inr network ↦
      let whole : length_field bytes ≡ 24 + 4 * length routers = omega (arith, is.len, length_numbers routers) in
      elim network.1 [ inl below ↦ omega (arith, whole, below) | inr odd ↦ odd (omega (arith, whole)) ]
]
no_bad_body bytes kind (Other other) is of_type fits bad = elim bad [
  | inl router ↦ of_type.0 (sym is.type ∙ router.0)
  | inr network ↦ of_type.1 (sym is.type ∙ network.0)
]

same_links : (links others : Links) (o : Option Links) → o ≡ Some links → o ≡ Some others → links ≡ others
same_links links others o e f = cc

no_zero_metric : (bytes : List ℕ) (kind : ℕ) (body : Body) → IsRecord bytes kind body → IsOfType kind body
    → FitsBody body → KeepsMetrics body → ¬ HasZeroMetric bytes
no_zero_metric bytes kind (Router flags spare links tos) is of_type fits metrics zero =
    let spells : SpellsLinks (body_bytes bytes) links =
    record { flags = flags; spare = spare; tos = tos; fits = fits; spelled = is.text } in
    let short : length (body_bytes bytes) < 2 ^ 16 = subst (λ (t : List ℕ). length t < 2 ^ 16) (sym is.text) is.short in
    let same : zero.1.0 ≡ links = ap (λ (ls : Links). ls.0)
    (same_links (zero.1.0, zero.1.1.tos) (links, tos) (body_links (body_bytes bytes))
    (spelled_found (body_bytes bytes) zero.1.0 short zero.1.1)
    (spelled_found (body_bytes bytes) links short spells)) in
    let both : true ≡ false = sym zero.1.2 ∙ ap (list_any has_zero_metric) same ∙ metrics in
    absurd cc
no_zero_metric bytes kind (Network mask routers) is of_type fits metrics zero = omega (arith, is.type, of_type, zero.0)
no_zero_metric bytes kind (Other other) is of_type fits metrics zero = of_type.0 (sym is.type ∙ zero.0)

-- no test passes and fails
pub opposite : (b : Bool) → b ≡ true → b ≡ false → ⊥
opposite b passes fails = absurd cc

pub no_fault_at_front : (lsa : Lsa) (rest : List ℕ) → IsLsa lsa → (kind : LsaKind)
    → ¬ HasFault kind (lsa_text lsa ++ rest)
no_fault_at_front lsa rest is kind = by_kind kind (at_front lsa rest is)
  where
    so : IsAtFront lsa rest → IsRecord (lsa_text lsa ++ rest) lsa.kind lsa.body
    so front = record { type = front.kind; text = front.body; len = front.len; short = omega (arith, is.length_fits) }

    by_kind : (kind : LsaKind) → IsAtFront lsa rest → ¬ HasFault kind (lsa_text lsa ++ rest)
    by_kind kinds.Truncated front fault = elim fault [
      | inl cut ↦ omega (arith, front.header.long, cut)
      | inr cut ↦ omega (arith, front.header.within, cut)
    ]
    by_kind kinds.Length front fault = omega (arith, front.header.least, fault)
    by_kind kinds.Checksum front fault =
        opposite (is_good (covered_bytes (lsa_text lsa ++ rest)) (checksum_field (lsa_text lsa ++ rest)))
        front.header.good fault
    by_kind kinds.ReservedSequence front fault = front.header.not_reserved fault
    by_kind kinds.IdMismatch front fault = fault.1 (front.header.own_id fault.0)
    by_kind kinds.Body front fault = no_bad_body (lsa_text lsa ++ rest) lsa.kind lsa.body
        (so front) is.of_type is.body fault
    by_kind kinds.ZeroMetric front fault = no_zero_metric (lsa_text lsa ++ rest) lsa.kind lsa.body
        (so front) is.of_type is.body is.metrics fault
