use Rattle.std.proofs.Common.{◌≡◌, ◌∙◌, ◌==◌, ℕ, Option, Some, not, length, sym, ap, List, []}
use Rattle.std.specs.List.{slice_index_or}
use Rattle.std.specs.Option.{option_map_or}
use Rattle.mrt_graph.specs.BothThere.{are_equal}
use Rattle.mrt_graph.specs.Certificate.{certificate_of}
use Rattle.mrt_graph.specs.Foldable.{comes_to}
use Rattle.mrt_graph.specs.declared.cert.CertNode.{CertNode}
use Rattle.cert_format.specs.steps.Reading.{AreEnds}
use Rattle.cert_format.specs.Folded.{least}
use Rattle.cert_format.proofs.HeadFaults.{least_alike}
use Rattle.cert_format.proofs.heads.stray_head.Goals as goal

-- the fault, by where the chains end
by_ends : (nodes : List CertNode) (own stray : Option ℕ) (top : ℕ) (ends : List ℕ) → own ≡ Some top → AreEnds nodes (length nodes) ends
    → stray ≡ least (λ v. not (slice_index_or ends v 0 == top)) (length ends)
    → stray ≡ option_map_or (λ r. least (λ a. not (comes_to (certificate_of nodes [] []) r a)) (length nodes)) own (Some 0)
by_ends nodes own stray top ends is are e =
    let c = certificate_of nodes [] [] in
    e ∙ ap (least (λ v. not (slice_index_or ends v 0 == top))) are.many
    ∙ least_alike (λ v. not (slice_index_or ends v 0 == top)) (λ a. not (comes_to c top a)) (length nodes) (λ v within. ap (λ (o : Option ℕ). not (are_equal o (Some top))) (sym (are.each v within)))
    ∙ ap (λ (o : Option ℕ). option_map_or (λ r. least (λ a. not (comes_to c r a)) (length nodes)) o (Some 0)) (sym is)

pub returns-in_default : goal.returns-in_default
returns-in_default c =
    ap (λ (o : Option ℕ). option_map_or (λ r. least (λ a. not (comes_to (certificate_of c.args.nodes.now [] []) r a)) (length c.args.nodes.now)) o (Some 0)) (sym (sym c.least_own_head.ensures ∙ c.in_default.is))

pub returns : goal.returns
returns c =
    by_ends c.args.nodes.now _ c.first_other.result c.in-Some.top c.in_ok-ends.ends.items (sym c.least_own_head.ensures ∙ c.in-Some.is) c.in_ok-ends.ensures (rw c.deref.ensures.value at c.first_other.ensures)
