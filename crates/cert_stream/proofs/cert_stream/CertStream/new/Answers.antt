use Rattle.std.proofs.Common.{◌≡◌, ◌∙◌, ◌<◌, ◌^◌, ℕ, List, length, refl, sym, ap, subst, arith}
use Rattle.std.specs.Prelude.{Some, slice_get}
use Rattle.std.specs.List.{AllByRecursion}
use Rattle.mrt_graph.specs.declared.cert.CertFile.{CertFile}
use Rattle.mrt_graph.specs.declared.cert.CertLink.{CertLink}
use Rattle.mrt_graph.specs.declared.cert.CertNode.{CertNode}
use Rattle.mrt_graph.specs.declared.node_id.NodeId.{NodeId}
use Rattle.mrt_graph.specs.GraphInvariant.{IsTopology}
use Rattle.mrt_graph.specs.Topology.{Topology}
use Rattle.mrt_rows.specs.CertOf.{IsCertOf}
use Rattle.cert_format.specs.CertText.{header_text}
use Rattle.cert_format.specs.Limits.{HasNumber, IsCertFile}
use Rattle.cert_format.specs.Putting.{Writer}
use Rattle.cert_stream.specs.steps.Stream.{AreOfFile}
use Rattle.cert_stream.proofs.Whole.{file_within}
use Rattle.cert_stream.proofs.cert_stream.CertStream.new.Goals as goal

-- what is held of each certificate of the two
held : (g : Topology) (root at number : ℕ) (id : NodeId) (nodes given : List CertNode) (links : List CertLink) → IsTopology g → root < length g.ids → at ≡ root → slice_get g.ids root ≡ Some id → number ≡ id.number
    → ((file : CertFile) → IsCertOf g at file → nodes ≡ file.cert.nodes) → ((file : CertFile) → IsCertOf g at file → links ≡ file.cert.links)
    → given ≡ nodes → number < 2 ^ 32 → AllByRecursion HasNumber given → (file : CertFile) → IsCertOf g at file → AreOfFile file number nodes links × IsCertFile file
held g root at number id nodes given links kept within same there is_number are_nodes are_links value fits all file is =
    let are : AreOfFile file number nodes links = record {
      of_root = is_number ∙ sym (is.tells.root_number id (ap (slice_get g.ids) same ∙ there));
      all_nodes = are_nodes file is;
      all_links = are_links file is;
    } in
    (are, file_within g at file kept (omega (arith, same, within)) is number nodes links are fits (subst (λ (it : List CertNode). AllByRecursion HasNumber it) value all))

pub invariant_of-result : goal.invariant_of-result
invariant_of-result c =
    let root = c.in_ok-rows.ensures.root in
    let some = c.in_ok-rows.ensures.cert in
    let at : ℕ → ℕ → Writer = λ n m. record { version = 2; gone = 0; held = header_text 2 n m c.id-number.result.number } in
    let each = held c.args.graph c.args.root c.in_ok-rows.rows.root c.id-number.result.number c.id-number.result c.in_ok-nodes.nodes.items c.deref.result.now c.in_ok-links.links.items c.in_ok-rows.ensures.kept c.requires root c.id-number.ensures refl
    c.in_ok-nodes.ensures c.in_ok-links.ensures c.deref.ensures.value c.numbers_fit.ensures.root c.numbers_fit.ensures.nodes in (
      record {
        made = c.in_ok-rows.ensures.made;
        some = (some.0, subst (λ (r : ℕ). IsCertOf c.args.graph r some.0) (sym root) some.1);
        parts = λ file is. (each file is).0;
        within = λ file is. (each file is).1;
        header = c.in_ok-writer.ensures ∙ ap (λ (n : ℕ). at n c.link_count.result) c.node_count.ensures.count
            ∙ ap (at (length c.args.graph.ids)) c.link_count.ensures.count;
      },
      record { same = sym root; within = c.requires; kept = c.in_ok-rows.ensures.kept },
    )

pub returns-clause-within : goal.returns-clause-within
returns-clause-within c = λ file is.
    let root = c.in_ok-rows.ensures.root in
    let each = held c.args.graph c.args.root c.in_ok-rows.rows.root c.id-number.result.number c.id-number.result c.in_ok-nodes.nodes.items c.deref.result.now c.in_ok-links.links.items c.in_ok-rows.ensures.kept c.requires root c.id-number.ensures refl
    c.in_ok-nodes.ensures c.in_ok-links.ensures c.deref.ensures.value c.numbers_fit.ensures.root c.numbers_fit.ensures.nodes in
    (each file (subst (λ (r : ℕ). IsCertOf c.args.graph r file) (sym root) is)).1
