-- There is one file that tells of a graph.
use Rattle.std.proofs.Common.{◌≡◌, ◌∙◌, ◌<◌, ◌*◌, ◌-◌, ℕ, List, Some, length, slice_get, sym, subst, arith}
use Rattle.std.proofs.lemmas.List.{same_lists}
use Rattle.std.proofs.lemmas.Option.{get_or_from_slice_get}
use Rattle.mrt_graph.specs.declared.cert.CertFile.{CertFile}
use Rattle.mrt_graph.specs.declared.cert.CertLink.{CertLink}
use Rattle.mrt_graph.specs.declared.cert.CertNode.{CertNode}
use Rattle.mrt_graph.specs.declared.node_id.NodeId.{NodeId}
use Rattle.mrt_graph.specs.Certificate.{row_of}
use Rattle.mrt_graph.specs.GraphInvariant.{IsTopology}
use Rattle.mrt_graph.specs.DirectedLists.{DirectedLists}
use Rattle.mrt_graph.specs.Topology.{Topology}
use Rattle.mrt_graph.proofs.ListTests.{there}
use Rattle.link_direction.specs.Directions.{Directions, Says}
use Rattle.link_direction.specs.OrderedGadag.{IsOrderedGadag}
use Rattle.mrt_graph.specs.declared.tree.TreeNode.{TreeNode}
use Rattle.mrt_graph.specs.GadagLists.{GadagLists}
use Rattle.lowpoint_dfs.proofs.OneSearch.{one_search}
use Rattle.gadag_ears.specs.Gadag.{IsGadag}
use Rattle.gadag_ears.proofs.FromSearch.{facts_of}
use Rattle.gadag_ears.proofs.OneGadag.{one_gadag}
use Rattle.link_direction.specs.Directed.{IsDirected}
use Rattle.link_direction.specs.FromEars.{IsFromEars}
use Rattle.link_direction.proofs.FromEarsFacts.{gadag_facts}
use Rattle.link_direction.proofs.OneAnswer.{one_answer}
use Rattle.link_direction.proofs.SameDirections.{ordered_too, said_alike}
use Rattle.mrt_rows.specs.CertOf.{AreLinkWords, AreNodeWords, IsCertOf, Tells}
use Rattle.mrt_rows.proofs.Agreeing.{tells_too}
use Rattle.mrt_rows.proofs.CertAccepted.{ordered_words}
use Rattle.mrt_rows.proofs.OneRow.{one_row}
use Rattle.mrt_rows.proofs.OrderedGraphs.{OrderedGraph}
use Rattle.mrt_graph.proofs.RowPlaces.{placed, row_at}

file_same : (a b : CertFile) → a.version ≡ b.version → a.root ≡ b.root → a.cert.nodes ≡ b.cert.nodes → a.cert.links ≡ b.cert.links
    → a.cert.rows ≡ b.cert.rows → a ≡ b
file_same a b version root nodes links rows = λ i. record {
  version = version i;
  root = root i;
  cert = record { nodes = nodes i; links = links i; rows = rows i };
}

-- lists of one length with the same at each place are one
pub same_slices : {X : Type 0} (xs ys : List X) → length xs ≡ length ys → ((k : ℕ) → k < length xs → slice_get xs k ≡ slice_get ys k) → xs ≡ ys
same_slices xs ys many same = same_lists xs ys many (λ k d within.
    let x = there xs k within in
    get_or_from_slice_get xs k x.0 d x.1 ∙ sym (get_or_from_slice_get ys k x.0 d (sym (same k within) ∙ x.1)))

-- there is one list of words on all nodes, and one on all links
pub one_node_words : (g : Topology) (w : Directions) (nodes others : List CertNode) → AreNodeWords g w nodes → AreNodeWords g w others → nodes ≡ others
one_node_words g w nodes others are others_are = same_slices nodes others (are.one_each ∙ sym others_are.one_each) (λ a within.
    let id = there g.ids a (omega (arith, within, are.one_each)) in are.each a id.0 id.1 ∙ sym (others_are.each a id.0 id.1))

pub one_link_words : (g : Topology) (w : Directions) (links others : List CertLink) → AreLinkWords g w links → AreLinkWords g w others → links ≡ others
one_link_words g w links others are others_are = same_slices links others (are.one_each ∙ sym others_are.one_each) (λ e within.
    let link = there g.links e (omega (arith, within, are.one_each)) in are.each e link.0 link.1 ∙ sym (others_are.each e link.0 link.1))

one_file : (og : OrderedGraph) (file other : CertFile) → Tells og.g og.root og.w file → Tells og.g og.root og.w other → file ≡ other
one_file og file other tells other_tells =
    file_same file other (tells.version ∙ sym other_tells.version) (tells.root_number id.0 id.1 ∙ sym (other_tells.root_number id.0 id.1))
    (one_node_words og.g og.w file.cert.nodes other.cert.nodes tells.nodes other_tells.nodes)
    (one_link_words og.g og.w file.cert.links other.cert.links tells.links other_tells.links)
    (same_slices file.cert.rows other.cert.rows (tells.row_count ∙ sym other_tells.row_count)
    (λ k within. row_same k (subst (λ (x : ℕ). k < x) tells.row_count within)))
  where
    id : (id : NodeId) × (slice_get og.g.ids og.root ≡ Some id)
    id = there og.g.ids og.root og.ordered.root_within

    row_same : (k : ℕ) → k < length og.g.ids * (length og.g.ids - 1) → slice_get file.cert.rows k ≡ slice_get other.cert.rows k
    row_same k within =
        let n = length og.g.ids in
        let at = placed n k within in
        let s = at.source in
        let t = at.target in
        let one = one_row og s at.source_within (row_of file.cert s) (row_of other.cert s) (λ u. tells.rows s u at.source_within)
        (λ u. other_tells.rows s u at.source_within) t at.target_within at.two in
        subst (λ (x : ℕ). slice_get file.cert.rows x ≡ slice_get other.cert.rows x) at.place
        (sym (row_at file.cert n s t tells.nodes.one_each at.source_within at.target_within at.two) ∙ one
        ∙ row_at other.cert n s t other_tells.nodes.one_each at.source_within at.target_within at.two)

-- the files are one, by two accounts of one GADAG with its order
pub one_cert : (g : Topology) (root : ℕ) (d : DirectedLists) (w v : Directions) (file other : CertFile) → IsTopology g
    → IsOrderedGadag g root w → Says g d w → Says g d v → Tells g root w file → Tells g root v other → file ≡ other
one_cert g root d w v file other kept ordered says says' tells tells' =
    let heads = (ordered_too g root w v kept (said_alike g d w v says says') ordered).heads.head_within in
    one_file (record { g = g; root = root; w = w; kept = kept; ordered = ordered }) file other tells
    (tells_too g kept v w (said_alike g d v w says' says) root other heads tells')

-- a graph has one certificate from its root
pub one_cert_of : (g : Topology) (root : ℕ) (file other : CertFile) → IsTopology g → root < length g.ids
    → IsCertOf g root file → IsCertOf g root other → file ≡ other
one_cert_of g root file other kept within is is' =
    let search = one_search g root is.tree is'.tree kept within is.searched is'.searched in
    let facts = facts_of g root is'.tree (record { kept = kept; within = within; search = is'.searched }) in
    let by_ears = subst (λ (tree : List TreeNode). IsGadag g root tree is.gadag) search is.by_ears in
    let gadag = one_gadag g root is'.tree is.gadag is'.gadag facts by_ears is'.by_ears in
    let in_order = subst (λ (gadag : GadagLists). IsDirected g root gadag is.directed) gadag is.in_order in
    let from : IsFromEars g root is'.gadag = record { tree = is'.tree; search = is'.searched; is_gadag = is'.by_ears } in
    let directed =
    one_answer g root is'.gadag is.directed is'.directed (gadag_facts g root is'.gadag kept within from) in_order
    is'.in_order in
    let says = subst (λ (d : DirectedLists). Says g d is.words) directed is.says in
    one_cert g root is'.directed is.words is'.words file other kept (ordered_words g root file kept within is) says is'.says is.tells is'.tells
