-- There is one text on a router of a graph with a root.
use Rattle.std.proofs.Common.{◌≡◌, ◌<◌, ℕ, List, length, subst}
use Rattle.mrt_graph.specs.DirectedLists.{DirectedLists}
use Rattle.mrt_graph.specs.GadagLists.{GadagLists}
use Rattle.mrt_graph.specs.GraphInvariant.{IsTopology}
use Rattle.mrt_graph.specs.Topology.{Topology}
use Rattle.mrt_graph.specs.declared.tree.TreeNode.{TreeNode}
use Rattle.lowpoint_dfs.proofs.OneSearch.{one_search}
use Rattle.gadag_ears.specs.Gadag.{IsGadag}
use Rattle.gadag_ears.proofs.FromSearch.{facts_of}
use Rattle.gadag_ears.proofs.OneGadag.{one_gadag}
use Rattle.link_direction.specs.Directed.{IsDirected}
use Rattle.link_direction.specs.FromEars.{IsFromEars}
use Rattle.link_direction.proofs.FromEarsFacts.{gadag_facts}
use Rattle.link_direction.proofs.Laws.{says_ordered}
use Rattle.link_direction.proofs.OneAnswer.{one_answer}
use Rattle.mrt_rows.specs.DirectedFrom.{IsDirectedFrom}
use Rattle.mrt_rows.specs.ListedDirections.{directions_of}
use Rattle.mrt_rows.proofs.Rooting.{og_of, rooted_by}
use Rattle.order_repair.specs.OrderText.{IsOrderText, IsTextFrom}
use Rattle.order_repair.proofs.OneText.{one_text}

-- a graph has one list of directions from a root
one_directed : (g : Topology) (root : ℕ) (d other : DirectedLists) → IsTopology g → root < length g.ids → IsDirectedFrom g root d
    → IsDirectedFrom g root other → d ≡ other
one_directed g root d other kept within is is' =
    let search = one_search g root is.tree is'.tree kept within is.searched is'.searched in
    let facts = facts_of g root is'.tree (record { kept = kept; within = within; search = is'.searched }) in
    let by_ears = subst (λ (tree : List TreeNode). IsGadag g root tree is.gadag) search is.by_ears in
    let gadag = one_gadag g root is'.tree is.gadag is'.gadag facts by_ears is'.by_ears in
    let in_order = subst (λ (gadag : GadagLists). IsDirected g root gadag d) gadag is.in_order in
    let from : IsFromEars g root is'.gadag =
    record { tree = is'.tree; search = is'.searched; is_gadag = is'.by_ears } in
    one_answer g root is'.gadag d other (gadag_facts g root is'.gadag kept within from) in_order is'.in_order

module _ (g : Topology) (root s : ℕ) (kept : IsTopology g) (within : root < length g.ids) (s_within : s < length g.ids) where
  pub one_text_of : (text other : List ℕ) → IsTextFrom g root s text → IsTextFrom g root s other → text ≡ other
  one_text_of text other is is' =
      let from : IsFromEars g root is'.from_root.gadag =
      record { tree = is'.from_root.tree; search = is'.from_root.searched; is_gadag = is'.from_root.by_ears } in
      let rooted = rooted_by g root is'.directed kept (says_ordered g root is'.from_root.gadag is'.directed kept within from is'.from_root.in_order) in
      one_text (og_of rooted) s s_within text other
      (subst (λ (d : DirectedLists). IsOrderText g root (directions_of g d) s text) (one_directed g root is.directed is'.directed kept within is.from_root is'.from_root) is.is) is'.is
