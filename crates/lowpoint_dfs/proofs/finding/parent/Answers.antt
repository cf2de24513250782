use Rattle.std.proofs.Common.{◌≡◌, ◌<◌, ◌∙◌, ℕ, List, Option, Some, get_or, length, sym, ap, subst}
use Rattle.std.specs.Prelude.{IsSome}
use Rattle.std.specs.Option.{option_and_then}
use Rattle.std.proofs.lemmas.Option.{slice_get-get_or}
use Rattle.mrt_graph.specs.declared.tree.TreeNode.{TreeNode}
use Rattle.mrt_graph.specs.Leads.{leads}
use Rattle.mrt_graph.specs.TreeFields.{parent_link}
use Rattle.lowpoint_dfs.proofs.ParentsFirst.{parent_over}
use Rattle.lowpoint_dfs.proofs.finding.parent.Goals as goal

-- the link that was read is the parent link
link_read : (nodes : List TreeNode) (v at link : ℕ) (node : TreeNode) → v < length nodes → at ≡ v → (get_or nodes at node).parent ≡ Some link → parent_link nodes v ≡ Some link
link_read nodes v at link node within same is =
    ap (λ (o : Option TreeNode). option_and_then (λ n. n.parent) o) (slice_get-get_or nodes v node within) ∙ ap (λ (i : ℕ). (get_or nodes i node).parent) (sym same) ∙ is

pub other_node-requires : goal.other_node-requires
other_node-requires c =
    subst (λ (o : Option ℕ). IsSome (option_and_then (λ e. leads c.args.g.now.links e c.args.v) o))
    (link_read c.args.nodes.now c.args.v c.get.result c.unwrap-link.result c.index-nodes-get.result c.requires.node c.get.ensures.value c.unwrap-link.ensures) c.requires.some

pub returns : goal.returns
returns c =
    parent_over c.args.g.now c.args.nodes.now c.args.v c.unwrap-link.result c.other_node.result
    (link_read c.args.nodes.now c.args.v c.get.result c.unwrap-link.result c.index-nodes-get.result c.requires.node c.get.ensures.value c.unwrap-link.ensures) c.other_node.ensures
