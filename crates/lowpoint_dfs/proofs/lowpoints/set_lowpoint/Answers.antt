use Rattle.std.proofs.Common.{◌≡◌, ◌∙◌, ℕ, List, length, get_or, refl, ap, subst}
use Rattle.std.proofs.lemmas.Option.{slice_get_read}
use Rattle.mrt_graph.specs.declared.tree.TreeNode.{TreeNode}
use Rattle.lowpoint_dfs.specs.steps.Lowering.{IsLowest}
use Rattle.lowpoint_dfs.proofs.LowSet.{is_given}
use Rattle.lowpoint_dfs.proofs.lowpoints.set_lowpoint.Goals as goal

pub returns : goal.returns
returns c =
    let tree = c.args.nodes.now.items in
    let node = c.index-node.result.now in
    let read : node ≡ get_or tree c.args.v node = c.index-node.ensures ∙ ap (λ (i : ℕ). get_or tree i node) c.get.ensures.value in
    let least : IsLowest tree c.args.v c.args.ends.now (length c.args.ends.now) c.least_low-lowest.result =
    subst (λ (nodes : List TreeNode). IsLowest nodes c.args.v c.args.ends.now (length c.args.ends.now) c.least_low-lowest.result) c.deref.ensures.value c.least_low-lowest.ensures in
    is_given tree c.args.v c.args.ends.now node c.least_low-lowest.result c.requires.node
    (slice_get_read tree (length tree) c.args.v node refl c.requires.node read) c.get-2.result c.get-2.ensures.value least
