use Rattle.lowpoint_dfs.proofs.WholeTree.{numbered, whole_tree}
use Rattle.lowpoint_dfs.proofs.dfs.search.Goals as goal

pub set_lowpoints-requires-clause-numbered : goal.set_lowpoints-requires-clause-numbered
set_lowpoints-requires-clause-numbered c =
    rw c.deref.ensures.value
    (numbered c.args.g.now c.args.root c.in_ok-found.found.nodes.items c.in_ok-found.found.order.items c.find_nodes.ensures.kept c.requires c.in_ok-found.ensures.finished)

pub returns : goal.returns
returns c =
    rw c.new.ensures
    (whole_tree c.args.g.now c.args.root c.in_ok-found.found.nodes.items c.set_lowpoints.new.nodes.items c.in_ok-found.found.order.items c.find_nodes.ensures.kept c.requires
    c.in_ok-found.ensures.finished c.set_lowpoints.ensures.one_each c.set_lowpoints.ensures.alike (rw c.deref.ensures.value at c.set_lowpoints.ensures.lowpoints))
