use Rattle.std.proofs.Common.{arith}
use Rattle.gadag_ears.proofs.EndsPassed.{parent_touches}
use Rattle.gadag_ears.proofs.turn.is_parent.Goals as goal

pub node-requires : goal.node-requires
node-requires c = omega (arith, c.requires.within, c.requires.search.searched.search.one_each)

pub other_node-requires : goal.other_node-requires
other_node-requires c = parent_touches c.args.g.now c.args.tree.now c.args.v c.in-Some.link c.node.result c.requires.search c.node.ensures c.in-Some.is
