use Rattle.std.proofs.Common.{sym, subst}
use Rattle.mrt_graph.specs.Groups.{AreKeys}
use Rattle.mrt_graph.proofs.KinOf.{blocks_are_keys, heads_are_keys}
use Rattle.mrt_graph.proofs.relatives.Relatives.new.Goals as goal

pub new-requires : goal.new-requires
new-requires c = subst AreKeys (sym c.in_ok-blocks_of.ensures) (blocks_are_keys c.args.nodes.now c.requires.few c.requires.kept)

pub new-requires-2 : goal.new-requires-2
new-requires-2 c = subst AreKeys (sym c.in_ok-heads_of.ensures) (heads_are_keys c.args.nodes.now c.requires.few c.requires.kept)
