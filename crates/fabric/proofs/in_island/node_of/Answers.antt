use Rattle.fabric.specs.steps.Viewed.{viewed}
use Rattle.fabric.proofs.Routed.{routed_node}
use Rattle.fabric.proofs.in_island.node_of.Goals as goal

pub returns : goal.returns
returns g c =
    routed_node (viewed g.R.RowsOf.rows c.args.parts.now) c.requires.kept c.args.parts.now.routes.now c.requires.routed c.args.s c.node.result c.requires.within c.node.ensures
