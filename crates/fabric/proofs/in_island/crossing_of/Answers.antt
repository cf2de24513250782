use Rattle.fabric.specs.steps.Viewed.{viewed}
use Rattle.fabric.proofs.Routed.{routed_spot}
use Rattle.fabric.proofs.in_island.crossing_of.Goals as goal

pub returns-clause-node : goal.returns-clause-node
returns-clause-node g c =
    routed_spot (viewed g.R.RowsOf.rows c.args.parts.now) c.requires.kept c.args.parts.now.routes.now c.requires.routed c.args.hop.now.to c.spot.result c.requires.to c.spot.ensures
