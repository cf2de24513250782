use Rattle.std.proofs.Common.{arith}
use Rattle.link_direction.proofs.TwoNodes.{place_says}
use Rattle.mrt_rows.specs.steps.ListedDirections.{directions_by}
use Rattle.mrt_rows.proofs.directed.Rooted.place.Goals as goal

pub place-requires : goal.place-requires
place-requires c = omega (arith, c.requires.node, c.requires.rooted.says.one_place_each)

pub returns : goal.returns
returns c =
    let rooted = c.args.self.now in
    let it = place_says rooted.graph.now rooted.directed.now (directions_by rooted) c.args.v c.place.result c.requires.rooted.says c.requires.node
    c.place.ensures in
    record { head = it.0; block = it.1 }
