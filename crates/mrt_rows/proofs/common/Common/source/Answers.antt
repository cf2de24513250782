use Rattle.std.proofs.Common.{arith}
use Rattle.mrt_rows.specs.steps.ListedDirections.{directions_by}
use Rattle.mrt_rows.proofs.SoleRows.{sole_at}
use Rattle.mrt_rows.proofs.TileLinks.{have_place}
use Rattle.mrt_rows.proofs.common.Common.source.Goals as goal

pub index-requires : goal.index-requires
index-requires c = omega (arith, c.args.self.now.soles.small, c.get-at.ensures.value, c.requires.node, c.requires.common.soles.one_each)

pub links_of-requires : goal.links_of-requires
links_of-requires c = have_place c.args.rooted.now.graph.now c.args.self.now.homes 1 c.args.s 0 c.requires.common.one_place c.requires.node (omega arith)

pub returns-clause-source : goal.returns-clause-source
returns-clause-source c =
    let rooted = c.args.rooted.now in
    let g = rooted.graph.now in
    let w = directions_by rooted in
    let s = c.args.s in
    let common = c.requires.common in
    record {
      within = c.requires.node;
      place = c.place.ensures;
      sole = sole_at g w c.args.self.now.soles.items c.get-at.result s c.index.result.now common.soles c.get-at.ensures.value c.requires.node
          c.index.ensures;
      home = common.homes.each s c.links_of.result c.requires.node c.links_of.ensures;
    }
