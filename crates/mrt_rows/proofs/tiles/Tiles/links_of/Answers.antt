use Rattle.std.proofs.Common.{length, refl, arith}
use Rattle.std.proofs.lemmas.Option.{slice_get_read}
use Rattle.mrt_rows.proofs.tiles.Tiles.links_of.Goals as goal

pub links_of-requires : goal.links_of-requires
links_of-requires c = c.requires.up.0

pub links_of-requires-2 : goal.links_of-requires-2
links_of-requires-2 c = c.requires.down.0

pub bounds-links_of-at : goal.bounds-links_of-at
bounds-links_of-at c = omega (arith, c.links_of.ensures.one_each, c.requires.up.1)

pub bounds-links_of-at-2 : goal.bounds-links_of-at-2
bounds-links_of-at-2 c = omega (arith, c.links_of-2.ensures.one_each, c.requires.down.1)

pub returns : goal.returns
returns c =
    let ups = c.links_of.result.now in
    let downs = c.links_of-2.result.now in
    let up = slice_get_read ups (length ups) c.args.at c.index-links_of-at.result refl (omega (arith, c.links_of.ensures.one_each, c.requires.up.1))
    c.index-links_of-at.is in
    let down = slice_get_read downs (length downs) c.args.at c.index-links_of-at-2.result refl (omega (arith, c.links_of-2.ensures.one_each, c.requires.down.1))
    c.index-links_of-at-2.is in
    record {
      place = c.requires;
      up = c.links_of.ensures.there c.args.at c.index-links_of-at.result up;
      down = c.links_of-2.ensures.there c.args.at c.index-links_of-at-2.result down;
    }
