use Rattle.std.proofs.Common.{◌+◌, arith}
use Rattle.area_graph.proofs.Slices.{arcs_of_node, at_most_all, climbs, fewer_below}
use Rattle.area_graph.proofs.area.row.Goals as goal

pub slice_bounds-result-count : goal.slice_bounds-result-count
slice_bounds-result-count c =
    rw (c.get-place.ensures.value) (omega (arith, c.requires.within, c.requires.starts.lower c.args.s (omega (arith, c.requires.within)), c.requires.starts.lower (c.args.s + 1) (omega (arith, c.requires.within)), fewer_below c.args.s c.args.arcs.now, at_most_all c.args.s c.args.arcs.now, at_most_all (c.args.s + 1) c.args.arcs.now))

pub slice_bounds-result-start : goal.slice_bounds-result-start
slice_bounds-result-start c = slice_bounds-result-count c

pub returns : goal.returns
returns c =
    rw (c.get-place.ensures.value, c.requires.starts.lower c.args.s (omega (arith, c.requires.within)), c.requires.starts.lower (c.args.s + 1) (omega (arith, c.requires.within)))
    (arcs_of_node c.args.s c.args.arcs.now (climbs c.args.arcs.now c.requires.ascend))
