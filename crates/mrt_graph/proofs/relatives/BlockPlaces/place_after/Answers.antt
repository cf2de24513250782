use Rattle.std.proofs.Common.{◌≡◌, ◌<◌, ◌+◌, length, arith}
use Rattle.mrt_graph.specs.Groups.{has_key}
use Rattle.mrt_graph.specs.Kin.{is_upper}
use Rattle.mrt_graph.specs.steps.Kin.{kin_below}
use Rattle.mrt_graph.proofs.BlockPlaced.{before_is, children_rise, lower_is, upper_is}
use Rattle.mrt_graph.proofs.KinOf.{few_below, itself_below, place_tells}
use Rattle.mrt_graph.proofs.Pairs.{few_passes}
use Rattle.mrt_graph.proofs.relatives.BlockPlaces.place_after.Goals.{After-count_lower}
use Rattle.mrt_graph.proofs.relatives.BlockPlaces.place_after.Goals as goal

pub count_lower-requires : goal.count_lower-requires
count_lower-requires c =
    let p = c.args.self.now in
    children_rise p.relatives.now.heads p.node p.children.now c.requires.places.children

pub overflow_add-before : goal.overflow_add-before
overflow_add-before c =
    let p = c.args.self.now in
    let t_in : c.args.t < length p.relatives.now.heads = omega (arith, c.requires.target, c.requires.places.both) in
    let upper = upper_is p.relatives.now.heads p.node c.args.t p.upper c.one_if_less-upper.result c.get.result c.requires.places.upper t_in c.get.ensures.value c.one_if_less-upper.ensures in
    omega (
      arith,
      c.requires.rank,
      few_passes (has_key p.relatives.now.blocks p.block) c.args.t,
      upper,
      few_passes (is_upper p.relatives.now.heads p.node) c.args.t,
      c.requires.target,
      c.requires.places.few,
    )

-- so many are before it
before : (c : After-count_lower) → c.args.rank + c.one_if_less-upper.result + c.count_lower.result ≡ kin_below c.args.self.now.relatives.now c.args.self.now.node c.args.t
before c =
    let p = c.args.self.now in
    let t_in : c.args.t < length p.relatives.now.heads = omega (arith, c.requires.target, c.requires.places.both) in
    before_is p.relatives.now p.node c.args.t p.block c.args.rank c.one_if_less-upper.result c.count_lower.result c.requires.places.block c.requires.rank
    (upper_is p.relatives.now.heads p.node c.args.t p.upper c.one_if_less-upper.result c.get.result c.requires.places.upper t_in c.get.ensures.value c.one_if_less-upper.ensures)
    (lower_is p.relatives.now.heads p.node c.args.t p.children.now c.count_lower.result c.requires.places.children (omega (arith, t_in)) c.count_lower.ensures)

pub overflow_add-before-2 : goal.overflow_add-before-2
overflow_add-before-2 c =
    let p = c.args.self.now in
    let sum = before (goal.at.overflow_add-before-2 c).After-count_lower in
    omega (arith, sum, few_below p.relatives.now p.node c.args.t, c.requires.target, c.requires.places.few)

pub overflow_add-result : goal.overflow_add-result
overflow_add-result c =
    let p = c.args.self.now in
    let sum = before (goal.at.overflow_add-result c).After-count_lower in
    omega (arith, sum, few_below p.relatives.now p.node c.args.t, c.requires.target, c.requires.places.few, c.requires.places.small)

pub overflow_sub-result : goal.overflow_sub-result
overflow_sub-result c =
    let p = c.args.self.now in
    let sum = before (goal.at.overflow_sub-result c).After-count_lower in
    omega (arith, itself_below p.relatives.now p.node c.args.t _ c.requires.target sum, c.one_if_below.ensures)

pub returns : goal.returns
returns c = λ w same.
    let p = c.args.self.now in
    let sum = before (goal.at.returns c).After-count_lower in
    place_tells w p.relatives.now p.begin _ c.one_if_below.result p.node c.args.t same c.requires.places.within c.requires.target c.requires.different
    c.requires.places.begin sum c.one_if_below.ensures
