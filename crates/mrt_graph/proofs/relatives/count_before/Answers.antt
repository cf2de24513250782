use Rattle.std.proofs.Common.{ℕ, ap, arith}
use Rattle.std.proofs.lemmas.Option.{get_or_from_slice_get}
use Rattle.mrt_graph.specs.Groups.{count_below, has_key}
use Rattle.mrt_graph.specs.Kin.{is_upper}
use Rattle.mrt_graph.proofs.Pairs.{few_passes}
use Rattle.mrt_graph.proofs.relatives.count_before.Goals as goal

pub overflow_add-result : goal.overflow_add-result
overflow_add-result c =
    omega (arith, c.before-2.ensures, c.upper_before.ensures, few_passes (has_key c.args.members.now c.key.result) c.args.t, few_passes (is_upper c.args.children.now c.args.s) c.args.t)

pub overflow_add-result-2 : goal.overflow_add-result-2
overflow_add-result-2 c =
    omega (
      arith,
      c.before-2.ensures,
      c.upper_before.ensures,
      c.before-3.ensures,
      few_passes (has_key c.args.members.now c.key.result) c.args.t,
      few_passes (is_upper c.args.children.now c.args.s) c.args.t,
      few_passes (has_key c.args.children.now c.get.result) c.args.t,
    )

pub returns : goal.returns
returns c =
    let own = ap (λ (k : ℕ). count_below (has_key c.args.members.now k) c.args.t) (get_or_from_slice_get c.args.members.now c.args.s c.key.result 0 c.key.ensures.value) in
    let child = ap (λ (k : ℕ). count_below (has_key c.args.children.now k) c.args.t) c.get.ensures.value in
    omega (arith, own, child, c.before-2.ensures, c.upper_before.ensures, c.before-3.ensures)
