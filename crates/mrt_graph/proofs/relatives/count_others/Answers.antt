use Rattle.std.proofs.Common.{ℕ, length, ap, arith}
use Rattle.std.proofs.lemmas.Option.{get_or_from_slice_get}
use Rattle.mrt_graph.specs.Groups.{count_below, has_key}
use Rattle.mrt_graph.specs.Kin.{is_upper}
use Rattle.mrt_graph.proofs.KinOf.{itself_there}
use Rattle.mrt_graph.proofs.Pairs.{few_passes}
use Rattle.mrt_graph.proofs.relatives.count_others.Goals as goal

pub overflow_sub-result : goal.overflow_sub-result
overflow_sub-result c =
    let own = ap (λ (k : ℕ). count_below (has_key c.args.members.now k) (length c.args.members.now)) (get_or_from_slice_get c.args.members.now c.args.s c.key.result 0 c.key.ensures.value) in
    omega (arith, own, ap length c.of.ensures, itself_there c.args.members.now c.args.s c.requires.node)

pub returns : goal.returns
returns c =
    let own = ap (λ (k : ℕ). count_below (has_key c.args.members.now k) (length c.args.members.now)) (get_or_from_slice_get c.args.members.now c.args.s c.key.result 0 c.key.ensures.value) in
    let child = ap (λ (k : ℕ). count_below (has_key c.args.children.now k) (length c.args.children.now)) c.get.ensures.value in
    let same = ap (λ (k : ℕ). count_below (has_key c.args.children.now c.args.s) k) c.requires.both in
    let up = ap (λ (k : ℕ). count_below (is_upper c.args.children.now c.args.s) k) c.requires.both in
    omega (arith, own, child, same, up, ap length c.of.ensures, ap length c.of-2.ensures, c.count_upper.ensures, itself_there c.args.members.now c.args.s c.requires.node)

pub overflow_add-result : goal.overflow_add-result
overflow_add-result c =
    omega (
      arith,
      c.count_upper.ensures,
      few_passes (is_upper c.args.children.now c.args.s) (length c.args.children.now),
      ap length c.of.ensures,
      few_passes (has_key c.args.members.now c.key.result) (length c.args.members.now),
      c.key.ensures.few,
      c.requires.both,
    )

pub overflow_add-result-2 : goal.overflow_add-result-2
overflow_add-result-2 c =
    omega (
      arith,
      c.count_upper.ensures,
      few_passes (is_upper c.args.children.now c.args.s) (length c.args.children.now),
      ap length c.of.ensures,
      ap length c.of-2.ensures,
      few_passes (has_key c.args.members.now c.key.result) (length c.args.members.now),
      few_passes (has_key c.args.children.now c.get.result) (length c.args.children.now),
      c.key.ensures.few,
      c.requires.both,
    )
