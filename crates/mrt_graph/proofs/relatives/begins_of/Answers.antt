use Rattle.std.proofs.Common.{◌≡◌, ◌+◌, length, arith, rules}
use Rattle.mrt_graph.specs.Kin.{kin_of}
use Rattle.mrt_graph.specs.steps.Kin.{kin_before}
use Rattle.mrt_graph.proofs.KinOf.{blocks_count, few_pairs, pushed_all, sum_more}
use Rattle.mrt_graph.proofs.relatives.begins_of.Goals as goal
use Rattle.mrt_graph.proofs.relatives.begins_of.Goals.{After-count_others}

one_more : (c : After-count_others) → c.loop-s.sum + c.count_others.result ≡ kin_before (kin_of c.args.nodes.now) (c.loop-s.s + 1)
one_more c =
    sum_more c.args.nodes.now c.args.members.now c.args.children.now c.loop-s.s c.loop-s.sum c.count_others.result c.requires.blocks c.requires.heads c.loop-s.invariant.sum
    (rw (← c.new.ensures) c.count_others.ensures)

pub overflow_cast-sum : goal.overflow_cast-sum
overflow_cast-sum c =
    omega (arith, one_more c, few_pairs c.args.nodes.now (c.loop-s.s + 1) c.requires.few (omega (arith, c.loop-s-test.true)))

pub overflow_add-sum : goal.overflow_add-sum
overflow_add-sum c =
    omega (arith, one_more c, few_pairs c.args.nodes.now (c.loop-s.s + 1) c.requires.few (omega (arith, c.loop-s-test.true)))

pub loop-s-preserved : goal.loop-s-preserved
loop-s-preserved c = record {
  room = search rules;
  many = search rules;
  sum = one_more c;
  begins = rw c.push_reserved.ensures.items
      (pushed_all (kin_before (kin_of c.args.nodes.now)) c.loop-s.begins.items c.loop-s.s c.loop-s.sum c.loop-s.invariant.many c.loop-s.invariant.sum c.loop-s.invariant.begins);
}

pub returns : goal.returns
returns c =
    let n = blocks_count c.args.nodes.now in
    let all : c.loop-s.s ≡ length c.args.nodes.now = omega (arith, c.loop-s-test.false, c.loop-s.auto.s-end) in
    record {
      some = omega (arith, c.push_reserved-2.ensures.len, c.loop-s.invariant.many, all, n);
      each = λ k within. rw c.push_reserved-2.ensures.items
          (pushed_all (kin_before (kin_of c.args.nodes.now)) c.loop-s.begins.items c.loop-s.s c.loop-s.sum c.loop-s.invariant.many c.loop-s.invariant.sum c.loop-s.invariant.begins k (omega (arith, within, all, n)));
    }
