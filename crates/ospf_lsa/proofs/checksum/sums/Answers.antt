use Rattle.std.proofs.Common.{◌∙◌}
use Rattle.ospf_lsa.proofs.SumParts.{part_added}
use Rattle.ospf_lsa.proofs.checksum.sums.Goals as goal

pub loop-rest-preserved : goal.loop-rest-preserved
loop-rest-preserved c = record {
  left = part_added c.min.result c.loop-rest.sums.0 c.loop-rest.sums.1 c.split_at.result.0.now
      c.split_at.result.1.now c.loop-rest.rest.now c.added-sums.result c.split_at.ensures.front
      c.split_at.ensures.back c.added-sums.ensures.value
      ∙ c.loop-rest.invariant.left;
  first = c.added-sums.ensures.first_small;
  second = c.added-sums.ensures.second_small;
}
