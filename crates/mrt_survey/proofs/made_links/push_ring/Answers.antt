use Rattle.std.proofs.Common.{◌∙◌, ◌*◌, arith}
use Rattle.mrt_survey.specs.MadeLinks.{drawn_from, ring_link}
use Rattle.mrt_survey.proofs.DrawnLinks.{draws_on, link_later, one_more}
use Rattle.mrt_survey.proofs.made_links.push_ring.Goals as goal

pub loop-i-preserved : goal.loop-i-preserved
loop-i-preserved c = record {
  added =
      one_more (ring_link c.args.ring (drawn_from c.args.draws.now.x 0)) c.loop-i.i _ _ _ _ c.loop-i.invariant.added c.push_reserved.ensures.items
      (c.link_between-link.ensures.link ∙ link_later _ _ (2 * c.loop-i.i) _ _ c.loop-i.invariant.drawn);
  drawn = draws_on 2 (2 * c.loop-i.i) _ _ _ _ c.link_between-link.ensures.drawn c.loop-i.invariant.drawn (omega arith);
  few = c.link_between-link.ensures.small;
  longer = omega (arith, c.push_reserved.ensures.len, c.loop-i.invariant.longer);
  same_room = omega (arith, c.push_reserved.ensures.capacity, c.loop-i.invariant.same_room);
}
