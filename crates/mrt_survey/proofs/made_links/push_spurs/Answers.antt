use Rattle.std.proofs.Common.{◌∙◌, ◌*◌, arith}
use Rattle.mrt_survey.specs.MadeLinks.{drawn_from, spur_link}
use Rattle.mrt_survey.proofs.DrawnLinks.{draws_on, one_more, spur_later}
use Rattle.mrt_survey.proofs.made_links.push_spurs.Goals as goal

pub loop-j-preserved : goal.loop-j-preserved
loop-j-preserved c = record {
  added =
      one_more (spur_link c.args.number c.args.ring (drawn_from c.args.draws.now.x 0)) c.loop-j.j _ _ _ _ c.loop-j.invariant.added c.push_reserved.ensures.items
      (c.link_between-link.ensures.link ∙ spur_later c.args.number c.args.ring c.loop-j.j c.args.draws.now.x _ c.from.result c.from-in-loop-j.result c.from-in-loop-j-2.result c.loop-j.invariant.drawn c.from.ensures c.from-in-loop-j.ensures c.from-in-loop-j-2.ensures);
  drawn = draws_on 2 (2 * c.loop-j.j) _ _ _ _ c.link_between-link.ensures.drawn c.loop-j.invariant.drawn (omega arith);
  few = c.link_between-link.ensures.small;
  longer = omega (arith, c.push_reserved.ensures.len, c.loop-j.invariant.longer);
  same_room = omega (arith, c.push_reserved.ensures.capacity, c.loop-j.invariant.same_room);
}
