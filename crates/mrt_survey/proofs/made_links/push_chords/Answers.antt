use Rattle.std.proofs.Common.{◌≡◌, ◌∙◌, ◌+◌, ◌*◌, arith}
use Rattle.mrt_survey.specs.MadeLinks.{drawn_from, chord_link}
use Rattle.mrt_survey.proofs.DrawnLinks.{chord_later, draws_on, one_more}
use Rattle.mrt_survey.proofs.made_links.push_chords.Goals as goal

pub loop-i-preserved : goal.loop-i-preserved
loop-i-preserved c =
    let drawn_one : c.draw.new.self.x ≡ _ = draws_on 1 (3 * c.loop-i.i) (3 * c.loop-i.i + 1) c.args.draws.now.x _ _ c.draw.ensures.goes_on c.loop-i.invariant.drawn (omega arith) in
    record {
      added =
          one_more (chord_link c.args.ring (drawn_from c.args.draws.now.x 0)) c.loop-i.i _ _ _ _ c.loop-i.invariant.added c.push_reserved.ensures.items
          (c.link_between-link.ensures.link ∙ chord_later c.args.ring c.loop-i.i c.args.draws.now.x _ _ c.draw.result c.loop-i.invariant.drawn c.draw.ensures.value drawn_one);
      drawn = draws_on 2 (3 * c.loop-i.i + 1) _ _ _ _ c.link_between-link.ensures.drawn drawn_one (omega arith);
      few = c.link_between-link.ensures.small;
      longer = omega (arith, c.push_reserved.ensures.len, c.loop-i.invariant.longer);
      same_room = omega (arith, c.push_reserved.ensures.capacity, c.loop-i.invariant.same_room);
    }
