use Rattle.std.proofs.Common.{◌∙◌, ℕ, refl, subst, arith}
use Rattle.gadag_ears.specs.steps.Blocks.{AreBlocksGiven, IsBlockGiven}
use Rattle.gadag_ears.proofs.LinkBlocks.{block_more}
use Rattle.gadag_ears.proofs.blocks.give_blocks.Goals as goal

pub loop-e-preserved : goal.loop-e-preserved
loop-e-preserved c =
    block_more c.args.g.now c.args.places.now c.loop-e.e c.args.marks.now.items c.loop-e.marks.items c.give_block.new.marks.items c.requires.one_mark_each
    (omega (arith, c.loop-e-test.true, c.loop-e.auto.e-end, c.link_count-e-end.ensures.count)) c.loop-e.invariant
    (subst (λ (e : ℕ). IsBlockGiven c.args.g.now c.args.places.now e c.loop-e.marks.items c.give_block.new.marks.items) c.new.ensures c.give_block.ensures)

pub give_block-requires : goal.give_block-requires
give_block-requires c = record {
  link = omega (arith, c.new.ensures, c.loop-e-test.true, c.loop-e.auto.e-end, c.link_count-e-end.ensures.count);
  one_place_each = c.requires.one_place_each;
  one_mark_each = c.loop-e.invariant.one_each ∙ c.requires.one_mark_each;
  common = c.requires.common c.new.result;
}

pub loop-e-init : goal.loop-e-init
loop-e-init c = record {
  one_each = refl;
  ways = λ e. refl;
  roles = λ e. refl;
  blocks = λ e early. absurd (omega (arith, early));
}

pub returns : goal.returns
returns c =
    subst (λ (count : ℕ). AreBlocksGiven c.args.g.now c.args.places.now count c.args.marks.now.items c.loop-e.marks.items)
    (omega (arith, c.loop-e-test.false, c.loop-e.auto.e-end, c.link_count-e-end.ensures.count)) c.loop-e.invariant
