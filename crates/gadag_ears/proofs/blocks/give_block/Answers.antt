use Rattle.std.proofs.Common.{◌≡◌, ◌∙◌, ℕ, length, get_or, set, refl, ap, arith}
use Rattle.std.proofs.lemmas.Option.{slice_get_read}
use Rattle.gadag_ears.proofs.CommonBlocks.{common_of}
use Rattle.gadag_ears.proofs.LinkBlocks.{leads_over}
use Rattle.gadag_ears.proofs.blocks.give_block.Goals as goal

pub common_block-block-requires : goal.common_block-block-requires
common_block-block-requires c =
    let link = c.link-link.result in
    record {
      u = omega (arith, c.link-link.ensures.within.ascending, c.link-link.ensures.within.upper, c.requires.one_place_each);
      v = omega (arith, c.link-link.ensures.within.upper, c.requires.one_place_each);
      common = c.requires.common link.a link.b (leads_over c.args.g.now c.args.e link c.link-link.ensures.value);
    }

pub returns : goal.returns
returns c =
    let marks = c.args.marks.now.items in
    let mark = c.index-mark.result.now in
    let read : mark ≡ get_or marks c.args.e mark = c.index-mark.ensures ∙ ap (λ (k : ℕ). get_or marks k mark) c.get.ensures.value in
    record {
      mark = mark;
      before = slice_get_read marks (length marks) c.args.e mark refl (omega (arith, c.requires.link, c.requires.one_mark_each)) read;
      block = c.common_block-block.result;
      common = common_of c.args.g.now c.args.places.now c.args.e c.link-link.result c.common_block-block.result c.link-link.ensures.value c.common_block-block.ensures;
      set = ap (λ (k : ℕ). set marks k (record { way = mark.way; role = mark.role; block = c.common_block-block.result })) c.get-2.ensures.value;
    }
