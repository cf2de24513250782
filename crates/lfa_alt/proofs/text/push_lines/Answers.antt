use Rattle.std.proofs.Common.{◌≡◌, ◌<◌, length, refl, sym, arith}
use Rattle.std.proofs.lemmas.Option.{slice_get_read}
use Rattle.text_parts.specs.Parts.{AreParts}
use Rattle.lfa_alt.specs.LfaText.{IsPartOn}
use Rattle.text_parts.proofs.Adding.{nothing, one_part_more}
use Rattle.lfa_alt.proofs.text.push_lines.Goals as goal

pub loop-t-preserved : goal.loop-t-preserved
loop-t-preserved c = record {
  count = c.loop-t.invariant.count;
  lines =
      one_part_more (IsPartOn c.args.area.now c.args.source) c.loop-t.t c.args.text.now.items c.loop-t.text.items c.push_part.new.text.items c.loop-t.invariant.lines
      (rw c.new.ensures at c.in_ok-push_part.ensures);
}

pub loop-t-init : goal.loop-t-init
loop-t-init c = record {
  count = c.count-count.ensures.count;
  lines = nothing (AreParts (IsPartOn c.args.area.now c.args.source) 0) c.args.text.now.items refl;
}

pub push_part-requires : goal.push_part-requires
push_part-requires c =
    let area = c.args.area.now in
    let t = c.loop-t.t in
    let within : t < length area.ids = omega (arith, c.loop-t-test.true, c.loop-t.invariant.count) in
    let primary = slice_get_read c.args.primaries.now (length area.ids) t c.index-primaries-place.result (sym c.requires.primaries.one_each) within c.index-primaries-place.is in
    let lfa = slice_get_read c.args.entries.now (length area.ids) t c.index-entries-place.result (sym c.requires.entries.one_each) within c.index-entries-place.is in
    record {
      kept = c.count-count.ensures.kept;
      within = omega (arith, within, c.new.ensures);
      primary = rw c.new.ensures (c.requires.primaries.each t c.index-primaries-place.result primary);
      lfa = rw c.new.ensures (c.requires.entries.each t c.index-entries-place.result lfa);
    }

pub returns : goal.returns
returns c =
    let all : c.loop-t.t ≡ length c.args.area.now.ids = omega (arith, c.loop-t-test.false, c.loop-t.auto.t-end, c.loop-t.invariant.count) in
    rw all at c.loop-t.invariant.lines
