use Rattle.std.proofs.Common.{◌≡◌, length}
use Rattle.text_parts.specs.steps.Adds.{Adds}
use Rattle.text_parts.specs.Parts.{AreParts}
use Rattle.lfa_alt.specs.LfaText.{IsPartOn}
use Rattle.lfa_alt.proofs.text.push_lines.Given as goal

abbrev pub invariant-loop-t : goal.invariant-loop-t
invariant-loop-t l = record {
  count : l.count ≡ length l.area.ids;
  lines : Adds (AreParts (IsPartOn l.area l.fn.source) l.t) l.fn.text.items l.text.items;
}
