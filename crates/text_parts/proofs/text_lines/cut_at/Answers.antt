use Rattle.std.proofs.Common.{sym, ◌∙◌}
use Rattle.text_parts.proofs.Pieces.{cut_is, uncut_is}
use Rattle.text_parts.proofs.text_lines.cut_at.Goals as goal

pub returns-in_err-place : goal.returns-in_err-place
returns-in_err-place c = rw c.from_residual.ensures (uncut_is c.args.text.now c.args.byte (sym c.place_of.ensures ∙ c.in_err-place.was))

pub returns : goal.returns
returns c = rw c.split_at.ensures.back (cut_is c.args.text.now c.args.byte c.in_ok-place.place (sym c.place_of.ensures ∙ c.in_ok-place.was))
