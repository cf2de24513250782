use Rattle.std.proofs.Common.{sym, ◌∙◌}
use Rattle.text_parts.proofs.Pieces.{first_word_is, no_word_is}
use Rattle.text_parts.proofs.text_lines.first_word.Goals as goal

pub returns-in_err-first_other : goal.returns-in_err-first_other
returns-in_err-first_other c = rw c.from_residual.ensures (no_word_is c.args.line.now (sym c.first_other.ensures ∙ c.in_err-first_other.was))

pub returns : goal.returns
returns c = rw (c.split_at-2.ensures.front, c.split_at-2.ensures.back, c.split_at.ensures.back)
    (first_word_is c.args.line.now _ _ (sym c.first_other.ensures ∙ c.in_ok-first_other.was)
    (rw (← c.split_at.ensures.back, ← c.first_blank.ensures) c.unwrap_or.ensures))
