use Rattle.std.proofs.Common.{sym, ◌∙◌, ◌∷◌, ap, List, ℕ}
use Rattle.text_parts.specs.TextLines.{text_lines}
use Rattle.text_parts.proofs.Pieces.{first_line_is}
use Rattle.text_parts.proofs.text_lines.first_line.Goals as goal

pub returns-in-Some : goal.returns-in-Some
returns-in-Some c =
    first_line_is c.args.text.now c.in-Some.line.now c.in-Some.rest.now c.in-Some.ensures.1
    ∙ ap (λ (line : List ℕ). line ∷ text_lines c.in-Some.rest.now) (sym c.without_return.ensures)
