use Rattle.std.proofs.Common.{◌++◌, ◌∙◌, [], ℕ, List, ap}
use Rattle.text_parts.proofs.Adding.{joined}
use Rattle.text_parts.specs.Spelling.{node_text}
use Rattle.mrt_report.proofs.line.row_line.Goals as goal

pub returns : goal.returns
returns c =
    joined [] _ _ _ _ (joined [] _ _ _ _ (joined [] _ _ _ _ (joined [] _ _ _ _ (joined [] _ _ _ _
    (c.push_node_text.ensures.value ∙ ap (λ (xs : List ℕ). xs ++ node_text c.args.row.now.id) c.new-line.ensures)
    c.put.ensures.added) c.put_colors.ensures.added) c.put-2.ensures.added)
    c.put_primary.ensures.added) c.put-3.ensures.added
