use Rattle.std.proofs.Common.{◌++◌, ◌∙◌, ℕ, List, ap}
use Rattle.text_parts.proofs.Adding.{joined}
use Rattle.mrt_report.proofs.line.put_colors.Goals as goal

pub returns-clause-added : goal.returns-clause-added
returns-clause-added c =
    joined _ _ _ _ _ (joined _ _ _ _ _ (joined _ _ _ _ _ (joined _ _ _ _ _
    (c.put.ensures.added ∙ ap (λ (word : List ℕ). c.args.line.now ++ word) c.tag_word.ensures.value)
    c.put-2.ensures.added) c.put_hop.ensures.added) c.put-3.ensures.added) c.put_hop-2.ensures.added
