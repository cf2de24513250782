use Rattle.std.proofs.Common.{◌++◌, ◌∙◌, ℕ, List, ap}
use Rattle.text_parts.proofs.Adding.{joined}
use Rattle.mrt_report.proofs.line.put_letters.Goals as goal

pub returns-clause-added : goal.returns-clause-added
returns-clause-added c =
    joined _ _ _ _ _ (c.put.ensures.added ∙ ap (λ (word : List ℕ). c.args.line.now ++ word) c.letter.ensures.value)
    (c.put-2.ensures.added ∙ ap (λ (word : List ℕ). c.put.new.line ++ word) c.letter-2.ensures.value)
