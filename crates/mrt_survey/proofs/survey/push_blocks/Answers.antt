use Rattle.std.proofs.Common.{◌∙◌, ◌++◌, ℕ, ap, codes, decimal}
use Rattle.mrt_survey.proofs.LinePuts.{four_put}
use Rattle.mrt_survey.proofs.survey.push_blocks.Goals as goal

pub returns : goal.returns
returns c =
    four_put c.args.text.now.items c.push_number.new.text.items c.push_number-2.new.text.items c.push_number-3.new.text.items c.push.new.text.items
    (codes "blocks " ++ decimal c.args.blocks) (codes " sole " ++ decimal c.args.sole) (codes " separating " ++ decimal c.args.separating) (codes "\n")
    (c.in_ok-push_number.ensures.added ∙ ap (λ (n : ℕ). c.args.text.now.items ++ (codes "blocks " ++ decimal n)) c.from.ensures)
    (c.in_ok-push_number-2.ensures.added ∙ ap (λ (n : ℕ). c.push_number.new.text.items ++ (codes " sole " ++ decimal n)) c.from-2.ensures)
    (c.in_ok-push_number-3.ensures.added ∙ ap (λ (n : ℕ). c.push_number-2.new.text.items ++ (codes " separating " ++ decimal n)) c.from-3.ensures)
    c.in_ok-push.ensures.added
