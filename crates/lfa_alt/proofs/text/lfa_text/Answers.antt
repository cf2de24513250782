use Rattle.std.proofs.Common.{◌++◌, ◌∙◌, ℕ, List, ap}
use Rattle.lfa_alt.proofs.text.lfa_text.Goals as goal

pub returns : goal.returns
returns c =
    let head = c.in_ok-push_head.ensures in
    let lines = c.in_ok-push_lines.ensures in
    record {
      head = head.part;
      head_is = head.is;
      lines = lines.part;
      lines_are = lines.is;
      spelled = lines.added ∙ ap (λ (xs : List ℕ). xs ++ lines.part) (head.added ∙ ap (λ (xs : List ℕ). xs ++ head.part) c.new-text.ensures.items);
    }
