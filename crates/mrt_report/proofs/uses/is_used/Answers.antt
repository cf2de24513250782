use Rattle.std.proofs.Common.{◌∙◌, inl, inr, sym, true≢false}
use Rattle.mrt_report.proofs.uses.is_used.Goals as goal

pub returns-then-before : goal.returns-then-before
returns-then-before c = (λ set. inl c.if-before.true, λ either. c.if-before.true)

pub returns-else-before : goal.returns-else-before
returns-else-before c = (
  λ set. inr (c.is_over_one.ensures.0 set),
  λ either. elim either [
    | inl was ↦ absurd (true≢false (sym was ∙ c.if-before.false))
    | inr over ↦ c.is_over_one.ensures.1 over
  ],
)
