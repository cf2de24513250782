use Rattle.std.proofs.Common.{inl, refl}
use Rattle.mrt_answer.proofs.verdict.judge.Goals as goal

pub returns-in-No : goal.returns-in-No
returns-in-No c = inl ((c.in-No.ensures.no _ _ _).0 refl)
