use Rattle.std.proofs.Common.{◌≡◌, ◌∙◌, ℕ, List, Ok, Err, sym, subst}
use Rattle.mrt_exit.specs.AnswerSteps.{IsAnswer}
use Rattle.mrt_answer.specs.Forms.{of_task}
use Rattle.mrt_answer.specs.Reading.{input_of}
use Rattle.mrt_answer.proofs.TextSteps.{ends_second, handed_on}
use Rattle.mrt_answer.proofs.answer.answer_of_files.Goals as goal

-- what holds of the bytes that are lent holds of those of the two files
of_both : (Holds : List ℕ → List ℕ → Type 0) (database profile lent other : List ℕ) → lent ≡ database → other ≡ profile → Holds lent other → Holds database profile
of_both Holds database profile lent other same same' holds =
    subst (λ (b : List ℕ). Holds b profile) same (subst (λ (b : List ℕ). Holds lent b) same' holds)

pub returns-in_err-given : goal.returns-in_err-given
returns-in_err-given c = λ task bytes are.
    let exit = c.in_err-given.field-0.0 in
    handed_on (input_of bytes.first bytes.profile) (λ input. of_task task input bytes.last) c.from_residual.result exit c.from_residual.ensures.1
    (of_both (λ database profile. IsAnswer (input_of database profile) (Err exit)) _ _ _ _ (c.deref.ensures.value ∙ sym are.database)
    (c.deref-2.ensures.value ∙ sym are.profile) c.in_err-given.ensures)

pub returns : goal.returns
returns c = λ task bytes are.
    ends_second (input_of bytes.first bytes.profile) (λ input. of_task task input bytes.last) c.in_ok-given.given
    (of_both (λ database profile. input_of database profile (Ok c.in_ok-given.given)) _ _ _ _ (c.deref.ensures.value ∙ sym are.database)
    (c.deref-2.ensures.value ∙ sym are.profile) c.in_ok-given.ensures) c.answer_for.result (c.answer_for.ensures task bytes.last are.work)
