use Rattle.std.proofs.Common.{◌≡◌, ◌∙◌, ℕ, List, sym, subst}
use Rattle.mrt_exit.specs.AnswerSteps.{◌▸◌}
use Rattle.mrt_args.specs.declared.task.Task.TheVariants.{OfRouter}
use Rattle.mrt_args.specs.Form.{Task}
use Rattle.mrt_args.specs.Work.{IsWorkFor, Work}
use Rattle.mrt_answer.specs.Forms.{of_task, scripted}
use Rattle.mrt_answer.specs.Reading.{script_of}
use Rattle.mrt_answer.specs.TextBytes.{IsTextAnswer}
use Rattle.mrt_answer.proofs.answer.answer_for.Goals as goal

pub returns-in-Check : goal.returns-in-Check
returns-in-Check c = λ task last kept.
    let is = subst (λ (work : Work). IsWorkFor task last work) c.in-Check.is kept in
    subst (λ (t : Task). IsTextAnswer (of_task t c.args.given.now last) c.checked.result) (sym is.0.1) (c.checked.ensures last is.1)

pub returns-in-Upgrade : goal.returns-in-Upgrade
returns-in-Upgrade c = λ task last kept.
    let is = subst (λ (work : Work). IsWorkFor task last work) c.in-Upgrade.is kept in
    subst (λ (t : Task). IsTextAnswer (of_task t c.args.given.now last) c.upgraded.result) (sym is.0.1) (c.upgraded.ensures last is.1)

pub returns-in-Fabric : goal.returns-in-Fabric
returns-in-Fabric c = λ task last kept.
    let is = subst (λ (work : Work). IsWorkFor task last work) c.in-Fabric.is kept in
    let bytes : c.deref.result.now ≡ last = c.deref.ensures.value ∙ sym is.1 in
    subst (λ (t : Task). IsTextAnswer (of_task t c.args.given.now last) c.run_of_bytes.result) (sym is.0.1)
    (subst (λ (b : List ℕ). IsTextAnswer (script_of b ▸ scripted c.args.given.now) c.run_of_bytes.result) bytes c.run_of_bytes.ensures)

pub returns-in-OfRouter : goal.returns-in-OfRouter
returns-in-OfRouter c = λ task last kept.
    let is : task ≡ OfRouter c.in-OfRouter.asked = subst (λ (work : Work). IsWorkFor task last work) c.in-OfRouter.is kept in
    subst (λ (t : Task). IsTextAnswer (of_task t c.args.given.now last) c.answer_of_router.result) (sym is) c.answer_of_router.ensures
