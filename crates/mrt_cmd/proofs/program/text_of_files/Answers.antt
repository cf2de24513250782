use Rattle.mrt_args.specs.declared.form.FileForm.{FileForm}
use Rattle.mrt_args.specs.Files.{task_names}
use Rattle.mrt_args.proofs.Works.{work_within}
use Rattle.mrt_exit.specs.declared.exit.Exit.TheVariants.{ReadFault}
use Rattle.mrt_answer.specs.Forms.{over}
use Rattle.mrt_answer.proofs.TaskSays.{over_says}
use Rattle.mrt_cmd.proofs.FormAnswers.{answers, unread}
use Rattle.mrt_cmd.proofs.program.text_of_files.Goals as goal

pub answer_of_files-requires-clause-work : goal.answer_of_files-requires-clause-work
answer_of_files-requires-clause-work g c =
    let read = c.in_ok-files.ensures.read in
    work_within _ _ _ _ c.requires read.1.last_read read.2.work

pub returns : goal.returns
returns g c =
    let form : FileForm = c.args.form.now in
    let read = c.in_ok-files.ensures.read in
    answers g.F.Shelf.held g.F.Shelf.faults g.F.Shelf.healthy _ _ (task_names form) (over form.task) _
    (λ bytes word. over_says ⊥ form.task bytes (ReadFault word)) read.0 read.1 _ c.in_ok-files.ensures
    c.answer_of_files.result (c.answer_of_files.ensures _ read.0 read.2)

pub returns-in_err-files : goal.returns-in_err-files
returns-in_err-files g c =
    let form : FileForm = c.args.form.now in
    unread g.F.Shelf.held g.F.Shelf.faults g.F.Shelf.healthy _ _ (task_names form) (over form.task) _ _ c.in_err-files.ensures
    c.from_residual.result c.from_residual.ensures.1
