use Rattle.mrt_args.specs.declared.form.FloodForm.{FloodForm}
use Rattle.mrt_args.specs.Files.{flood_names}
use Rattle.mrt_args.specs.Work.{flood_bytes}
use Rattle.mrt_exit.specs.declared.exit.Exit.TheVariants.{ReadFault}
use Rattle.mrt_answer.specs.Forms.{flooded}
use Rattle.mrt_answer.proofs.TaskSays.{flooded_says}
use Rattle.mrt_cmd.proofs.FormAnswers.{answers, unread}
use Rattle.mrt_cmd.proofs.program.text_of_flood.Goals as goal

pub returns : goal.returns
returns g c =
    let form : FloodForm = c.args.form.now in
    answers g.F.Shelf.held g.F.Shelf.faults g.F.Shelf.healthy _ _ (flood_names form) flooded _
    (λ bytes word. flooded_says ⊥ ⊥ bytes (ReadFault word)) (flood_bytes c.in_ok-files.files) c.in_ok-files.ensures.reads.read _
    c.in_ok-files.ensures.reads c.answer_of_flood.result c.answer_of_flood.ensures

pub returns-in_err-files : goal.returns-in_err-files
returns-in_err-files g c =
    let form : FloodForm = c.args.form.now in
    unread g.F.Shelf.held g.F.Shelf.faults g.F.Shelf.healthy _ _ (flood_names form) flooded _ _ c.in_err-files.ensures.reads
    c.from_residual.result c.from_residual.ensures.1
