use Rattle.std.proofs.Common.{Ok, Err, sym, subst}
use Rattle.mrt_answer.specs.TextBytes.{HasText}
use Rattle.mrt_args.specs.declared.form.Form.{Form}
use Rattle.mrt_args.specs.Files.{files_of}
use Rattle.mrt_args.specs.Form.{IsSurvey}
use Rattle.mrt_args.specs.Reading.{ReadsAs}
use Rattle.mrt_cmd.specs.Comes.{of_form}
use Rattle.mrt_cmd.proofs.FormAnswers.{surveys}
use Rattle.mrt_cmd.proofs.program.text_of.Goals as goal

pub returns-in-OfFiles-clause-reads : goal.returns-in-OfFiles-clause-reads
returns-in-OfFiles-clause-reads g c =
    subst (λ (f : Form). ReadsAs g.F.Shelf.held g.F.Shelf.faults g.F.Shelf.healthy c.args.shelf.now c.text_of_files.new.shelf (files_of f)
    (λ told exit. of_form told f (Err exit)) (λ told text. HasText (λ bytes. of_form told f (Ok bytes)) text) c.text_of_files.result)
    (sym c.in-OfFiles.is) c.text_of_files.ensures

pub returns-in-OfFiles-clause-survey : goal.returns-in-OfFiles-clause-survey
returns-in-OfFiles-clause-survey g c = λ survey. absurd (subst IsSurvey c.in-OfFiles.is survey)

pub returns-in-OfFiles-clause-survey_reads_nothing : goal.returns-in-OfFiles-clause-survey_reads_nothing
returns-in-OfFiles-clause-survey_reads_nothing g c = λ survey. absurd (subst IsSurvey c.in-OfFiles.is survey)

pub returns-in-Flood-clause-reads : goal.returns-in-Flood-clause-reads
returns-in-Flood-clause-reads g c =
    subst (λ (f : Form). ReadsAs g.F.Shelf.held g.F.Shelf.faults g.F.Shelf.healthy c.args.shelf.now c.text_of_flood.new.shelf (files_of f)
    (λ told exit. of_form told f (Err exit)) (λ told text. HasText (λ bytes. of_form told f (Ok bytes)) text) c.text_of_flood.result)
    (sym c.in-Flood.is) c.text_of_flood.ensures

pub returns-in-Flood-clause-survey : goal.returns-in-Flood-clause-survey
returns-in-Flood-clause-survey g c = λ survey. absurd (subst IsSurvey c.in-Flood.is survey)

pub returns-in-Flood-clause-survey_reads_nothing : goal.returns-in-Flood-clause-survey_reads_nothing
returns-in-Flood-clause-survey_reads_nothing g c = λ survey. absurd (subst IsSurvey c.in-Flood.is survey)

pub returns-in-Survey-clause-reads : goal.returns-in-Survey-clause-reads
returns-in-Survey-clause-reads g c =
    surveys g.F.Shelf.held g.F.Shelf.faults g.F.Shelf.healthy _ c.args.form.now _ _ c.in-Survey.is c.answer_of_survey.result
    c.answer_of_survey.ensures.surveyed c.answer_of_survey.ensures.none
