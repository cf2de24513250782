use Rattle.std.proofs.Common.{◌≡◌, ℕ, List, Option, None, Err, inl, inr, refl, subst}
use Rattle.std.specs.Prelude.{IsNone}
use Rattle.mrt_args.specs.declared.form.Form.{Form}
use Rattle.mrt_args.specs.Form.{form_of}
use Rattle.mrt_exit.specs.declared.exit.Exit.TheVariants.{Usage}
use Rattle.mrt_cmd.specs.Causes.{shelf_over}
use Rattle.mrt_cmd.specs.Comes.{AreOfNoForm}
use Rattle.mrt_cmd.proofs.Causes.{refused_over_words}
use Rattle.mrt_cmd.proofs.OfWords.{comes_of_words, survey_of_words, text_of_words, there_of_words}
use Rattle.mrt_cmd.proofs.WordsOfForm.{none_spelled}
use Rattle.mrt_cmd.proofs.program.text_for.Goals as goal

-- A refusal of the form says why the words give no text.
pub returns-in-Some-clause-cause : goal.returns-in-Some-clause-cause
returns-in-Some-clause-cause g c =
    refused_over_words c.args.words.now
    (shelf_over g.F.Shelf.held g.F.Shelf.healthy g.F.Shelf.faults c.args.shelf.now c.text_of.new.shelf) c.in-Some.form c.in-Some.ensures.form
    c.text_of.result c.text_of.ensures.reads.refused

pub returns-in-Some-clause-text : goal.returns-in-Some-clause-text
returns-in-Some-clause-text g c =
    text_of_words _ c.args.words.now c.in-Some.form c.in-Some.ensures.form c.text_of.result c.text_of.ensures.reads.read

pub returns-in-Some-clause-comes : goal.returns-in-Some-clause-comes
returns-in-Some-clause-comes g c = λ spared. elim spared [
  | inl calm ↦ comes_of_words _ c.args.words.now c.in-Some.form c.in-Some.ensures.form c.text_of.result
      (c.text_of.ensures.reads.calm calm)
  | inr healthy ↦ comes_of_words _ c.args.words.now c.in-Some.form c.in-Some.ensures.form c.text_of.result
      (c.text_of.ensures.reads.in_health healthy)
]

pub returns-in-Some-clause-no_fault : goal.returns-in-Some-clause-no_fault
returns-in-Some-clause-no_fault g c = λ healthy there.
    c.text_of.ensures.reads.no_fault healthy
    (there_of_words _ c.args.words.now c.in-Some.form c.in-Some.ensures.form there)

pub returns-in-Some-clause-stays_healthy : goal.returns-in-Some-clause-stays_healthy
returns-in-Some-clause-stays_healthy g c = λ healthy there.
    c.text_of.ensures.reads.stays_healthy healthy
    (there_of_words _ c.args.words.now c.in-Some.form c.in-Some.ensures.form there)

pub returns-in-Some-clause-survey : goal.returns-in-Some-clause-survey
returns-in-Some-clause-survey g c = λ surveys.
    c.text_of.ensures.survey
    (survey_of_words (g.F.Shelf.held c.args.shelf.now) c.args.words.now c.in-Some.form c.in-Some.ensures.form surveys)

pub returns-in-Some-clause-survey_reads_nothing : goal.returns-in-Some-clause-survey_reads_nothing
returns-in-Some-clause-survey_reads_nothing g c = λ surveys.
    c.text_of.ensures.survey_reads_nothing
    (survey_of_words (g.F.Shelf.held c.args.shelf.now) c.args.words.now c.in-Some.form c.in-Some.ensures.form surveys)

pub returns-in-Some-clause-count : goal.returns-in-Some-clause-count
returns-in-Some-clause-count g c = c.text_of.ensures.reads.count

pub returns-in-Some-clause-unchanged : goal.returns-in-Some-clause-unchanged
returns-in-Some-clause-unchanged g c = c.text_of.ensures.reads.unchanged

-- Words of no form come to the usage.
unspelled : (words : List (List ℕ)) → None ≡ form_of words → AreOfNoForm words
unspelled words is = none_spelled words (subst (λ (o : Option Form). IsNone o) is refl)

pub returns-in-None-clause-cause : goal.returns-in-None-clause-cause
returns-in-None-clause-cause g c = (unspelled c.args.words.now c.in-None.ensures.form, refl)

pub returns-in-None-clause-survey : goal.returns-in-None-clause-survey
returns-in-None-clause-survey g c = λ surveys. absurd (unspelled c.args.words.now c.in-None.ensures.form surveys.0 surveys.1)

pub returns-in-None-clause-comes : goal.returns-in-None-clause-comes
returns-in-None-clause-comes g c = λ spared. inl (Err Usage, inl (unspelled c.args.words.now c.in-None.ensures.form), refl)
