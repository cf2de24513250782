-- Over a shelf that tells what it holds, at most one thing comes of the words, and so one exit.
use Rattle.std.proofs.Common.{◌≡◌, ◌∙◌, ℕ, List, Some, Ok, Err, refl, sym, ap}
use Rattle.mrt_io.specs.Holding.{Files}
use Rattle.mrt_exit.specs.AnswerSteps.{IsOne}
use Rattle.mrt_exit.specs.declared.exit.Exit.{Exit}
use Rattle.mrt_exit.specs.declared.exit.Exit.TheVariants as exits
use Rattle.mrt_exit.proofs.Stepping.{one_such, one_then_one, one_value_or_exit}
use Rattle.mrt_args.specs.FileBytes.{FileBytes}
use Rattle.mrt_args.specs.Files.{flood_names, task_names}
use Rattle.mrt_args.specs.declared.form.Form.{Form}
use Rattle.mrt_args.specs.declared.form.Form.TheVariants.{OfFiles, Survey, Flood}
use Rattle.mrt_args.specs.Form.{Task}
use Rattle.mrt_answer.specs.Forms.{flooded, over}
use Rattle.mrt_answer.specs.Surveyed.{IsSurveyed}
use Rattle.mrt_cmd.specs.Comes.{Comes, exit_of, of_form, of_words, read_as_form, reading}
use Rattle.mrt_cmd.proofs.FromFiles.{one_reading}
use Rattle.mrt_cmd.proofs.WordsOfForm.{spelled_once}

-- the laws of the layer below on answers
pub record AnswerLaws : Type 0 where
  pub task : (task : Task) (bytes : FileBytes) → IsOne (over task bytes)
  pub flood : (bytes : FileBytes) → IsOne (flooded bytes)
  pub survey : (number nodes : ℕ) (text other : List ℕ) → IsSurveyed number nodes text
      → IsSurveyed number nodes other → text ≡ other

one_form : (words : List (List ℕ)) → IsOne (read_as_form words)
one_form words = one_value_or_exit (read_as_form words) (spelled_once words) ends no
  where
    ends : (e d : Exit) → read_as_form words (Err e) → read_as_form words (Err d) → e ≡ d
    ends exits.Usage exits.Usage one two = refl
    ends exits.Usage d one two = absurd two
    ends e d one two = absurd one

    no : (form : Form) (e : Exit) → read_as_form words (Ok form) → read_as_form words (Err e) → ⊥
    no form exits.Usage is none = none form is
    no form e is none = none

module _ (laws : AnswerLaws) (files : Files) where
  one_of_form : (form : Form) → IsOne (of_form (Some files) form)
  one_of_form (OfFiles form) =
      one_then_one (reading (Some files) (task_names form)) (over form.task) (one_reading files (task_names form))
      (λ bytes read. laws.task form.task bytes)
  one_of_form (Survey number nodes) = one_such (IsSurveyed number nodes) (laws.survey number nodes)
  one_of_form (Flood form) =
      one_then_one (reading (Some files) (flood_names form)) flooded (one_reading files (flood_names form))
      (λ bytes read. laws.flood bytes)

  pub one_of_words : (words : List (List ℕ)) → IsOne (of_words (Some files) words)
  one_of_words words = one_then_one (read_as_form words) (of_form (Some files)) (one_form words) (λ form is. one_of_form form)

  pub one_exit : (words : List (List ℕ)) (exit other : Exit) → Comes (Some files) words exit → Comes (Some files) words other → exit ≡ other
  one_exit words exit other (answer, comes, tells) (second, comes', tells') =
      tells ∙ ap exit_of (one_of_words words answer second comes comes') ∙ sym tells'
