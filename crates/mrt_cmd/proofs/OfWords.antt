-- What is said of the form of the words, said of the words.
use Rattle.std.proofs.Common.{◌≡◌, ◌⊎◌, ℕ, List, Option, Some, Result, Ok, Err, refl, sym, subst, inl, inr}
use Rattle.std.specs.Prelude.{IfErr, IfOk}
use Rattle.mrt_io.specs.Holding.{Files}
use Rattle.mrt_exit.specs.Due.{IsDue}
use Rattle.mrt_exit.specs.declared.exit.Exit.{Exit}
use Rattle.mrt_exit.specs.declared.exit.Exit.TheVariants as exits
use Rattle.mrt_args.specs.Files.{AreThere, files_of}
use Rattle.mrt_args.specs.declared.form.Form.{Form}
use Rattle.mrt_args.specs.Form.{IsSurvey, form_of}
use Rattle.mrt_args.proofs.Readings.{if_err}
use Rattle.mrt_answer.specs.declared.text.Text.{Text}
use Rattle.mrt_answer.specs.TextBytes.{HasText}
use Rattle.mrt_answer.proofs.TextsHeld.{answer_has_also}
use Rattle.mrt_cmd.specs.Comes.{AreOfForm, Comes, GivesText, NamesHeld, of_form}
use Rattle.mrt_cmd.proofs.WordsOfForm.{spelled_once, words_are}

module _ (held : Option Files) (words : List (List ℕ)) (form : Form) (is : Some form ≡ form_of words) where
  pub text_of_words : (answer : Result Text Exit) → IfOk answer (HasText (λ text. of_form held form (Ok text)))
      → IfOk answer (HasText (GivesText held words))
  text_of_words answer given =
      answer_has_also (λ text. of_form held form (Ok text)) (GivesText held words) (λ text of. (form, words_are words form (sym is), of)) answer given

  pub comes_of_words : {T : Type 0} (answer : Result T Exit) → IfErr answer (IsDue (λ exit. of_form held form (Err exit)))
      → IfErr answer (λ exit. Comes held words exit ⊎ (exit ≡ exits.NoMemory))
  comes_of_words answer said = if_err answer (IsDue (λ exit. of_form held form (Err exit))) _ go said
    where
      go : (exit : Exit) → IsDue (λ due. of_form held form (Err due)) exit → Comes held words exit ⊎ (exit ≡ exits.NoMemory)
      go exit (inl refused) = inl (Err exit, inr (form, words_are words form (sym is), refused), refl)
      go exit (inr memory) = inr memory

  pub there_of_words : NamesHeld held words → AreThere held (files_of form)
  there_of_words there = there form (words_are words form (sym is))

  pub survey_of_words : AreOfForm IsSurvey words → IsSurvey form
  survey_of_words (other, are, survey) = subst IsSurvey (spelled_once words other form are (words_are words form (sym is))) survey
