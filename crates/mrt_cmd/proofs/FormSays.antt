-- Which exits come of a form: no only of one that asks for a verdict, and never done, the usage, a fault of the output or want of memory.
use Rattle.std.proofs.Common.{◌≡◌, ◌+◌, ℕ, Bool, true, false, List, [], ◌∷◌, Option, Some, None, length, sym, subst, inl, inr}
use Rattle.std.specs.Prelude.{nat_lt, if◌then◌else◌}
use Rattle.std.specs.Option.{option_map_or}
use Rattle.std.proofs.lemmas.Option.{same_Some}
use Rattle.mrt_io.specs.Holding.{Files}
use Rattle.mrt_exit.specs.steps.AnswerSteps.{EndsAs}
use Rattle.mrt_exit.specs.declared.exit.Exit.{Exit}
use Rattle.mrt_exit.specs.declared.exit.Exit.TheVariants as exits
use Rattle.mrt_args.specs.Files.{NamedFile, Names, SaysOneOf, files_in, flood_names, refusal_of, task_names}
use Rattle.mrt_args.specs.declared.form.Form.{Form}
use Rattle.mrt_args.specs.declared.form.Form.TheVariants.{OfFiles, Survey, Flood}
use Rattle.mrt_args.specs.Form.{AsksVerdict}
use Rattle.mrt_answer.proofs.TaskSays.{MaySay, flooded_says, over_says}
use Rattle.mrt_cmd.specs.Comes.{AreOfForm, IsRefused, of_form, reading}

-- a file that is not read is missing or too large
one_of_first : (file : NamedFile) (rest : List NamedFile) (exit : Exit) (after : Option Exit)
    (content : Option (List ℕ)) → (after ≡ Some exit → SaysOneOf rest exit)
    → option_map_or (λ bytes. if nat_lt file.limit (length bytes) then Some (exits.TooLarge file.what (file.limit + 1)) else after)
    content (Some (exits.ReadFault file.place)) ≡ Some exit
    → SaysOneOf (file ∷ rest) exit
one_of_first file rest exit after None onward said = inl (sym (same_Some (exits.ReadFault file.place) exit said))
one_of_first file rest exit after (Some bytes) onward said = go (nat_lt file.limit (length bytes)) said
  where
    go : (b : Bool) → (if b then Some (exits.TooLarge file.what (file.limit + 1)) else after) ≡ Some exit
        → SaysOneOf (file ∷ rest) exit
    go true said = inr (inl (sym (same_Some (exits.TooLarge file.what (file.limit + 1)) exit said)))
    go false said = inr (inr (onward said))

pub unread_says_one : (files : Files) (named : List NamedFile) (exit : Exit) → refusal_of files named ≡ Some exit
    → SaysOneOf named exit
unread_says_one files [] exit said = cc
unread_says_one files (file ∷ rest) exit said =
    one_of_first file rest exit (refusal_of files rest) (files file.name) (λ onward. unread_says_one files rest exit onward) said

module _ (Verdict : Type 0) where
  by_one : (named : List NamedFile) (exit : Exit) → SaysOneOf named exit → MaySay (Unit {0}) Verdict exit
  by_one [] exit said = absurd said
  by_one (file ∷ rest) exit (inl said) = subst (MaySay (Unit {0}) Verdict) (sym said) tt
  by_one (file ∷ rest) exit (inr (inl said)) = subst (MaySay (Unit {0}) Verdict) (sym said) tt
  by_one (file ∷ rest) exit (inr (inr said)) = by_one rest exit said

  by_reading : (held : Option Files) (names : Names) → EndsAs (MaySay (Unit {0}) Verdict) (reading held names)
  by_reading None names exit said = by_one (files_in names) exit said
  by_reading (Some files) names exit said = by_one (files_in names) exit (unread_says_one files (files_in names) exit said)

pub form_says : (held : Option Files) (form : Form) → EndsAs (MaySay (Unit {0}) (AsksVerdict form)) (of_form held form)
form_says held (OfFiles form) exit (inl said) = by_reading _ held (task_names form) exit said
form_says held (OfFiles form) exit (inr (bytes, read, said)) = over_says (Unit {0}) form.task bytes exit said
form_says held (Survey number nodes) exit said = absurd said
form_says held (Flood form) exit (inl said) = by_reading ⊥ held (flood_names form) exit said
form_says held (Flood form) exit (inr (bytes, read, said)) = flooded_says (Unit {0}) ⊥ bytes exit said

-- only a verdict says no
pub only_verdict : (held : Option Files) (words : List (List ℕ)) (rule a b : ℕ) → IsRefused held words (exits.No rule a b)
    → AreOfForm AsksVerdict words
only_verdict held words rule a b (inl usage) = absurd usage
only_verdict held words rule a b (inr (form, are, refused)) = (form, are, form_says held form (exits.No rule a b) refused)
