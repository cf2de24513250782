-- Over a shelf that tells which bytes it holds, something comes of any words, and so an exit.
use Rattle.std.proofs.Common.{◌≡◌, ◌⊎◌, ◌∙◌, ◌++◌, ◌+◌, ◌<◌, ◌^◌, ℕ, List, [], ◌∷◌, Option, Some, None, Result, Ok, Err, length, refl, sym, subst, inl, inr}
use Rattle.std.specs.Prelude.{IsNone}
use Rattle.std.specs.List.{AllByRecursion}
use Rattle.std.specs.Option.{option_map, option_to_list}
use Rattle.std.proofs.lemmas.Bool.{cases_lt, le-ltb, lt-ltb}
use Rattle.mrt_io.specs.Holding.{Files}
use Rattle.mrt_exit.specs.declared.exit.Exit.{Exit}
use Rattle.mrt_exit.specs.declared.exit.Exit.TheVariants.{ReadFault, TooLarge, Usage}
use Rattle.mrt_args.specs.FileBytes.{AreRead, FileBytes, IsLastRead, IsProfileRead}
use Rattle.mrt_args.specs.Files.{IsReadAs, NamedFile, Names, flood_names, profile_file, refusal_of, task_names}
use Rattle.mrt_args.specs.Form.{IsNetworkSize, IsTaskWithin, Task, form_of}
use Rattle.mrt_args.specs.Spellings.{AreTaskWords, AreWordsOf}
use Rattle.mrt_args.specs.declared.form.FileForm.{FileForm}
use Rattle.mrt_args.specs.declared.form.Form.{Form}
use Rattle.mrt_args.specs.declared.form.Form.TheVariants.{Flood, OfFiles, Survey}
use Rattle.mrt_args.specs.declared.task.RouterTask.TheVariants.{Certify, Lfa, Order, Proxy, Table, Trace}
use Rattle.mrt_args.specs.declared.task.Task.TheVariants.{Check, Fabric, OfRouter, Upgrade}
use Rattle.mrt_answer.specs.Forms.{flooded, over}
use Rattle.mrt_answer.specs.Surveyed.{IsSurveyed}
use Rattle.mrt_answer.proofs.AnswersCome.{HasAnswer, both}
use Rattle.mrt_cmd.specs.Comes.{Comes, exit_of, of_form, of_words, read_as_form, reading}
use Rattle.mrt_cmd.proofs.WordsOfForm.{none_spelled, words_are}

-- a list of bytes
abbrev AreBytes : List ℕ → Type 0
AreBytes bytes = AllByRecursion (λ byte. byte < 2 ^ 8) bytes

-- the laws of the layer below on answers
pub record ComingLaws : Type 0 where
  pub task : (task : Task) (bytes : FileBytes) → AllByRecursion (λ byte. byte < 2 ^ 8) bytes.first → AllByRecursion (λ byte. byte < 2 ^ 8) bytes.last
      → IsTaskWithin task → (answer : Result (List ℕ) Exit) × over task bytes answer
  pub flood : (bytes : FileBytes) → AllByRecursion (λ byte. byte < 2 ^ 8) bytes.first → (answer : Result (List ℕ) Exit) × flooded bytes answer
  pub survey : (number nodes : ℕ) → IsNetworkSize nodes → (text : List ℕ) × IsSurveyed number nodes text

-- a task that words spell is as it has to be
task_within : (task : Task) (words : List (List ℕ)) → AreTaskWords task words → IsTaskWithin task
task_within (Check certificate) words are = tt
task_within (Upgrade certificate) words are = tt
task_within (Fabric script) words are = tt
task_within (OfRouter (Certify router)) words are = tt
task_within (OfRouter (Table router)) words are = tt
task_within (OfRouter (Trace trace)) words are = tt
task_within (OfRouter (Lfa router)) words are = tt
task_within (OfRouter (Order router)) words are = tt
task_within (OfRouter (Proxy router first second)) words are = are.different

form_within : (form : FileForm) (words : List (List ℕ)) → AreWordsOf (OfFiles form) words → IsTaskWithin form.task
form_within form words (inl under) = task_within form.task (under.command ∷ under.more) under.task_is
form_within form words (inr lfa) = subst IsTaskWithin (sym lfa.task_is) tt

-- ---- the files

module _ (files : Files) where
  -- a file is read, or reading is refused
  abbrev ReadOrNot : NamedFile → List NamedFile → Type 0
  ReadOrNot file rest =
      ((bytes : List ℕ) × IsReadAs (Some files) file bytes × (refusal_of files (file ∷ rest) ≡ refusal_of files rest))
      ⊎ ((exit : Exit) × (refusal_of files (file ∷ rest) ≡ Some exit))

  read_or_not : (file : NamedFile) (rest : List NamedFile) → ReadOrNot file rest
  read_or_not file rest = go (files file.name) refl
    where
      go : (held : Option (List ℕ)) → files file.name ≡ held → ReadOrNot file rest
      go None is = inr (ReadFault file.place, rw is refl)
      go (Some bytes) is = elim (cases_lt file.limit (length bytes)) [
        | inl long ↦ inr (TooLarge file.what (file.limit + 1), rw (is, lt-ltb file.limit (length bytes) long) refl)
        | inr fits ↦ inl (bytes, (is, fits), rw (is, le-ltb file.limit (length bytes) fits) refl)
      ]

  profile_or_not : (profile : Option (List ℕ)) (rest : List NamedFile)
      → ((bytes : List ℕ) × IsProfileRead (Some files) profile bytes
      × (refusal_of files (option_to_list (option_map profile_file profile) ++ rest) ≡ refusal_of files rest))
      ⊎ ((exit : Exit) × (refusal_of files (option_to_list (option_map profile_file profile) ++ rest) ≡ Some exit))
  profile_or_not None rest = inl ([], refl, refl)
  profile_or_not (Some name) rest = read_or_not (profile_file name) rest

  last_or_not : (last : Option NamedFile) → ((bytes : List ℕ) × IsLastRead (Some files) last bytes)
      ⊎ ((exit : Exit) × (refusal_of files (option_to_list last) ≡ Some exit))
  last_or_not None = inl ([], refl)
  last_or_not (Some file) = elim (read_or_not file []) [ inl read ↦ inl (read.0, read.1) | inr refused ↦ inr refused ]

  reading_comes : (names : Names) → HasAnswer (reading (Some files) names)
  reading_comes names =
      elim (read_or_not names.first (option_to_list (option_map profile_file names.profile) ++ option_to_list names.last)) [
        | inr refused ↦ (Err refused.0, refused.1)
        | inl first ↦ elim (profile_or_not names.profile (option_to_list names.last)) [
          | inr refused ↦ (Err refused.0, first.2 ∙ refused.1)
          | inl profile ↦ elim (last_or_not names.last) [
            | inr refused ↦ (Err refused.0, first.2 ∙ profile.2 ∙ refused.1)
            | inl last ↦ (
              Ok (record { first = first.0; profile = profile.0; last = last.0 }),
              record { first_read = first.1; profile_read = profile.1; last_read = last.1 },
            )
          ]
        ]
      ]

module _ (laws : ComingLaws) (files : Files) (are : (name bytes : List ℕ) → files name ≡ Some bytes → AllByRecursion (λ byte. byte < 2 ^ 8) bytes) where
  first_bytes : (names : Names) (bytes : FileBytes) → AreRead (Some files) names bytes → AreBytes bytes.first
  first_bytes names bytes read = are names.first.name bytes.first read.first_read.0

  last_bytes : (last : Option NamedFile) (bytes : List ℕ) → IsLastRead (Some files) last bytes → AreBytes bytes
  last_bytes None bytes read = subst AreBytes (sym read) tt
  last_bytes (Some file) bytes read = are file.name bytes read.0

  form_comes : (form : Form) (words : List (List ℕ)) → AreWordsOf form words → HasAnswer (of_form (Some files) form)
  form_comes (OfFiles form) words are_words =
      let read = reading_comes files (task_names form) in
      both (reading (Some files) (task_names form)) (over form.task) read.0 read.1 (λ bytes is.
      laws.task form.task bytes (first_bytes (task_names form) bytes is) (last_bytes (task_names form).last bytes.last is.last_read)
      (form_within form words are_words))
  form_comes (Survey number nodes) words are_words = let text = laws.survey number nodes are_words.within in (Ok text.0, text.1)
  form_comes (Flood form) words are_words =
      let read = reading_comes files (flood_names form) in
      both (reading (Some files) (flood_names form)) flooded read.0 read.1 (λ bytes is.
      laws.flood bytes (first_bytes (flood_names form) bytes is))

  pub words_come : (words : List (List ℕ)) → HasAnswer (of_words (Some files) words)
  words_come words = go (form_of words) refl
    where
      go : (form : Option Form) → form_of words ≡ form → HasAnswer (of_words (Some files) words)
      go None is =
          both (read_as_form words) (of_form (Some files)) (Err Usage)
          (none_spelled words (subst (λ (o : Option Form). IsNone o) (sym is) refl)) (λ form of. form_comes form words of)
      go (Some form) is =
          both (read_as_form words) (of_form (Some files)) (Ok form) (words_are words form is) (λ form of. form_comes form words of)

  pub exit_comes : (words : List (List ℕ)) → (exit : Exit) × Comes (Some files) words exit
  exit_comes words = let came = words_come words in (exit_of came.0, (came.0, came.1, refl))
