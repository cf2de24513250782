-- An exit that speaks of the bytes of files comes where each file that the words name is held.
use Rattle.std.proofs.Common.{◌+◌, ◌++◌, ℕ, List, [], ◌∷◌, Option, Some, None, Ok, Err, ap, subst, inl, inr}
use Rattle.std.specs.Prelude.{IsSome, is_some}
use Rattle.std.specs.List.{AllByRecursion}
use Rattle.std.specs.Option.{option_map, option_to_list}
use Rattle.mrt_io.specs.Holding.{Files}
use Rattle.mrt_exit.specs.declared.exit.Exit.{Exit}
use Rattle.mrt_exit.specs.declared.exit.Exit.TheVariants as exits
use Rattle.mrt_exit.specs.declared.exit.What.{What}
use Rattle.mrt_args.specs.FileBytes.{FileBytes}
use Rattle.mrt_cmd.specs.Causes.{IsOfBytes}
use Rattle.mrt_args.specs.FileBytes.{AreRead, IsLastRead, IsProfileRead}
use Rattle.mrt_cmd.specs.Comes.{GivesText, IsRefused, NamesHeld, of_form, read_as_form}
use Rattle.mrt_args.specs.Files.{NamedFile, Names, AreThere, SaysOneOf, files_in, files_of, flood_names, profile_file, task_file, task_names}
use Rattle.mrt_args.specs.declared.form.FileForm.{FileForm}
use Rattle.mrt_args.specs.declared.form.FloodForm.{FloodForm}
use Rattle.mrt_args.specs.declared.form.Form.{Form}
use Rattle.mrt_args.specs.declared.form.Form.TheVariants.{OfFiles, Survey, Flood}
use Rattle.mrt_args.specs.declared.task.Task.TheVariants.{Check, Fabric, Upgrade, OfRouter}
use Rattle.mrt_args.specs.Form.{Task}
use Rattle.mrt_args.specs.Spellings.{AreWordsOf}
use Rattle.mrt_cmd.proofs.FormSays.{unread_says_one}
use Rattle.mrt_cmd.proofs.WordsOfForm.{spelled_once}

-- files that were read are held
read_held : (files : Files) (names : Names) (bytes : FileBytes) → AreRead (Some files) names bytes
    → AreThere (Some files) (files_in names)
read_held files names bytes read =
    (ap is_some read.first_read.0, go names.profile read.profile_read names.last read.last_read)
  where
    go : (profile : Option (List ℕ)) → IsProfileRead (Some files) profile bytes.profile → (last : Option NamedFile)
        → IsLastRead (Some files) last bytes.last
        → AreThere (Some files) (option_to_list (option_map profile_file profile) ++ option_to_list last)
    go None profile None last = tt
    go None profile (Some file) last = (ap is_some last.0, tt)
    go (Some name) profile None last = (ap is_some profile.0, tt)
    go (Some name) profile (Some file) last = (ap is_some profile.0, (ap is_some last.0, tt))

-- so are those of a form that gives a text
text_held : (files : Files) (form : Form) (text : List ℕ) → of_form (Some files) form (Ok text) → AreThere (Some files) (files_of form)
text_held files (OfFiles form) text given = read_held files (task_names form) given.0 given.1
text_held files (Survey number nodes) text given = tt
text_held files (Flood form) text given = read_held files (flood_names form) given.0 given.1

-- that such a thing is too large does not speak of bytes
abbrev IsOfFile : What → Type 0
IsOfFile what = (size : ℕ) → IsOfBytes (exits.TooLarge what size) → ⊥

of_files : (form : FileForm) → AllByRecursion (λ file. IsOfFile file.what) (files_in (task_names form))
of_files form = ((λ size of. of), go form.profile form.task)
  where
    go : (profile : Option (List ℕ)) (task : Task)
        → AllByRecursion (λ file. IsOfFile file.what)
        (option_to_list (option_map profile_file profile) ++ option_to_list (task_file task))
    go None (Check certificate) = ((λ size of. of), tt)
    go None (Upgrade certificate) = ((λ size of. of), tt)
    go None (Fabric script) = ((λ size of. of), tt)
    go None (OfRouter task) = tt
    go (Some name) (Check certificate) = ((λ size of. of), ((λ size of. of), tt))
    go (Some name) (Upgrade certificate) = ((λ size of. of), ((λ size of. of), tt))
    go (Some name) (Fabric script) = ((λ size of. of), ((λ size of. of), tt))
    go (Some name) (OfRouter task) = ((λ size of. of), tt)

of_packets : (form : FloodForm) → AllByRecursion (λ file. IsOfFile file.what) (files_in (flood_names form))
of_packets form = ((λ size of. of), go form.profile)
  where
    go : (profile : Option (List ℕ))
        → AllByRecursion (λ file. IsOfFile file.what)
        (option_to_list (option_map profile_file profile) ++ option_to_list (flood_names form).last)
    go None = ((λ size of. of), tt)
    go (Some name) = ((λ size of. of), ((λ size of. of), tt))

not_of_bytes : (named : List NamedFile) (exit : Exit) → AllByRecursion (λ file. IsOfFile file.what) named
    → IsOfBytes exit → SaysOneOf named exit → ⊥
not_of_bytes [] exit all of said = said
not_of_bytes (file ∷ rest) exit all of (inl said) = subst IsOfBytes said of
not_of_bytes (file ∷ rest) exit all of (inr (inl said)) = all.0 (file.limit + 1) (subst IsOfBytes said of)
not_of_bytes (file ∷ rest) exit all of (inr (inr said)) = not_of_bytes rest exit all.1 of said

refused_form : (files : Files) (form : Form) (exit : Exit) → IsOfBytes exit → of_form (Some files) form (Err exit)
    → AreThere (Some files) (files_of form)
refused_form files (OfFiles form) exit of (inl unread) =
    absurd (not_of_bytes (files_in (task_names form)) exit (of_files form) of
    (unread_says_one files (files_in (task_names form)) exit unread))
refused_form files (OfFiles form) exit of (inr said) = read_held files (task_names form) said.0 said.1
refused_form files (Survey number nodes) exit of refused = absurd refused
refused_form files (Flood form) exit of (inl unread) =
    absurd (not_of_bytes (files_in (flood_names form)) exit (of_packets form) of
    (unread_says_one files (files_in (flood_names form)) exit unread))
refused_form files (Flood form) exit of (inr said) = read_held files (flood_names form) said.0 said.1

-- so those that the words name
names_held : (held : Option Files) (words : List (List ℕ)) (form : Form) → AreWordsOf form words → AreThere held (files_of form)
    → NamesHeld held words
names_held held words form are there = λ other also.
    subst (λ (f : Form). AreThere held (files_of f)) (spelled_once words form other are also) there

-- of words that give a text
pub given_held : (held : Option Files) (words : List (List ℕ)) (text : List ℕ) → GivesText held words text
    → IsSome held → NamesHeld held words
given_held None words text given told = absurd cc
given_held (Some files) words text (form, are, given) told = names_held (Some files) words form are (text_held files form text given)

-- of words that are refused
pub refused_held : (held : Option Files) (words : List (List ℕ)) (exit : Exit) → IsRefused held words exit
    → IsSome held → IsOfBytes exit → NamesHeld held words
refused_held None words exit refused told of = absurd cc
refused_held (Some files) words exit (inl usage) told of = absurd (not_usage exit usage of)
  where
    not_usage : (exit : Exit) → read_as_form words (Err exit) → IsOfBytes exit → ⊥
    not_usage exits.Usage usage of = of
    not_usage exit usage of = usage
refused_held (Some files) words exit (inr (form, are, refused)) told of =
    names_held (Some files) words form are (refused_form files form exit of refused)
