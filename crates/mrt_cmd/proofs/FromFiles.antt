-- What comes of files that are held is one.
use Rattle.std.proofs.Common.{◌≡◌, ◌∙◌, ◌++◌, ℕ, List, [], ◌∷◌, Option, Some, None, Ok, Err, length, refl, sym}
use Rattle.std.specs.Option.{option_map, option_to_list}
use Rattle.std.proofs.lemmas.Bool.{le-ltb}
use Rattle.mrt_io.specs.Holding.{Files}
use Rattle.mrt_exit.specs.declared.exit.Exit.{Exit}
use Rattle.mrt_args.specs.FileBytes.{FileBytes}
use Rattle.mrt_args.specs.FileBytes.{AreRead, IsLastRead, IsProfileRead}
use Rattle.mrt_exit.specs.AnswerSteps.{IsOne}
use Rattle.mrt_exit.proofs.Stepping.{one_value_or_exit}
use Rattle.mrt_cmd.specs.Comes.{reading}
use Rattle.mrt_args.specs.Files.{NamedFile, Names, IsReadAs, files_in, profile_file, refusal_of}
use Rattle.mrt_answer.proofs.OneReading.{held_once}

module _ (files : Files) where
  read_once : (file : NamedFile) (bytes others : List ℕ) → IsReadAs (Some files) file bytes
      → IsReadAs (Some files) file others → bytes ≡ others
  read_once file bytes others one two = held_once bytes others (files file.name) one.0 two.0

  profile_once : (profile : Option (List ℕ)) (bytes others : List ℕ) → IsProfileRead (Some files) profile bytes
      → IsProfileRead (Some files) profile others
      → bytes ≡ others
  profile_once None bytes others one two = one ∙ sym two
  profile_once (Some name) bytes others one two = read_once (profile_file name) bytes others one two

  last_once : (last : Option NamedFile) (bytes others : List ℕ) → IsLastRead (Some files) last bytes
      → IsLastRead (Some files) last others → bytes ≡ others
  last_once None bytes others one two = one ∙ sym two
  last_once (Some file) bytes others one two = read_once file bytes others one two

  pub files_once : (names : Names) (bytes others : FileBytes) → AreRead (Some files) names bytes
      → AreRead (Some files) names others → bytes ≡ others
  files_once names bytes others one two =
      let first = read_once names.first bytes.first others.first one.first_read two.first_read in
      let profile = profile_once names.profile bytes.profile others.profile one.profile_read two.profile_read in
      let last = last_once names.last bytes.last others.last one.last_read two.last_read in
      λ i. record { first = first i; profile = profile i; last = last i }

  -- a file that was read lets those after it decide
  read_through : (file : NamedFile) (rest : List NamedFile) (bytes : List ℕ) → IsReadAs (Some files) file bytes
      → refusal_of files (file ∷ rest) ≡ refusal_of files rest
  read_through file rest bytes read = rw (read.0, le-ltb file.limit (length bytes) read.1) refl

  last_through : (last : Option NamedFile) (bytes : List ℕ) → IsLastRead (Some files) last bytes
      → refusal_of files (option_to_list last) ≡ None
  last_through None bytes read = refl
  last_through (Some file) bytes read = read_through file [] bytes read

  rest_through : (profile : Option (List ℕ)) (last : Option NamedFile) (lines bytes : List ℕ)
      → IsProfileRead (Some files) profile lines → IsLastRead (Some files) last bytes
      → refusal_of files (option_to_list (option_map profile_file profile) ++ option_to_list last) ≡ None
  rest_through None last lines bytes read read_too = last_through last bytes read_too
  rest_through (Some name) last lines bytes read read_too =
      read_through (profile_file name) (option_to_list last) lines read ∙ last_through last bytes read_too

  all_read : (names : Names) (bytes : FileBytes) → AreRead (Some files) names bytes
      → refusal_of files (files_in names) ≡ None
  all_read names bytes read =
      read_through names.first (option_to_list (option_map profile_file names.profile) ++ option_to_list names.last)
      bytes.first read.first_read
      ∙ rest_through names.profile names.last bytes.profile bytes.last read.profile_read read.last_read

  -- the bytes of these files, or what comes of reading them, is one
  pub one_reading : (names : Names) → IsOne (reading (Some files) names)
  one_reading names = one_value_or_exit (reading (Some files) names) (files_once names)
      (λ e d one two. held_once e d (refusal_of files (files_in names)) one two) no
    where
      no : (bytes : FileBytes) (e : Exit) → reading (Some files) names (Ok bytes) → reading (Some files) names (Err e) → ⊥
      no bytes e read refused =
          let none = all_read names bytes read in
          absurd cc
