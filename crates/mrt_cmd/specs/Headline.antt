-- A certificate that was written is given to a check, or to an upgrade; and routers that have to tell the same are compared.
use Rattle.std.specs.Prelude.{◌≡◌, ◌⊎◌, ◌<◌, ℕ, List, [], ◌∷◌, Option, Some, codes, length}
use Rattle.std.specs.Option.{option_map_or}
use Rattle.mrt_io.specs.Holding.{Files}
use Rattle.mrt_exit.specs.declared.exit.Exit.{Exit}
use Rattle.mrt_exit.specs.declared.exit.Exit.TheVariants.{Done, NoMemory, ReadFault, WriteFault}
use Rattle.flood_verdict.specs.Alike.{ComparesAlike}
use Rattle.mrt_args.specs.FileBytes.{AreRead, FileBytes}
use Rattle.mrt_cmd.specs.Comes.{GivesText}
use Rattle.mrt_args.specs.Files.{flood_names}
use Rattle.mrt_answer.specs.Reading.{HoldsFlood}
use Rattle.mrt_args.specs.declared.form.FloodForm.{FloodForm}
use Rattle.mrt_args.specs.declared.form.Form.TheVariants.{Flood}
use Rattle.mrt_args.specs.Form.{profile_name}
use Rattle.mrt_args.specs.Spellings.{AreWordsOf}

-- what a word for a profile stands for: no bytes where it names none, else those that are held
abbrev pub profile_held : Files → List ℕ → Option (List ℕ)
profile_held files word = option_map_or files (profile_name word) (Some [])

-- what some files held: the words that certified over them, and the text that came of it
pub record Written : Type 0 where
  pub files : Files
  pub database : List ℕ
  pub profile : List ℕ
  pub router : List ℕ
  pub text : List ℕ
  pub gave : GivesText (Some files) (codes "certify" ∷ database ∷ profile ∷ router ∷ []) text

-- these words check or upgrade, over these files, a text that `certify` gave, for any router, over the same database and the same
-- profile
pub record ChecksWritten (files : Files) (words : List (List ℕ)) : Type 0 where
  pub database : List ℕ
  pub profile : List ℕ
  pub certificate : List ℕ
  pub command : List ℕ
  pub asks : (command ≡ codes "check") ⊎ (command ≡ codes "upgrade")
  pub words_are : words ≡ command ∷ database ∷ profile ∷ certificate ∷ []
  pub named : (0 < length database) × ((0 < length profile) × (0 < length certificate))
  pub written : Written
  pub same_database : files database ≡ written.files written.database
  pub same_profile : profile_held files profile ≡ profile_held written.files written.profile
  pub held : files certificate ≡ Some written.text

-- the exit says nothing against the certificate: yes, or a fault of a device, or want of memory
abbrev pub IsPassed : Exit → Type 0
IsPassed Done = Unit {0}
IsPassed (ReadFault word) = Unit {0}
IsPassed (WriteFault taken) = Unit {0}
IsPassed NoMemory = Unit {0}
IsPassed _ = ⊥

-- these words flood, over these files, packets that reach routers, and the script compares two of them to which the deliveries
-- before brought the same LSAs, or after which flooding is done
pub record FloodsAlike (files : Files) (words : List (List ℕ)) : Type 0 where
  pub form : FloodForm
  pub words_are : AreWordsOf (Flood form) words
  pub bytes : FileBytes
  pub read : AreRead (Some files) (flood_names form) bytes
  pub held : HoldsFlood bytes
  pub compares : ComparesAlike held.updates held.script
