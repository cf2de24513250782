-- The files that the words name, and what comes of reading them.
use Rattle.std.specs.Prelude.{
  ◌≡◌,
  ◌⊎◌,
  ◌≤◌,
  ◌+◌,
  [],
  ◌∷◌,
  ◌++◌,
  ℕ,
  List,
  Option,
  Some,
  None,
  length,
  nat_lt,
  if◌then◌else◌,
}
use Rattle.std.specs.List.{AllByRecursion}
use Rattle.std.specs.Option.{IsSomeAnd, option_map, option_map_or, option_to_list}
use Rattle.mrt_io.specs.Holding.{Files, IsFileOf, IsKnownThere}
use Rattle.mrt_exit.specs.declared.exit.Exit.{Exit}
use Rattle.mrt_exit.specs.declared.exit.Exit.TheVariants.{TooLarge, ReadFault}
use Rattle.mrt_exit.specs.declared.exit.What.{What}
use Rattle.mrt_exit.specs.declared.exit.What.TheVariants.{DatabaseFile, UpdatesFile, ProfileFile, CertificateFile, ScriptFile}
use Rattle.mrt_args.specs.declared.form.FileForm.{FileForm}
use Rattle.mrt_args.specs.declared.form.FloodForm.{FloodForm}
use Rattle.mrt_args.specs.declared.form.Form.{Form}
use Rattle.mrt_args.specs.declared.form.Form.TheVariants.{OfFiles, Survey, Flood}
use Rattle.mrt_args.specs.declared.task.Task.TheVariants.{Check, Fabric, Upgrade, OfRouter}
use Rattle.mrt_args.specs.Form.{Task}

-- a file that the words name: the place of its name among them, its name, what it is, and how many bytes it may have
pub record NamedFile : Type 0 where
  pub place : ℕ
  pub name : List ℕ
  pub what : What
  pub limit : ℕ

-- the most bytes that a file of a database may have, one of packets, of a profile, of a certificate, of a script
abbrev pub database_limit : ℕ
database_limit = 8388608

abbrev pub updates_limit : ℕ
updates_limit = 33554432

abbrev pub profile_limit : ℕ
profile_limit = 33554432

abbrev pub certificate_limit : ℕ
certificate_limit = 134217728

abbrev pub script_limit : ℕ
script_limit = 33554432

-- the files of a database, of packets, of a profile, of a certificate and of a script
abbrev pub database_file : List ℕ → NamedFile
database_file name = record { place = 1; name = name; what = DatabaseFile; limit = database_limit }

abbrev pub updates_file : List ℕ → NamedFile
updates_file name = record { place = 1; name = name; what = UpdatesFile; limit = updates_limit }

abbrev pub profile_file : List ℕ → NamedFile
profile_file name = record { place = 2; name = name; what = ProfileFile; limit = profile_limit }

abbrev pub certificate_file : List ℕ → NamedFile
certificate_file name = record { place = 3; name = name; what = CertificateFile; limit = certificate_limit }

abbrev pub script_file : List ℕ → NamedFile
script_file name = record { place = 3; name = name; what = ScriptFile; limit = script_limit }

-- the file that a task names, if it names one
abbrev pub task_file : Task → Option NamedFile
task_file (Check certificate) = Some (certificate_file certificate)
task_file (Upgrade certificate) = Some (certificate_file certificate)
task_file (Fabric script) = Some (script_file script)
task_file (OfRouter task) = None

-- the names in a form: a first file, a profile, if it names one, and a last file, if it names one
pub record Names : Type 0 where
  pub first : NamedFile
  pub profile : Option (List ℕ)
  pub last : Option NamedFile

-- the files, in the order in which they are read
abbrev pub files_in : Names → List NamedFile
files_in names =
    names.first ∷ option_to_list (option_map profile_file names.profile) ++ option_to_list names.last

-- those of a form over files, and of one over packets
abbrev pub task_names : FileForm → Names
task_names form =
    record { first = database_file form.database; profile = form.profile; last = task_file form.task }

abbrev pub flood_names : FloodForm → Names
flood_names form =
    record { first = updates_file form.updates; profile = form.profile; last = Some (script_file form.script) }

-- the files that a form names; a survey names none
abbrev pub files_of : Form → List NamedFile
files_of (OfFiles form) = files_in (task_names form)
files_of (Survey number nodes) = []
files_of (Flood form) = files_in (flood_names form)

-- the file has these bytes, at most as many as it may have; where it is not told what is held, no claim on the name
abbrev pub IsReadAs : Option Files → NamedFile → List ℕ → Type 0
IsReadAs held file bytes = IsFileOf held file.name bytes × (length bytes ≤ file.limit)

-- what comes of reading these files in turn, if not all of them are read: the first that is not held, or is over its limit; the size
-- that is told is the least that is too large
abbrev pub refusal_of : Files → List NamedFile → Option Exit
refusal_of files [] = None
refusal_of files (file ∷ rest) =
    option_map_or
    (λ bytes. if nat_lt file.limit (length bytes) then Some (TooLarge file.what (file.limit + 1)) else refusal_of files rest)
    (files file.name) (Some (ReadFault file.place))

-- an exit that says of one of these files that it was not read, or is over its limit
abbrev pub SaysOneOf : List NamedFile → Exit → Type 0
SaysOneOf [] exit = ⊥
SaysOneOf (file ∷ rest) exit =
    (exit ≡ ReadFault file.place) ⊎ (exit ≡ TooLarge file.what (file.limit + 1)) ⊎ SaysOneOf rest exit

-- reading these files is refused with this exit; where it is not told what is held, that it is such an exit is all that is claimed
abbrev pub IsRefusedBy : Option Files → List NamedFile → Exit → Type 0
IsRefusedBy None named exit = SaysOneOf named exit
IsRefusedBy (Some files) named exit = refusal_of files named ≡ Some exit

-- this is the place of one of these files, and those before it could be read
abbrev pub MayFail : Option Files → List NamedFile → ℕ → Type 0
MayFail held [] word = ⊥
MayFail held (file ∷ rest) word =
    (word ≡ file.place) ⊎ (((bytes : List ℕ) × IsReadAs held file bytes) × MayFail held rest word)

-- it is told that each of these files is held
abbrev pub AreThere : Option Files → List NamedFile → Type 0
AreThere held named = AllByRecursion (λ file. IsKnownThere held file.name) named

-- it is told that the file at this place is the first that is not held, and none before it is over its limit
abbrev pub IsFirstMissing : Option Files → List NamedFile → ℕ → Type 0
IsFirstMissing held named word = IsSomeAnd held (λ files. refusal_of files named ≡ Some (ReadFault word))
