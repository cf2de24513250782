-- The bytes of the files that a form names.
use Rattle.std.specs.Prelude.{◌≡◌, [], ℕ, List, Option, Some, None}
use Rattle.mrt_io.specs.Holding.{Files}
use Rattle.mrt_args.specs.Files.{NamedFile, Names, IsReadAs, profile_file}

-- the bytes of the files that a form names: of the first one, as the database, of the profile, and of the last one, if it names
-- one
pub record FileBytes : Type 0 where
  pub first : List ℕ
  pub profile : List ℕ
  pub last : List ℕ

-- the same, but for those of the last file
abbrev pub with_last : FileBytes → List ℕ → FileBytes
with_last bytes last = record { first = bytes.first; profile = bytes.profile; last = last }

-- these are the bytes of the profile; without a name they are none
abbrev pub IsProfileRead : Option Files → Option (List ℕ) → List ℕ → Type 0
IsProfileRead held None bytes = bytes ≡ []
IsProfileRead held (Some name) bytes = IsReadAs held (profile_file name) bytes

-- these are the bytes of the last file; where there is none, they are none
abbrev pub IsLastRead : Option Files → Option NamedFile → List ℕ → Type 0
IsLastRead held None bytes = bytes ≡ []
IsLastRead held (Some file) bytes = IsReadAs held file bytes

-- these are the bytes of the files of these names
pub record AreRead (held : Option Files) (names : Names) (bytes : FileBytes) : Type 0 where
  pub first_read : IsReadAs held names.first bytes.first
  pub profile_read : IsProfileRead held names.profile bytes.profile
  pub last_read : IsLastRead held names.last bytes.last
