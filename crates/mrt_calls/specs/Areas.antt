-- What the bytes of an area hold.
use Rattle.std.specs.Prelude.{◌≡◌, ◌≢◌, ◌<◌, ◌≤◌, ◌+◌, ℕ, List, Ok, Err, length}
use Rattle.mrt_answer.specs.Input.{Input}
use Rattle.mrt_answer.specs.Reading.{input_of}
use Rattle.mrt_exit.specs.AnswerSteps.{Step, ◌▸◌}
use Rattle.mrt_exit.specs.declared.exit.Exit.TheVariants.{TooLarge, Usage}
use Rattle.mrt_exit.specs.declared.exit.What.{What}
use Rattle.mrt_exit.specs.declared.exit.What.TheVariants.{DatabaseFile, ProfileFile}
use Rattle.mrt_args.specs.Files.{database_limit, profile_limit}
use Rattle.mrt_calls.specs.declared.area.MrtArea.{MrtArea}

-- so many bytes are within a limit; else that is said, with the least size that is too large
abbrev pub within : What → ℕ → List ℕ → Step (Unit {0})
within what limit bytes (Ok done) = length bytes ≤ limit
within what limit bytes (Err (TooLarge kind size)) = (limit < length bytes) × (kind ≡ what) × (size ≡ limit + 1)
within what limit bytes (Err _) = ⊥

-- what is reserved in an area is 0; else it asks for what is not there
abbrev pub unreserved : MrtArea → Step (Unit {0})
unreserved area (Ok done) = area.reserved ≡ 0
unreserved area (Err Usage) = area.reserved ≢ 0
unreserved area (Err _) = ⊥

-- both files of an area are within their limits
abbrev pub files_within : MrtArea → Step (Unit {0})
files_within area =
    within DatabaseFile database_limit area.lsas.data.now ▸ λ done. within ProfileFile profile_limit area.profile.data.now

-- so, after what is reserved
abbrev pub area_within : MrtArea → Step (Unit {0})
area_within area = unreserved area ▸ λ done. files_within area

-- the newest LSAs and the settings of the profile
abbrev pub input_in : MrtArea → Step Input
input_in area = area_within area ▸ λ done. input_of area.lsas.data.now area.profile.data.now
