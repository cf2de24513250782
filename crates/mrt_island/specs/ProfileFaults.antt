-- The settings of a profile file, and its first line with a fault.
use Rattle.std.specs.Prelude.{◌≡◌, ◌⊎◌, ◌<◌, ◌-◌, ℕ, List, take, slice_get, Option, Some, None, Result, Ok, Err, if◌then◌else◌}
use Rattle.std.specs.List.{filter_map, list_any}
use Rattle.std.specs.Option.{option_and_then}
use Rattle.std.specs.Result.{result_ok}
use Rattle.text_parts.specs.TextLines.{is_passed_over}
use Rattle.mrt_island.specs.declared.profile_error.ProfileError.{ProfileError}
use Rattle.mrt_island.specs.declared.profile_error.ProfileError.TheVariants.{NoMemory}
use Rattle.mrt_island.specs.declared.profile_error.ProfileKind.{ProfileKind}
use Rattle.mrt_island.specs.declared.profile_error.ProfileKind.TheVariants.{Repeated}
use Rattle.mrt_island.specs.declared.setting.Setting.{Setting}
use Rattle.mrt_island.specs.ProfileLines.{line_setting}
use Rattle.mrt_island.specs.Settings.{same_subject}

-- what a line says, if it is not passed over and says something
abbrev pub setting_of : List ℕ → Option Setting
setting_of line = if is_passed_over line then None else result_ok (line_setting line)

-- what lines say, in their order
abbrev pub settings_of : List (List ℕ) → List Setting
settings_of lines = filter_map setting_of lines

-- the first fault of a line that is not passed over, after lines that say so much
abbrev pub fault_in : List Setting → Result Setting ProfileKind → Option ProfileKind
fault_in earlier (Err kind) = Some kind
fault_in earlier (Ok setting) = if list_any (same_subject setting) earlier then Some Repeated else None

-- the first fault of a line after lines that say so much, if it has one
abbrev pub fault_behind : List Setting → List ℕ → Option ProfileKind
fault_behind earlier line = if is_passed_over line then None else fault_in earlier (line_setting line)

-- the first fault of the line at a place, from 0, if there is a line with one
abbrev pub fault_at : List (List ℕ) → ℕ → Option ProfileKind
fault_at lines place = option_and_then (fault_behind (settings_of (take place lines))) (slice_get lines place)

-- no line has a fault, and these are the settings that the lines say, in their order
pub record AreSettings (lines : List (List ℕ)) (settings : List Setting) : Type 0 where
  pub faultless : (place : ℕ) → fault_at lines place ≡ None
  pub said : settings ≡ settings_of lines

-- the line with this number, from 1, is the first one with a fault, and this is the first of its faults
pub record IsFirstProfileFault (lines : List (List ℕ)) (number : ℕ) (kind : ProfileKind) : Type 0 where
  pub counted : 0 < number
  pub fault : fault_at lines (number - 1) ≡ Some kind
  pub first : (place : ℕ) → place < number - 1 → fault_at lines place ≡ None

-- what reading comes to is as expected, or there was no memory
abbrev pub OrNoMemory : Result (List Setting) ProfileError → Result (List Setting) ProfileError → Type 0
OrNoMemory outcome expected = (outcome ≡ expected) ⊎ (outcome ≡ Err NoMemory)
