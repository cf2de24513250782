-- The lines of a profile, taken in one after another: how `Profile` takes them. No clause of `read_profile` cites it.
use Rattle.std.specs.Prelude.{◌++◌, ◌∷◌, [], List, Result, Ok, Err, if◌then◌else◌}
use Rattle.std.specs.List.{list_any}
use Rattle.text_parts.specs.TextRule.{TextRule}
use Rattle.mrt_island.specs.declared.profile_error.ProfileKind.{ProfileKind}
use Rattle.mrt_island.specs.declared.profile_error.ProfileKind.TheVariants.{Repeated}
use Rattle.mrt_island.specs.declared.setting.Setting.{Setting}
use Rattle.mrt_island.specs.ProfileLines.{line_setting}
use Rattle.mrt_island.specs.Settings.{same_subject}

-- the settings after those of earlier lines and what one more says, or the line's first fault
abbrev pub with_setting : List Setting → Result Setting ProfileKind → Result (List Setting) ProfileKind
with_setting earlier (Err kind) = Err kind
with_setting earlier (Ok setting) =
    if list_any (same_subject setting) earlier then Err Repeated else Ok (earlier ++ setting ∷ [])

-- how a profile is read: each line that is not passed over says a setting more, and it may end after each
abbrev pub profile_rule : TextRule (List Setting) (List Setting) ProfileKind
profile_rule = record {
  start = [];
  after = λ earlier line. with_setting earlier (line_setting line);
  ends = λ settings. Ok settings;
}
