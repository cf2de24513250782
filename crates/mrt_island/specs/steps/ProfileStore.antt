-- How the code keeps a profile.
use Rattle.std.specs.Prelude.{ℕ, List, map}
use Rattle.mrt_island.specs.declared.setting.Setting.{Setting}
use Rattle.mrt_island.specs.declared.setting.Setting.TheVariants as settings
use Rattle.mrt_island.specs.declared.setting.Subject.{Subject}
use Rattle.mrt_island.specs.declared.setting.Subject.TheVariants.{Priority, NoMrt, Ineligible}

-- the setting of a subject, with the priority that belongs to a subject of that kind
abbrev pub setting_about : Subject → ℕ → Setting
setting_about (Priority router) priority = settings.Priority router priority
setting_about (NoMrt router) priority = settings.NoMrt router
setting_about (Ineligible router link_data) priority = settings.Ineligible router link_data

-- the settings that are kept
abbrev pub settings_kept : List (Subject × ℕ) → List Setting
settings_kept entries = map (λ entry. setting_about entry.0 entry.1) entries

-- the parts of a setting: its subject, and its priority or 0
abbrev pub parts_of : Setting → Subject × ℕ
parts_of (settings.Priority router priority) = (Priority router, priority)
parts_of (settings.NoMrt router) = (NoMrt router, 0)
parts_of (settings.Ineligible router link_data) = (Ineligible router link_data, 0)
