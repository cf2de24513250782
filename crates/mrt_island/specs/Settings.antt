-- What the settings of a profile say of a router (RFC 7812, section 8).
use Rattle.std.specs.Prelude.{ℕ, Bool, false, not, ◌==◌, ◌&&◌, List, [], ◌∷◌, Option, Some, None, if◌then◌else◌}
use Rattle.std.specs.List.{list_any}
use Rattle.std.specs.Option.{unwrap_or}
use Rattle.mrt_island.specs.declared.setting.Setting.{Setting}
use Rattle.mrt_island.specs.declared.setting.Setting.TheVariants.{Priority, NoMrt, Ineligible}

-- whether two settings have one subject: the same first word and router, and for `ineligible` the same link data
abbrev pub same_subject : Setting → Setting → Bool
same_subject (Priority router priority) (Priority router' priority') = router == router'
same_subject (NoMrt router) (NoMrt router') = router == router'
same_subject (Ineligible router link_data) (Ineligible router' link_data') = (router == router') && (link_data == link_data')
same_subject _ _ = false

-- the priority that a setting gives a router, if it gives one
abbrev pub given_priority : ℕ → Setting → Option ℕ
given_priority router (Priority of priority) = if router == of then Some priority else None
given_priority router (NoMrt of) = None
given_priority router (Ineligible of link_data) = None

-- the GADAG root selection priority of a router, 128 where none is given
abbrev pub priority_of : List Setting → ℕ → ℕ
priority_of [] router = 128
priority_of (setting ∷ settings) router = unwrap_or (given_priority router setting) (priority_of settings router)

-- whether a setting says that a router does not support the profile
abbrev pub is_no_mrt : ℕ → Setting → Bool
is_no_mrt router (NoMrt of) = router == of
is_no_mrt router (Priority of priority) = false
is_no_mrt router (Ineligible of link_data) = false

-- whether a router supports the Default MRT Profile
abbrev pub supports : List Setting → ℕ → Bool
supports settings router = not (list_any (is_no_mrt router) settings)

-- whether a setting keeps out a router's links with this link data
abbrev pub is_ineligible : ℕ → ℕ → Setting → Bool
is_ineligible router link_data (Ineligible of link_data') = (router == of) && (link_data == link_data')
is_ineligible router link_data (Priority of priority) = false
is_ineligible router link_data (NoMrt of) = false

-- whether a router's links with this link data may be part of an island
abbrev pub is_eligible : List Setting → ℕ → ℕ → Bool
is_eligible settings router link_data = not (list_any (is_ineligible router link_data) settings)
