-- The settings that a profile keeps.
use Rattle.std.proofs.Common.{◌≡◌, ◌∙◌, ◌∷◌, ◌++◌, [], ℕ, Bool, List, Some, None, if◌then◌else◌, refl, ap, inl, inr}
use Rattle.std.specs.List.{list_any}
use Rattle.std.specs.Map.{lookup}
use Rattle.std.specs.Option.{is_some, unwrap_or}
use Rattle.std.proofs.lemmas.Bool.{cases_Bool}
use Rattle.std.proofs.lemmas.List.{map-append}
use Rattle.mrt_island.specs.contracts.setting.SubjectPartialEq.TheImpl.{eq-value}
use Rattle.mrt_island.specs.declared.setting.Setting.{Setting}
use Rattle.mrt_island.specs.declared.setting.Setting.TheVariants as settings
use Rattle.mrt_island.specs.declared.setting.Subject.{Subject}
use Rattle.mrt_island.specs.declared.setting.Subject.TheVariants as subjects
use Rattle.mrt_island.specs.steps.ProfileStore.{parts_of, setting_about, settings_kept}
use Rattle.mrt_island.specs.Settings.{given_priority, is_ineligible, is_no_mrt, priority_of, same_subject}

-- whether two subjects are one, as the derived `==` tells
abbrev pub same : Subject → Subject → Bool
same = (eq-value).it

-- what is kept under a subject is the setting of that subject
module _ (subject : Subject) (test : Setting → Bool) (tells : (other : Subject) (priority : ℕ) → test (setting_about other priority) ≡ same subject other) where
  pub kept_any : (entries : List (Subject × ℕ)) → is_some (lookup (same subject) entries) ≡ list_any test (settings_kept entries)
  kept_any [] = refl
  kept_any (entry ∷ entries) = elim (cases_Bool (same subject entry.0)) [
    | inl is ↦ rw (tells entry.0 entry.1, is) refl
    | inr other ↦ rw (tells entry.0 entry.1, other) (kept_any entries)
  ]

tells_no_mrt : (router : ℕ) (other : Subject) (priority : ℕ) → is_no_mrt router (setting_about other priority) ≡ same (subjects.NoMrt router) other
tells_no_mrt router (subjects.Priority of) priority = refl
tells_no_mrt router (subjects.NoMrt of) priority = refl
tells_no_mrt router (subjects.Ineligible of link_data) priority = refl

tells_ineligible : (router link_data : ℕ) (other : Subject) (priority : ℕ) → is_ineligible router link_data (setting_about other priority) ≡ same (subjects.Ineligible router link_data) other
tells_ineligible router link_data (subjects.Priority of) priority = refl
tells_ineligible router link_data (subjects.NoMrt of) priority = refl
tells_ineligible router link_data (subjects.Ineligible of data') priority = refl

tells_same : (setting : Setting) (other : Subject) (priority : ℕ) → same_subject setting (setting_about other priority) ≡ same (parts_of setting).0 other
tells_same (settings.Priority router p) (subjects.Priority of) priority = refl
tells_same (settings.Priority router p) (subjects.NoMrt of) priority = refl
tells_same (settings.Priority router p) (subjects.Ineligible of link_data) priority = refl
tells_same (settings.NoMrt router) (subjects.Priority of) priority = refl
tells_same (settings.NoMrt router) (subjects.NoMrt of) priority = refl
tells_same (settings.NoMrt router) (subjects.Ineligible of link_data) priority = refl
tells_same (settings.Ineligible router data') (subjects.Priority of) priority = refl
tells_same (settings.Ineligible router data') (subjects.NoMrt of) priority = refl
tells_same (settings.Ineligible router data') (subjects.Ineligible of link_data) priority = refl

pub kept_no_mrt : (router : ℕ) (entries : List (Subject × ℕ)) → is_some (lookup (same (subjects.NoMrt router)) entries) ≡ list_any (is_no_mrt router) (settings_kept entries)
kept_no_mrt router = kept_any (subjects.NoMrt router) (is_no_mrt router) (tells_no_mrt router)

pub kept_ineligible : (router link_data : ℕ) (entries : List (Subject × ℕ))
    → is_some (lookup (same (subjects.Ineligible router link_data)) entries) ≡ list_any (is_ineligible router link_data) (settings_kept entries)
kept_ineligible router link_data = kept_any (subjects.Ineligible router link_data) (is_ineligible router link_data) (tells_ineligible router link_data)

pub kept_same : (setting : Setting) (entries : List (Subject × ℕ)) → is_some (lookup (same (parts_of setting).0) entries) ≡ list_any (same_subject setting) (settings_kept entries)
kept_same setting = kept_any (parts_of setting).0 (same_subject setting) (tells_same setting)

-- a priority
given : (router : ℕ) (other : Subject) (priority : ℕ) → given_priority router (setting_about other priority) ≡ (if same (subjects.Priority router) other then Some priority else None)
given router (subjects.Priority of) priority = refl
given router (subjects.NoMrt of) priority = refl
given router (subjects.Ineligible of link_data) priority = refl

pub kept_priority : (router : ℕ) (entries : List (Subject × ℕ)) → unwrap_or (lookup (same (subjects.Priority router)) entries) 128 ≡ priority_of (settings_kept entries) router
kept_priority router [] = refl
kept_priority router (entry ∷ entries) = elim (cases_Bool (same (subjects.Priority router) entry.0)) [
  | inl is ↦ rw (given router entry.0 entry.1, is) refl
  | inr other ↦ rw (given router entry.0 entry.1, other) (kept_priority router entries)
]

-- one more setting
whole : (setting : Setting) → setting_about (parts_of setting).0 (parts_of setting).1 ≡ setting
whole (settings.Priority router priority) = refl
whole (settings.NoMrt router) = refl
whole (settings.Ineligible router link_data) = refl

pub kept_more : (entries : List (Subject × ℕ)) (setting : Setting) → settings_kept (entries ++ parts_of setting ∷ []) ≡ settings_kept entries ++ setting ∷ []
kept_more entries setting = map-append _ entries (parts_of setting ∷ []) ∙ ap (λ (s : Setting). settings_kept entries ++ s ∷ []) (whole setting)
