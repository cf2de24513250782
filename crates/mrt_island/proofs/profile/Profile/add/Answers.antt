use Rattle.std.proofs.Common.{◌≡◌, ◌∙◌, ap, sym, List, ℕ, Option, Bool, true, false, Some, None, refl, [], ◌∷◌, ◌++◌, not}
use Rattle.std.specs.List.{list_any}
use Rattle.std.specs.Map.{lookup}
use Rattle.std.specs.Option.{is_some}
use Rattle.std.proofs.lemmas.Bool.{true≢false}
use Rattle.indexmap.proofs.CallerLemmas.{insert_entry-new}
use Rattle.mrt_island.proofs.Stores.{same, kept_same, kept_more}
use Rattle.mrt_island.specs.declared.setting.Setting.{Setting}
use Rattle.mrt_island.specs.declared.setting.Subject.{Subject}
use Rattle.mrt_island.specs.steps.ProfileStore.{settings_kept}
use Rattle.mrt_island.specs.Settings.{same_subject}
use Rattle.mrt_island.proofs.profile.Profile.add.Goals as goal

turned : (a b : Bool) → b ≡ not a → a ≡ not b
turned true b is = sym (ap not is)
turned false b is = sym (ap not is)

absent : (o : Option ℕ) → is_some o ≡ false → o ≡ None
absent None quiet = refl
absent (Some x) quiet = absurd (true≢false quiet)

pub returns-clause-told : goal.returns-clause-told
returns-clause-told c =
    let old : is_some c.in_ok-old.old ≡ list_any (same_subject c.args.setting) c.args.self.now =
    ap is_some c.in_ok-old.ensures.old ∙ ap (λ (parts : Subject × ℕ). is_some (lookup (same parts.0) c.self.inside.settings.entries)) c.parts_of-subject.ensures
    ∙ kept_same c.args.setting c.self.inside.settings.entries ∙ ap (list_any (same_subject c.args.setting)) c.self.view_is in
    turned c.is_none.result _ (sym old ∙ c.is_none.ensures)

pub returns-clause-added : goal.returns-clause-added
returns-clause-added c = λ new.
    let none : c.in_ok-old.old ≡ None = absent c.in_ok-old.old (c.is_none.ensures ∙ ap not new) in
    ap settings_kept (c.in_ok-old.ensures.entries ∙ insert_entry-new _ c.self.inside.settings c.parts_of-subject.result.0 c.parts_of-subject.result.1 (sym c.in_ok-old.ensures.old ∙ none)
    ∙ ap (λ (parts : Subject × ℕ). c.self.inside.settings.entries ++ parts ∷ []) c.parts_of-subject.ensures)
    ∙ kept_more c.self.inside.settings.entries c.args.setting ∙ ap (λ (settings : List Setting). settings ++ c.args.setting ∷ []) c.self.view_is
