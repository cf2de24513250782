use Rattle.std.proofs.Common.{◌∙◌, ap, List, ℕ, Option}
use Rattle.std.specs.Option.{unwrap_or}
use Rattle.mrt_island.proofs.Stores.{kept_priority}
use Rattle.mrt_island.specs.declared.setting.Setting.{Setting}
use Rattle.mrt_island.specs.Settings.{priority_of}
use Rattle.mrt_island.proofs.profile.Profile.priority.Goals as goal

pub returns-in-None : goal.returns-in-None
returns-in-None c =
    ap (λ (given : Option ℕ). unwrap_or given 128) c.in-None.ensures.value ∙ kept_priority c.args.router c.self.inside.settings.entries
    ∙ ap (λ (settings : List Setting). priority_of settings c.args.router) c.self.view_is

pub returns-in-Some : goal.returns-in-Some
returns-in-Some c =
    ap (λ (given : Option ℕ). unwrap_or given 128) c.in-Some.ensures.value ∙ kept_priority c.args.router c.self.inside.settings.entries
    ∙ ap (λ (settings : List Setting). priority_of settings c.args.router) c.self.view_is
