use Rattle.std.proofs.Common.{◌∙◌, ap, List, not}
use Rattle.mrt_island.proofs.Stores.{kept_no_mrt}
use Rattle.mrt_island.specs.declared.setting.Setting.{Setting}
use Rattle.mrt_island.specs.Settings.{supports}
use Rattle.mrt_island.proofs.profile.Profile.supports.Goals as goal

pub returns : goal.returns
returns c =
    ap not (c.contains_key.ensures ∙ kept_no_mrt c.args.router c.self.inside.settings.entries)
    ∙ ap (λ (settings : List Setting). supports settings c.args.router) c.self.view_is
