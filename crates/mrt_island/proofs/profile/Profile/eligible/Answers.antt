use Rattle.std.proofs.Common.{◌∙◌, ap, List, not}
use Rattle.mrt_island.proofs.Stores.{kept_ineligible}
use Rattle.mrt_island.specs.declared.setting.Setting.{Setting}
use Rattle.mrt_island.specs.Settings.{is_eligible}
use Rattle.mrt_island.proofs.profile.Profile.eligible.Goals as goal

pub returns : goal.returns
returns c =
    ap not (c.contains_key.ensures ∙ kept_ineligible c.args.router c.args.link_data c.self.inside.settings.entries)
    ∙ ap (λ (settings : List Setting). is_eligible settings c.args.router c.args.link_data) c.self.view_is
