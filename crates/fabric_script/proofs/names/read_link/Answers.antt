use Rattle.std.proofs.Common.{◌∙◌}
use Rattle.fabric_script.proofs.NamesSpelled.{link_spelled}
use Rattle.fabric_script.proofs.names.read_link.Goals as goal

pub returns-clause-only : goal.returns-clause-only
returns-clause-only c = λ router link_data small small' spelled.
    c.link.ensures.value ∙ link_spelled c.args.text.now router link_data small small' spelled
