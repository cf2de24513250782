use Rattle.primary_alt.proofs.RouterFacts.{router_from}
use Rattle.lfa_alt.proofs.OneText.{one_text}
use Rattle.lfa_alt.proofs.TextExists.{some_text}
use Rattle.lfa_alt.proofs.text_law.one_text_each.Goals as goal

pub returns-clause-some : goal.returns-clause-some
returns-clause-some c area s kept within no_network = some_text area kept s (router_from area.ids s within no_network)

pub returns-clause-one : goal.returns-clause-one
returns-clause-one c = one_text
