use Rattle.flood.proofs.ComparedInState.{compared_in_state}
use Rattle.flood.proofs.text_law.a_comparison_tells_of_the_deliveries_before_it.Goals as goal

pub returns : goal.returns
returns g c = compared_in_state (g.C.Compare.says c.args._comparing.now)
