use Rattle.flood.proofs.ComparedInState.{one_area}
use Rattle.flood.proofs.text_law.newest_of_the_same_give_one_area.Goals as goal

pub returns : goal.returns
returns c = one_area
