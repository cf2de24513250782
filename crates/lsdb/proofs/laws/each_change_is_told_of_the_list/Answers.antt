use Rattle.lsdb.proofs.Tellings.{added, clash, older, replaced, same}
use Rattle.lsdb.proofs.laws.each_change_is_told_of_the_list.Goals as goal

pub returns : goal.returns
returns c = record { added = added; replaced = replaced; older = older; same = same; clash = clash }
