use Rattle.flood.proofs.OneFile.{either_of, never_both, one_list, one_fault}
use Rattle.flood.proofs.update_law.bytes_are_updates_or_have_a_fault.Goals as goal

pub returns : goal.returns
returns c = record { either = either_of; never_both = never_both; one_list = one_list; one_fault = one_fault }
