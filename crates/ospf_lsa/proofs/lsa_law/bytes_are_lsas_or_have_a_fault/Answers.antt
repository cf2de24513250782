use Rattle.ospf_lsa.proofs.Files.{either_of}
use Rattle.ospf_lsa.proofs.OneReading.{never_both, one_fault, one_list}
use Rattle.ospf_lsa.proofs.lsa_law.bytes_are_lsas_or_have_a_fault.Goals as goal

pub returns : goal.returns
returns c = record { either = either_of; never_both = never_both; one_list = one_list; one_fault = one_fault }
