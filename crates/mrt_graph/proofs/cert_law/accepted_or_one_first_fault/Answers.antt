use Rattle.mrt_graph.proofs.RuleFaults.{accepted_or_faulty, never_both, one_fault}
use Rattle.mrt_graph.proofs.cert_law.accepted_or_one_first_fault.Goals as goal

pub returns : goal.returns
returns c = record { either = accepted_or_faulty; never_both = never_both; one = one_fault }
