use Rattle.lsdb.proofs.Readings.{read_is_kept}
use Rattle.lsdb.proofs.laws.an_lsa_without_a_fault_may_be_installed.Goals as goal

pub returns : goal.returns
returns c = read_is_kept
