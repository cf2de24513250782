use Rattle.block_spf.proofs.HopExists.{some_hop}
use Rattle.block_spf.proofs.OneHop.{one_hop}
use Rattle.block_spf.proofs.path_law.one_hop_for_each_node.Goals as goal

pub returns-clause-some : goal.returns-clause-some
returns-clause-some c = λ g root s t w dir kept ordered s_within t_within.
    some_hop g root w (record { kept = kept; ordered = ordered }) dir s t s_within t_within

pub returns-clause-one : goal.returns-clause-one
returns-clause-one c = λ g root s t w dir hop other kept ordered s_within t_within one two.
    one_hop g root w dir s t hop other (record { kept = kept; ordered = ordered }) s_within t_within one two
