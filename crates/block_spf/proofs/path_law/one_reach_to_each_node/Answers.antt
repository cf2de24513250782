use Rattle.block_spf.proofs.OneHop.{one_reach_to}
use Rattle.block_spf.proofs.path_law.one_reach_to_each_node.Goals as goal

pub returns : goal.returns
returns c = λ g root t w dir hops others kept ordered t_within one two.
    one_reach_to g root w dir t hops others (record { kept = kept; ordered = ordered }) t_within one two
