use Rattle.std.proofs.Common.{Some, refl}
use Rattle.block_spf.proofs.OneHop.{not_both}
use Rattle.block_spf.proofs.path_law.no_node_is_both_above_and_below.Goals as goal

pub returns : goal.returns
returns c = λ g root s t w up down kept ordered s_within t_within peers one two.
    not_both g root w s t (Some up) (Some down) (record { kept = kept; ordered = ordered }) s_within t_within peers up down refl refl one two
