use Rattle.order_repair.proofs.GoesRound.{graph_with}
use Rattle.order_repair.proofs.HoldTogether.{none_separates}
use Rattle.order_repair.proofs.order_law.blocks_hold_together.Goals as goal

pub returns : goal.returns
returns c = λ g root w s t block head x kept ordered s_within t_within share lies.
    none_separates (graph_with g root w kept ordered) s t block head x s_within t_within share lies
