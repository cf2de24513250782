use Rattle.order_repair.proofs.GoesRound.{graph_with}
use Rattle.order_repair.proofs.OneChoice.{one_choice, some_choice}
use Rattle.order_repair.proofs.order_law.one_color_for_each_failure.Goals as goal

pub returns : goal.returns
returns c = record {
  some = λ g root w s t x kept ordered. (some_choice (graph_with g root w kept ordered) s t x, λ some. some.1.between);
  one = λ g root w s t x color other kept ordered choice choice'.
      one_choice (graph_with g root w kept ordered) s t x color other choice choice';
}
