use Rattle.order_repair.proofs.GoesRound.{arrives, goes_round, graph_with}
use Rattle.order_repair.proofs.order_law.a_chosen_color_goes_round.Goals as goal

pub returns : goal.returns
returns c = record {
  arrives = λ g root w file kept ordered tells s t x color choice.
      arrives (graph_with g root w kept ordered) file tells s t choice.between.source choice.between.target
      choice.between.share.two color;
  round = λ g root w file kept ordered tells s t x color choice.
      goes_round (graph_with g root w kept ordered) file tells s t choice.between.source choice.between.target x color choice;
}
