use Rattle.order_repair.proofs.GoesRound.{reaches_in_certificate, round_in_certificate}
use Rattle.order_repair.proofs.order_law.a_chosen_color_goes_round_in_the_certificate.Goals as goal

pub returns : goal.returns
returns c = record { arrives = reaches_in_certificate; round = round_in_certificate }
