use Rattle.flood.proofs.DeliveredFit.{bodies_read, ids_read, read_may_flood}
use Rattle.flood.proofs.update_law.what_is_read_may_be_flooded.Goals as goal

pub returns : goal.returns
returns c = record { may = read_may_flood; bodies = bodies_read; ids = ids_read }
