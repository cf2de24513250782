use Rattle.fabric.proofs.RunLives.{never_lost}
use Rattle.fabric.proofs.packet_law.a_switched_packet_is_never_lost.Goals as goal

pub returns : goal.returns
returns c = never_lost
