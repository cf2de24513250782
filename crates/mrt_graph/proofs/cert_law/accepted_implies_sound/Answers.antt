use Rattle.mrt_graph.proofs.cert_law.accepted_implies_sound.Goals as goal
use Rattle.mrt_graph.proofs.AcceptedSound.{accepted_sound}

pub returns : goal.returns
returns c = accepted_sound
