use Rattle.mrt_graph.proofs.AcceptedSound.{accepted_sound}
use Rattle.mrt_graph.proofs.LeadsOn.{sound-hop}
use Rattle.mrt_graph.proofs.cert_law.accepted_rows_lead_on.Goals as goal

pub returns : goal.returns
returns c = λ g root file accepted color s t s_within t_within other.
    sound-hop _ _ _ color s t other (accepted_sound g root file accepted s t s_within t_within other)
