use Rattle.mrt_graph.proofs.AcceptedSound.{accepted_sound}
use Rattle.primary_alt.proofs.Repairs.{color_arrives, not_used}
use Rattle.primary_alt.proofs.repair_law.a_color_given_goes_round.Goals as goal

pub returns-clause-arrives : goal.returns-clause-arrives
returns-clause-arrives c = λ g root file accepted s t from to other x color is.
    color_arrives _ _ _ s t (accepted_sound g root file accepted s t from to other) color

pub returns-clause-avoids : goal.returns-clause-avoids
returns-clause-avoids c = λ g root file accepted s t from to other x color is. not_used g.links _ _ s t x color is
