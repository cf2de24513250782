use Rattle.mrt_graph.proofs.AcceptedSound.{accepted_sound}
use Rattle.primary_alt.proofs.repair.alternate.Goals as goal

pub alternate_by-requires-clause-sound : goal.alternate_by-requires-clause-sound
alternate_by-requires-clause-sound c = λ at within apart.
    accepted_sound c.args.g.now c.requires.accepted.root _ c.requires.accepted.accepted at c.args.to within c.requires.target apart
