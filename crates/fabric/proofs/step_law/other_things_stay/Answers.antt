use Rattle.fabric.proofs.Staying.{injects_stay, packets_stay, refused_stay, steps_stay}
use Rattle.fabric.proofs.step_law.other_things_stay.Goals as goal

pub returns : goal.returns
returns c = record { refused = refused_stay; steps = steps_stay; injects = injects_stay; fails = packets_stay }
