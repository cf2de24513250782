use Rattle.fabric.proofs.RunLives as lives
use Rattle.fabric.proofs.packet_law.packets_end.Goals as goal

pub returns : goal.returns
returns c = record { few_steps = lives.few_steps; going = lives.steps_left }
