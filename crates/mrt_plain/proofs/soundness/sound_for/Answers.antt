use Rattle.std.proofs.Common.{rules}
use Rattle.mrt_plain.proofs.soundness.sound_for.Goals as goal

pub returns : goal.returns
returns c = search rules
