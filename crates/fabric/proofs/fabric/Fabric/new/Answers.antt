use Rattle.std.proofs.Common.{refl}
use Rattle.fabric.proofs.fabric.Fabric.new.Goals as goal

pub returns : goal.returns
returns g c = rw c.in_ok-packets.ensures.items refl
