use Rattle.std.specs.Int.{w32}
use Rattle.cert_format.proofs.Fields.{wide32, any_is_read}
use Rattle.cert_format.proofs.field.any_u32.Goals as goal

pub returns : goal.returns
returns c = any_is_read w32 c.args.rest c.u32.result wide32 c.u32.ensures
