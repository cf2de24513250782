use Rattle.std.proofs.Common.{rules}
use Rattle.text_parts.proofs.reading.take_line.Goals as goal

pub returns-in-Ok-Ok : goal.returns-in-Ok-Ok
returns-in-Ok-Ok g c = search rules
