use Rattle.std.proofs.Common.{◌∙◌, arith}
use Rattle.cert_format.specs.steps.Steps.{parts_of}
use Rattle.cert_format.proofs.GoesOn.{are_few, parts_length}
use Rattle.cert_format.proofs.parts_read.PartsRead.size.Goals as goal

pub size_of-requires-clause-rows : goal.size_of-requires-clause-rows
size_of-requires-clause-rows c = omega (arith, (are_few (parts_of c.args.self.now) c.requires).rows, c.len-3.ensures)

pub returns-clause-value : goal.returns-clause-value
returns-clause-value c =
    c.size_of.ensures.value ∙ omega (arith, parts_length (parts_of c.args.self.now), c.header_size.ensures)
