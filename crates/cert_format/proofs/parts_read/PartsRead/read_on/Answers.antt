use Rattle.std.proofs.Common.{refl}
use Rattle.std.proofs.lemmas.Result.{err_from_is_err_and}
use Rattle.cert_format.specs.steps.Steps.{parts_of}
use Rattle.cert_format.proofs.Taking.{header_stops, header_took, place_then, reads_then, with_header}
use Rattle.cert_format.proofs.parts_read.PartsRead.read_on.Goals as goal

pub returns-in_err-header : goal.returns-in_err-header
returns-in_err-header c =
    let q = err_from_is_err_and c.from_residual.result c.from_residual.ensures.1 in
    rw (q.1, q.2) (header_stops (parts_of c.args.self.now) c.args.rest c.in_err-header.field-0.0 c.in_default.is c.requires.parts c.requires.place c.in_err-header.ensures)

pub read_nodes-requires-2 : goal.read_nodes-requires-2
read_nodes-requires-2 c =
    let parts = parts_of c.args.self.now in
    let it = header_took parts c.in_ok-header.header c.args.rest c.in_ok-header.rest c.in_default.is c.requires.parts c.in_ok-header.ensures.took c.in_ok-header.ensures.within in
    record { parts = it.1; place = place_then parts (with_header parts c.in_ok-header.header) c.args.rest c.in_ok-header.rest it.0 c.requires.place; header = refl }

pub returns : goal.returns
returns c =
    let parts = parts_of c.args.self.now in
    let mid = with_header parts c.in_ok-header.header in
    let new = parts_of c.read_nodes-2.new.self in
    let it = header_took parts c.in_ok-header.header c.args.rest c.in_ok-header.rest c.in_default.is c.requires.parts c.in_ok-header.ensures.took c.in_ok-header.ensures.within in
    reads_then parts mid new c.args.rest c.in_ok-header.rest c.read_nodes-2.result it.0 c.read_nodes-2.ensures
