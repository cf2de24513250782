use Rattle.std.proofs.Common.{refl}
use Rattle.mrt_graph.specs.Certificate.{certificate_of}
use Rattle.cert_format.specs.steps.Steps.{parts_of}
use Rattle.cert_format.proofs.Finished.{file_one, file_two, none_one, one_certificate, parts_folded, some_two, whole_for}
use Rattle.cert_format.proofs.parts_read.PartsRead.into_file.Goals as goal

pub new-requires : goal.new-requires
new-requires c =
    let parts = parts_of c.args.self in
    let whole = whole_for c.in-Some.header parts c.in-Some.is c.requires in
    one_certificate c.in-Some.header parts whole (none_one c.in-Some.header.version parts.nodes parts.kin (whole.under.known whole.nodes) c.in-None.is)

pub returns-in-None : goal.returns-in-None
returns-in-None c =
    let header = c.in-Some.header in
    let parts = parts_of c.args.self in
    let whole = whole_for header parts c.in-Some.is c.requires in
    let one = none_one header.version parts.nodes parts.kin (whole.under.known whole.nodes) c.in-None.is in
    rw (c.file.ensures, c.new.ensures) (file_one header parts whole (certificate_of parts.nodes parts.links parts.rows) refl refl (one_certificate header parts whole one) one refl)

pub folded-requires : goal.folded-requires
folded-requires c =
    let header = c.in-Some.header in
    let parts = parts_of c.args.self in
    let whole = whole_for header parts c.in-Some.is c.requires in
    let two = some_two header.version parts.nodes parts.kin c.in-Some-relatives.relatives (whole.under.known whole.nodes) c.in-Some-relatives.is in
    record { rows = parts_folded header parts whole two.0; index = two.1 }

pub returns-in-Some-relatives : goal.returns-in-Some-relatives
returns-in-Some-relatives c =
    let header = c.in-Some.header in
    let parts = parts_of c.args.self in
    let whole = whole_for header parts c.in-Some.is c.requires in
    let other = (some_two header.version parts.nodes parts.kin c.in-Some-relatives.relatives (whole.under.known whole.nodes) c.in-Some-relatives.is).0 in
    rw c.file-in-Some-relatives.ensures (file_two header parts whole c.folded.result c.folded.ensures.nodes c.folded.ensures.links c.folded.ensures.kept other c.folded.ensures.near c.folded.ensures.foldable)
