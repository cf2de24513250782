use Rattle.std.proofs.Common.{[], sym}
use Rattle.std.proofs.lemmas.Bool.{ne_eqb}
use Rattle.mrt_graph.specs.Certificate.{certificate_of}
use Rattle.cert_format.specs.steps.Steps.{parts_of}
use Rattle.cert_format.proofs.Finished.{none_one, some_two}
use Rattle.cert_format.proofs.GoesOn.{under}
use Rattle.cert_format.proofs.parts_read.PartsRead.row_count.Goals as goal

pub unreachable-requires : goal.unreachable-requires
unreachable-requires c =
    let so = under (parts_of c.args.self.now) c.args.header c.requires.header c.requires.parts in
    c.if-header-eq1.false (none_one c.args.header.version c.args.self.now.nodes.items c.args.self.now.relatives (so.known c.requires.nodes) c.in-None.is)

pub returns : goal.returns
returns c =
    let so = under (parts_of c.args.self.now) c.args.header c.requires.header c.requires.parts in
    let nodes = c.args.self.now.nodes.items in
    let told = some_two c.args.header.version nodes c.args.self.now.relatives c.in-Some.relatives (so.known c.requires.nodes) c.in-Some.is in
    rw (ne_eqb c.args.header.version 1 c.if-header-eq1.false) (c.count.ensures (certificate_of nodes [] []) (sym told.1))
