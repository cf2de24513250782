use Rattle.std.proofs.Common.{arith}
use Rattle.std.proofs.lemmas.Result.{err_from_is_err_and}
use Rattle.cert_format.specs.steps.Steps.{parts_of}
use Rattle.cert_format.proofs.Files.{few_most_links}
use Rattle.cert_format.proofs.GoesOn.{few_bytes, under}
use Rattle.cert_format.proofs.Taking.{links_done, links_stop, place_then, reads_then, with_links}
use Rattle.cert_format.proofs.parts_read.PartsRead.read_links.Goals as goal

pub read_parts-requires-clause-place : goal.read_parts-requires-clause-place
read_parts-requires-clause-place c =
    let so = under (parts_of c.args.self.now) c.args.header c.requires.header c.requires.parts in
    omega (arith, c.requires.place, few_bytes (parts_of c.args.self.now) c.requires.parts, so.header.few_links, few_most_links c.args.header.version)

pub returns-in_err-rest : goal.returns-in_err-rest
returns-in_err-rest c =
    let parts = parts_of c.args.self.now in
    let header = c.args.header in
    let links = c.read_parts.new.parts.items in
    let so = under parts header c.requires.header c.requires.parts in
    let q = err_from_is_err_and c.from_residual.result c.from_residual.ensures.1 in
    rw (q.1, q.2) (links_stop parts header c.requires.header so c.requires.nodes links (omega (arith, c.if-len-header.false, so.links.few)) c.args.rest c.in_err-rest.field-0.0 c.requires.place c.in_err-rest.ensures)

pub read_rows-requires-2 : goal.read_rows-requires-2
read_rows-requires-2 c =
    let parts = parts_of c.args.self.now in
    let links = c.read_parts.new.parts.items in
    let so = under parts c.args.header c.requires.header c.requires.parts in
    let done = links_done parts c.args.header c.requires.header so c.requires.nodes links (omega (arith, c.if-len-header.false, so.links.few)) c.args.rest c.in_ok-rest.rest c.in_ok-rest.ensures.0 c.in_ok-rest.ensures.1 in
    record { parts = done.1; place = place_then parts (with_links parts links) c.args.rest c.in_ok-rest.rest done.0 c.requires.place; header = c.requires.header; nodes = c.requires.nodes; links = c.in_ok-rest.ensures.1 }

pub returns : goal.returns
returns c =
    let parts = parts_of c.args.self.now in
    let links = c.read_parts.new.parts.items in
    let mid = with_links parts links in
    let new = parts_of c.read_rows-2.new.self in
    let it = c.in_ok-rest.ensures.0 in
    let so = under parts c.args.header c.requires.header c.requires.parts in
    let done = links_done parts c.args.header c.requires.header so c.requires.nodes links (omega (arith, c.if-len-header.false, so.links.few)) c.args.rest c.in_ok-rest.rest it c.in_ok-rest.ensures.1 in
    reads_then parts mid new c.args.rest c.in_ok-rest.rest c.read_rows-2.result done.0 c.read_rows-2.ensures
