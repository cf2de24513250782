use Rattle.std.proofs.Common.{ℕ, Ok, Err, subst, arith}
use Rattle.std.proofs.lemmas.Result.{err_from_is_err_and}
use Rattle.cert_format.specs.declared.error.CertError.TheVariants as errors
use Rattle.cert_format.specs.CertText.{row_text}
use Rattle.cert_format.specs.Layout.{row_form}
use Rattle.cert_format.specs.steps.Reading.{IsFileRow, ReadsList}
use Rattle.cert_format.specs.steps.Steps.{parts_of}
use Rattle.cert_format.specs.Versions.{tag_count}
use Rattle.cert_format.proofs.GoesOn.{few_bytes, few_in_file, under}
use Rattle.cert_format.proofs.Taking.{end_stops, place_then, reads_then, rows_done, rows_stop, whole_read, with_rows}
use Rattle.cert_format.proofs.parts_read.PartsRead.read_rows.Goals as goal

pub read_parts-requires-clause-place : goal.read_parts-requires-clause-place
read_parts-requires-clause-place c =
    let parts = parts_of c.args.self.now in
    omega (arith, c.requires.place, few_bytes parts c.requires.parts, few_in_file c.args.header parts (under parts c.args.header c.requires.header c.requires.parts), c.row_count-count.ensures)

pub returns-in_err-rest : goal.returns-in_err-rest
returns-in_err-rest c =
    let parts = parts_of c.args.self.now in
    let header = c.args.header in
    let rows = c.read_parts.new.parts.items in
    let so = under parts header c.requires.header c.requires.parts in
    let q = err_from_is_err_and c.from_residual.result c.from_residual.ensures.1 in
    rw (q.1, q.2) (rows_stop parts header c.requires.header so c.requires.nodes c.requires.links rows c.args.rest c.in_err-rest.field-0.0 c.requires.place
    (subst (λ (count : ℕ). ReadsList (row_form (tag_count header.version) header.links) row_text (IsFileRow (tag_count header.version) header.links) count parts.rows rows c.args.rest (Err c.in_err-rest.field-0.0))
    c.row_count-count.ensures c.in_err-rest.ensures))

pub returns-in_err-end : goal.returns-in_err-end
returns-in_err-end c =
    let parts = parts_of c.args.self.now in
    let rows = c.read_parts.new.parts.items in
    let new = with_rows parts rows in
    let so = under parts c.args.header c.requires.header c.requires.parts in
    let more = rw c.row_count-count.ensures at c.in_ok-rest.ensures in
    let done = rows_done parts c.args.header c.requires.header so c.requires.nodes c.requires.links rows c.args.rest c.in_ok-rest.rest more.0 more.1 in
    let fault = c.in_err-end.field-0.0 in
    let q = err_from_is_err_and c.from_residual-in_err-end.result c.from_residual-in_err-end.ensures.1 in
    rw (q.1, q.2) (reads_then parts new new c.args.rest c.in_ok-rest.rest (Err (errors.Fault fault.at fault.kind)) done.0
    (end_stops c.args.header new done.1 c.in_ok-rest.rest fault (place_then parts new c.args.rest c.in_ok-rest.rest done.0 c.requires.place) c.in_err-end.ensures))

pub returns : goal.returns
returns c =
    let parts = parts_of c.args.self.now in
    let rows = c.read_parts.new.parts.items in
    let new = with_rows parts rows in
    let so = under parts c.args.header c.requires.header c.requires.parts in
    let more = rw c.row_count-count.ensures at c.in_ok-rest.ensures in
    let done = rows_done parts c.args.header c.requires.header so c.requires.nodes c.requires.links rows c.args.rest c.in_ok-rest.rest more.0 more.1 in
    reads_then parts new new c.args.rest c.in_ok-rest.rest (Ok tt) done.0 (whole_read c.args.header new done.1 c.in_ok-rest.rest c.in_ok-end.ensures)
