use Rattle.std.proofs.lemmas.Result.{err_from_is_err_and}
use Rattle.std.proofs.Common.{◌<◌, Err, length, sym, ap, subst, ◌∙◌, arith}
use Rattle.cert_format.specs.steps.Reading.{IsNode}
use Rattle.cert_format.specs.steps.Steps.{AreParts, Parts, ReadsOn, TookParts, parts_of}
use Rattle.cert_format.proofs.Files.{few_most_nodes}
use Rattle.cert_format.proofs.GoesOn.{few_bytes, under}
use Rattle.cert_format.proofs.Taking.{first_more, heads_stop, nodes_done, nodes_stop, place_then, reads_then}
use Rattle.cert_format.proofs.parts_read.PartsRead.read_nodes.Goals as goal

pub read_parts-requires-clause-place : goal.read_parts-requires-clause-place
read_parts-requires-clause-place c =
    let so = under (parts_of c.args.self.now) c.args.header c.requires.header c.requires.parts in
    omega (arith, c.requires.place, few_bytes (parts_of c.args.self.now) c.requires.parts, so.header.few_nodes, few_most_nodes c.args.header.version)

pub returns-in_err-rest : goal.returns-in_err-rest
returns-in_err-rest c =
    let parts = parts_of c.args.self.now in
    let header = c.args.header in
    let nodes = c.read_parts.new.parts.items in
    let so = under parts header c.requires.header c.requires.parts in
    let lacks : length parts.nodes < header.nodes = omega (arith, c.if-len-header.false, so.nodes.few) in
    let none = (so.nodes_first lacks).kin in
    let q = err_from_is_err_and c.from_residual.result c.from_residual.ensures.1 in
    rw (q.1, q.2) (nodes_stop parts header c.requires.header so nodes parts.kin lacks none c.args.rest c.in_err-rest.field-0.0 c.requires.place c.in_err-rest.ensures)

pub know-requires : goal.know-requires
know-requires c =
    let parts = parts_of c.args.self.now in
    let n = c.args.header.nodes in
    let so = under parts c.args.header c.requires.header c.requires.parts in
    let it = c.in_ok-rest.ensures.0 in
    record {
      header = so.header;
      all = c.in_ok-rest.ensures.1;
      kept = (first_more n n (IsNode n) parts.nodes it.more c.read_parts.new.parts.items so.nodes it.adds it.each (omega (arith, c.in_ok-rest.ensures.1))).each;
      none = (so.nodes_first (omega (arith, c.if-len-header.false, so.nodes.few))).kin;
    }

pub returns-in_err-know : goal.returns-in_err-know
returns-in_err-know c =
    let parts = parts_of c.args.self.now in
    let so = under parts c.args.header c.requires.header c.requires.parts in
    let lacks : length parts.nodes < c.args.header.nodes = omega (arith, c.if-len-header.false, so.nodes.few) in
    let nodes = c.read_parts.new.parts.items in
    let it = c.in_ok-rest.ensures.0 in
    let q = err_from_is_err_and c.from_residual-in_err-know.result c.from_residual-in_err-know.ensures.1 in
    rw (q.1, q.2) (subst (λ (it : Parts). ReadsOn parts c.args.rest it (Err c.in_err-know.field-0.0)) (sym c.know.ensures.same)
    (heads_stop parts c.args.header c.requires.header so nodes c.know.new.self.relatives lacks c.args.rest c.in_ok-rest.rest c.in_err-know.field-0.0 it c.in_ok-rest.ensures.1 c.in_err-know.ensures.knows))

pub read_links-requires-2 : goal.read_links-requires-2
read_links-requires-2 c =
    let parts = parts_of c.args.self.now in
    let same = c.know.ensures.same in
    let so = under parts c.args.header c.requires.header c.requires.parts in
    let done = nodes_done parts c.args.header c.requires.header so c.read_parts.new.parts.items c.know.new.self.relatives (omega (arith, c.if-len-header.false, so.nodes.few)) c.args.rest c.in_ok-rest.rest c.in_ok-rest.ensures.0 c.in_ok-rest.ensures.1 c.in_ok-know.ensures.knows in
    record {
      parts = subst AreParts (sym same) done.1;
      place = place_then parts (parts_of c.know.new.self) c.args.rest c.in_ok-rest.rest (subst (λ (it : Parts). TookParts parts c.args.rest it c.in_ok-rest.rest) (sym same) done.0) c.requires.place;
      header = ap (λ (it : Parts). it.header) same ∙ c.requires.header;
      nodes = ap (λ (it : Parts). length it.nodes) same ∙ c.in_ok-rest.ensures.1;
    }

pub returns : goal.returns
returns c =
    let parts = parts_of c.args.self.now in
    let nodes = c.read_parts.new.parts.items in
    let mid = parts_of c.know.new.self in
    let new = parts_of c.read_links-2.new.self in
    let it = c.in_ok-rest.ensures.0 in
    let same = sym c.know.ensures.same in
    let so = under parts c.args.header c.requires.header c.requires.parts in
    let lacks : length parts.nodes < c.args.header.nodes = omega (arith, c.if-len-header.false, so.nodes.few) in
    let done = nodes_done parts c.args.header c.requires.header so nodes c.know.new.self.relatives lacks c.args.rest c.in_ok-rest.rest it c.in_ok-rest.ensures.1 c.in_ok-know.ensures.knows in
    reads_then parts mid new c.args.rest c.in_ok-rest.rest c.read_links-2.result (subst (λ (it : Parts). TookParts parts c.args.rest it c.in_ok-rest.rest) same done.0) c.read_links-2.ensures
