use Rattle.std.proofs.Common.{◌∙◌, length, sym, ap, arith}
use Rattle.std.specs.Int.{w8}
use Rattle.std.proofs.Math.Facts.{Fits-lt-pow}
use Rattle.std.proofs.lemmas.List.{length-drop}
use Rattle.std.proofs.lemmas.Result.{err_from_is_err_and}
use Rattle.ospf_lsa.specs.steps.Reading.{record_in}
use Rattle.ospf_lsa.proofs.Files.{read_none, read_more, none_read, all_read, told_first, first_told}
use Rattle.ospf_lsa.proofs.OneReading.{never_both, one_list}
use Rattle.ospf_lsa.proofs.reading.read_lsas.Goals as goal

pub loop-at-preserved : goal.loop-at-preserved
loop-at-preserved c = record {
  within = omega
      (arith, c.in_ok-lsa.ensures.within, ap length c.after.ensures, length-drop c.loop-at.at c.args.bytes.now);
  read = read_more c.args.bytes.now c.loop-at.lsas.items c.push.new.self.items c.loop-at.at
      (c.in_ok-lsa.lsa, c.in_ok-lsa.length) (λ i. Fits-lt-pow {w = w8} (c.type_inv.bytes i)) c.loop-at.invariant.read
      (ap (record_in c.loop-at.at) (sym c.after.ensures) ∙ c.in_ok-lsa.ensures.answer) c.in_ok-push.ensures.items;
}

pub loop-at-init : goal.loop-at-init
loop-at-init c = record { within = omega arith; read = rw c.new-lsas.ensures.items (read_none c.args.bytes.now) }

pub returns-clause-found : goal.returns-clause-found
returns-clause-found c = (
  c.loop-at.invariant.read.so,
  all_read c.args.bytes.now c.loop-at.lsas.items c.loop-at.at c.loop-at-test.false
      c.loop-at.invariant.read,
)

pub returns-clause-only : goal.returns-clause-only
returns-clause-only c = λ lsas are text.
    one_list c.args.bytes.now c.loop-at.lsas.items lsas c.loop-at.invariant.read.so
    (all_read c.args.bytes.now c.loop-at.lsas.items c.loop-at.at c.loop-at-test.false c.loop-at.invariant.read)
    are text

pub returns-clause-faulty : goal.returns-clause-faulty
returns-clause-faulty c = λ at kind.
    never_both c.args.bytes.now c.loop-at.lsas.items at kind c.loop-at.invariant.read.so
    (all_read c.args.bytes.now c.loop-at.lsas.items c.loop-at.at c.loop-at-test.false c.loop-at.invariant.read)

pub returns-in_err-lsa-clause-fault : goal.returns-in_err-lsa-clause-fault
returns-in_err-lsa-clause-fault c = λ at kind told.
    let p = err_from_is_err_and c.from_residual.result c.from_residual.ensures.1 in
    let first = p.1 in
    let second = p.2 in
    told_first c.args.bytes.now c.after.result.now c.loop-at.lsas.items c.loop-at.at c.in_err-lsa.field-0.0
    (λ i. Fits-lt-pow {w = w8} (c.type_inv.bytes i)) c.loop-at-test.true c.loop-at.invariant.read c.after.ensures
    c.in_err-lsa.ensures.answer at kind cc

pub returns-in_err-lsa-clause-only : goal.returns-in_err-lsa-clause-only
returns-in_err-lsa-clause-only c =
    let p = err_from_is_err_and c.from_residual.result c.from_residual.ensures.1 in
    rw (p.1, p.2)
    (none_read c.args.bytes.now c.in_err-lsa.field-0.0
    (told_first c.args.bytes.now c.after.result.now c.loop-at.lsas.items c.loop-at.at c.in_err-lsa.field-0.0
    (λ i. Fits-lt-pow {w = w8} (c.type_inv.bytes i)) c.loop-at-test.true c.loop-at.invariant.read c.after.ensures
    c.in_err-lsa.ensures.answer))

pub returns-in_err-lsa-clause-faulty : goal.returns-in_err-lsa-clause-faulty
returns-in_err-lsa-clause-faulty c =
    let p = err_from_is_err_and c.from_residual.result c.from_residual.ensures.1 in
    rw (p.1, p.2)
    (first_told c.args.bytes.now c.in_err-lsa.field-0.0
    (told_first c.args.bytes.now c.after.result.now c.loop-at.lsas.items c.loop-at.at c.in_err-lsa.field-0.0
    (λ i. Fits-lt-pow {w = w8} (c.type_inv.bytes i)) c.loop-at-test.true c.loop-at.invariant.read c.after.ensures
    c.in_err-lsa.ensures.answer))
