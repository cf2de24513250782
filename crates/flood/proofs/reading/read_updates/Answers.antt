use Rattle.std.proofs.Common.{◌∙◌, ℕ, List, Err, ap, subst, drop, arith}
use Rattle.std.proofs.lemmas.Result.{err_from_is_err_and}
use Rattle.flood.specs.PacketFields.{length_field}
use Rattle.flood.specs.Updates.{IsUpdate}
use Rattle.flood.proofs.OneFile.{one_list, never_both, read_more, all_read, none_read, first_told}
use Rattle.flood.proofs.MayBeFlooded.{all_may_flood, few_updates}
use Rattle.flood.proofs.Refusals.{told_in_file}
use Rattle.std.specs.Int.{w8}
use Rattle.std.proofs.Math.Facts.{Fits-lt-pow}
use Rattle.flood.proofs.reading.read_updates.Goals as goal

pub loop-at-preserved : goal.loop-at-preserved
loop-at-preserved c =
    read_more c.args.bytes.now c.loop-at.updates.items c.push.new.self.items c.loop-at.at c.in_ok-update.length
    c.in_ok-update.update c.loop-at.invariant
    (subst (λ (b : List ℕ). IsUpdate c.loop-at.at b c.in_ok-update.update) c.after.ensures
    c.in_ok-update.ensures.found)
    (c.in_ok-update.ensures.length ∙ ap length_field c.after.ensures) c.in_ok-push.ensures.items

pub returns-clause-found : goal.returns-clause-found
returns-clause-found c =
    all_read c.args.bytes.now c.loop-at.updates.items c.loop-at.at c.loop-at-test.false c.loop-at.invariant

pub returns-clause-few : goal.returns-clause-few
returns-clause-few c =
    let few = few_updates 0 c.args.bytes.now c.loop-at.updates.items (drop c.loop-at.at c.args.bytes.now)
    c.loop-at.invariant.are in
    omega (arith, few, c.requires)

pub returns-clause-may_flood : goal.returns-clause-may_flood
returns-clause-may_flood c =
    all_may_flood 0 c.args.bytes.now c.loop-at.updates.items (drop c.loop-at.at c.args.bytes.now)
    (λ i. Fits-lt-pow {w = w8} (c.type_inv.bytes i)) c.loop-at.invariant.are

pub returns-clause-only : goal.returns-clause-only
returns-clause-only c = λ updates are.
    one_list c.args.bytes.now c.loop-at.updates.items updates
    (all_read c.args.bytes.now c.loop-at.updates.items c.loop-at.at c.loop-at-test.false c.loop-at.invariant) are

pub returns-clause-faulty : goal.returns-clause-faulty
returns-clause-faulty c = λ at kind.
    never_both c.args.bytes.now c.loop-at.updates.items at kind
    (all_read c.args.bytes.now c.loop-at.updates.items c.loop-at.at c.loop-at-test.false c.loop-at.invariant)

pub returns-in_err-update-clause-fault : goal.returns-in_err-update-clause-fault
returns-in_err-update-clause-fault c = λ at kind told.
    let p = err_from_is_err_and c.from_residual.result c.from_residual.ensures.1 in
    let first = p.1 in
    let second = p.2 in
    told_in_file c.args.bytes.now c.after.result.now c.loop-at.updates.items c.loop-at.at c.in_err-update.field-0.0
    c.loop-at-test.true c.loop-at.invariant c.after.ensures
    (λ place of is. c.in_err-update.ensures.fault place of (ap Err is)) at kind cc

pub returns-in_err-update-clause-only : goal.returns-in_err-update-clause-only
returns-in_err-update-clause-only c =
    let p = err_from_is_err_and c.from_residual.result c.from_residual.ensures.1 in
    rw (p.1, p.2)
    (none_read c.args.bytes.now c.in_err-update.field-0.0
    (told_in_file c.args.bytes.now c.after.result.now c.loop-at.updates.items c.loop-at.at c.in_err-update.field-0.0
    c.loop-at-test.true c.loop-at.invariant c.after.ensures
    (λ place of is. c.in_err-update.ensures.fault place of (ap Err is))))

pub returns-in_err-update-clause-faulty : goal.returns-in_err-update-clause-faulty
returns-in_err-update-clause-faulty c =
    let p = err_from_is_err_and c.from_residual.result c.from_residual.ensures.1 in
    rw (p.1, p.2)
    (first_told c.args.bytes.now c.in_err-update.field-0.0
    (told_in_file c.args.bytes.now c.after.result.now c.loop-at.updates.items c.loop-at.at c.in_err-update.field-0.0
    c.loop-at-test.true c.loop-at.invariant c.after.ensures
    (λ place of is. c.in_err-update.ensures.fault place of (ap Err is))))
