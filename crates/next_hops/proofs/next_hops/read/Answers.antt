use Rattle.std.proofs.Common.{◌∙◌, sym}
use Rattle.next_hops.specs.Causes.{IsCause}
use Rattle.next_hops.specs.Failures.{lsa_failure}
use Rattle.next_hops.specs.declared.failure.Failure.TheVariants as failures
use Rattle.next_hops.proofs.Causing.{conflict_cause, failed, lsa_cause}
use Rattle.next_hops.proofs.next_hops.read.Goals as goal

pub returns-in_err-lsas-clause-none : goal.returns-in_err-lsas-clause-none
returns-in_err-lsas-clause-none c = λ router to.
    failed c.from_residual.result (lsa_failure c.in_err-lsas.field-0.0) (IsCause c.args.bytes.now router to)
    c.from_residual.ensures.1 (lsa_cause c.args.bytes.now router to _ c.in_err-lsas.ensures.fault)

pub returns-in_err-settled-clause-none : goal.returns-in_err-settled-clause-none
returns-in_err-settled-clause-none c = λ router to.
    failed c.from_residual-in_err-settled.result (failures.Conflict c.in_err-settled.field-0.0) (IsCause c.args.bytes.now router to)
    c.from_residual-in_err-settled.ensures.1
    (conflict_cause c.args.bytes.now router to c.in_ok-lsas.lsas.items (record { each = c.in_ok-lsas.ensures.found.0; spelled = c.in_ok-lsas.ensures.found.1 }) _
    c.in_ok-database.ensures c.tells_the_first_conflict.ensures.told c.in_err-settled.field-0.0
    (sym c.in_err-settled.was ∙ c.settled.ensures.told))
