use Rattle.std.proofs.Common.{◌≡◌, ◌∙◌, Some, Err, ap, inl, sym}
use Rattle.lsdb.specs.Conflicts.{least_conflict}
use Rattle.lsdb.specs.Database.{HoldsLsas, entering}
use Rattle.mrt_exit.specs.Faults.{conflict_exit}
use Rattle.mrt_exit.specs.Due.{IsDue}
use Rattle.mrt_answer.specs.Reading.{database_of}
use Rattle.mrt_answer.proofs.Databases.{one_there}
use Rattle.mrt_args.proofs.HandedOn.{handed_on}
use Rattle.mrt_answer.proofs.input.database_of.Goals as goal

pub returns-in_err-settled-clause-none : goal.returns-in_err-settled-clause-none
returns-in_err-settled-clause-none c =
    let held : HoldsLsas c.args.bytes.now c.in_ok-lsas.lsas.items = record
    { each = c.in_ok-lsas.ensures.found.0; spelled = c.in_ok-lsas.ensures.found.1 } in
    let one : least_conflict c.in_ok-database.database.entries ≡ Some c.in_err-settled.field-0.0 =
    one_there (least_conflict c.in_ok-database.database.entries) c.settled.result c.in_err-settled.field-0.0
    c.settled.ensures.told c.in_err-settled.was in
    handed_on c.from_residual-in_err-settled.result (conflict_exit c.in_err-settled.field-0.0)
    c.from_residual-in_err-settled.ensures.1 (IsDue (λ exit. database_of c.args.bytes.now (Err exit))) (inl (
      c.in_ok-lsas.lsas.items,
      held,
      c.tells_the_first_conflict.ensures.told (entering c.in_ok-lsas.lsas.items) c.in_err-settled.field-0.0
          (sym (ap least_conflict c.in_ok-database.ensures) ∙ one),
    ))
