use Rattle.std.proofs.Common.{Option, sym, subst}
use Rattle.std.specs.Prelude.{IfSome}
use Rattle.mrt_args.specs.declared.form.FileForm.{FileForm}
use Rattle.mrt_args.specs.Form.{IsTaskWithin}
use Rattle.mrt_args.proofs.Spelled.{form_within}
use Rattle.mrt_args.proofs.form_reading.read_form.Goals as goal

pub returns-in-Some-clause-within : goal.returns-in-Some-clause-within
returns-in-Some-clause-within c =
    subst (λ (o : Option FileForm). IfSome o (λ form. IsTaskWithin form.task)) (sym c.in-Some.ensures)
    (form_within c.args.words.now)
