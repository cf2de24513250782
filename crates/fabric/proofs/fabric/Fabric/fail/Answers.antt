use Rattle.std.proofs.Common.{refl}
use Rattle.fabric.proofs.fabric.Fabric.fail.Goals as goal

pub returns-then-not-has_element-clause-step : goal.returns-then-not-has_element-clause-step
returns-then-not-has_element-clause-step g c =
    rw (← c.self.view_is) (record { answers = record { has = c.has_element.result; has_is = c.has_element.ensures; is = rw c.if-not-has_element.true refl }; after = refl })

pub returns-in-Some-clause-step : goal.returns-in-Some-clause-step
returns-in-Some-clause-step g c =
    rw (← c.self.view_is) (record { answers = record { has = c.has_element.result; has_is = c.has_element.ensures; is = rw (c.if-not-has_element.false, c.in-Some.is) refl }; after = refl })

pub returns-clause-step : goal.returns-clause-step
returns-clause-step g c =
    rw (← c.self.view_is) (record { answers = record { has = c.has_element.result; has_is = c.has_element.ensures; is = rw (c.if-not-has_element.false, c.in_default.is) refl }; after = refl })
