use Rattle.std.proofs.Common.{◌∙◌, refl, sym}
use Rattle.fabric.specs.Handling.{has_failed}
use Rattle.fabric.proofs.SomeHop.{by_any}
use Rattle.fabric.proofs.handling.sent.Goals as goal

pub returns-then-not-cuts : goal.returns-then-not-cuts
returns-then-not-cuts g c = by_any _ _ _ _ _ (λ repair. rw (sym c.cuts.ensures ∙ c.if-not-cuts.true) (c.moved.ensures (has_failed c.args.failure.now c.args.packet.now.to) repair))

pub returns-then-has_failed : goal.returns-then-has_failed
returns-then-has_failed g c = by_any _ _ _ _ _ (λ repair. rw (sym c.cuts.ensures ∙ c.if-not-cuts.false, sym c.has_failed.ensures ∙ c.if-has_failed.true) refl)

pub returns-in-Entered : goal.returns-in-Entered
returns-in-Entered g c =
    by_any _ _ _ _ _ (λ repair. rw (sym c.cuts.ensures ∙ c.if-not-cuts.false, sym c.has_failed.ensures ∙ c.if-has_failed.false, c.in-Entered.is) refl)

pub returns-in-Switched : goal.returns-in-Switched
returns-in-Switched g c =
    by_any _ _ _ _ _ (λ repair. rw (sym c.cuts.ensures ∙ c.if-not-cuts.false, sym c.has_failed.ensures ∙ c.if-has_failed.false, c.in-Switched.is) refl)
