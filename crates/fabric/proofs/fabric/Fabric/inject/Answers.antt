use Rattle.std.proofs.Common.{◌≡◌, ◌<◌, ◌∙◌, ◌++◌, [], ◌∷◌, length, refl, arith}
use Rattle.std.proofs.lemmas.Bool.{le-ltb}
use Rattle.fabric.specs.Served.{IsServedBy}
use Rattle.fabric.specs.steps.Viewed.{viewed}
use Rattle.fabric.proofs.EachDestination.{each_entered}
use Rattle.fabric.proofs.KeptStates.{kept_entered, step_entered}
use Rattle.fabric.proofs.fabric.Fabric.inject.Goals as goal

pub returns-then-not-may_enter-clause-step : goal.returns-then-not-may_enter-clause-step
returns-then-not-may_enter-clause-step g c =
    rw (← c.self.view_is) (record {
      answers = record { may = c.may_enter.result; may_is = c.may_enter.ensures; is = rw c.if-not-may_enter.true refl };
      after = refl;
    })

pub returns-then-number-self-clause-step : goal.returns-then-number-self-clause-step
returns-then-number-self-clause-step g c =
    let full = c.if-number-self.true in
    let count = c.len-number.ensures in
    let whole = c.self.inside.packets.ok.0 in
    rw (← c.self.view_is) (record {
      answers = record { may = c.may_enter.result; may_is = c.may_enter.ensures; is = rw (c.if-not-may_enter.false, le-ltb (length c.self.inside.packets.items) c.self.inside.room (omega (arith, full, count, whole))) refl };
      after = refl;
    })

pub invariant_of-self : goal.invariant_of-self
invariant_of-self g c =
    let less = c.if-number-self.false in
    let count = c.len-number.ensures in
    let whole = c.self.inside.packets.ok.0 in
    let items : c.push.new.self.items ≡ c.self.inside.packets.items ++ c.entering.result ∷ [] = rw c.unwrap.ensures at c.push.ensures.items in
    let cap = c.push.ensures.capacity in
    let small : length c.self.inside.packets.items < c.self.inside.room = omega (arith, less, count, whole) in
    let kept = c.self.invariant.3 in (
      c.self.invariant.0,
      c.self.invariant.1,
      rw (items, c.entering.ensures) (kept_entered (viewed g.R.RowsOf.rows c.self.inside.parts) c.self.invariant.0 c.self.inside.packets.items c.self.inside.failure c.self.inside.room c.self.invariant.2
          c.args.at c.args.to c.args.entry (c.may_enter.ensures.0 c.if-not-may_enter.false) small),
      omega (arith, cap, kept),
      rw (items, c.entering.ensures) (each_entered (IsServedBy (viewed g.R.RowsOf.rows c.self.inside.parts) c.self.inside.parts.routes.now) c.self.inside.packets.items c.self.invariant.4
          c.args.at c.args.to c.args.entry (rw (← c.self.view_is) at c.requires)),
    )

pub returns-clause-step : goal.returns-clause-step
returns-clause-step g c =
    let less = c.if-number-self.false in
    let count = c.len-number.ensures in
    let whole = c.self.inside.packets.ok.0 in
    let items : c.push.new.self.items ≡ c.self.inside.packets.items ++ c.entering.result ∷ [] = rw c.unwrap.ensures at c.push.ensures.items in
    let small : length c.self.inside.packets.items < c.self.inside.room = omega (arith, less, count, whole) in
    rw (← c.self.view_is) (step_entered (viewed g.R.RowsOf.rows c.self.inside.parts) c.self.invariant.0 c.self.inside.packets.items c.self.inside.failure c.self.inside.room c.self.invariant.2
    c.args.at c.args.to _ c.args.entry c.push.new.self.items (c.may_enter.ensures.0 c.if-not-may_enter.false) small (c.new.ensures ∙ count ∙ whole) (rw c.entering.ensures at items))
