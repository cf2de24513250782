use Rattle.std.proofs.Common.{Ok, ◌≡◌, ◌∙◌, Some, None, slice_get, refl, sym, subst}
use Rattle.std.proofs.lemmas.Option.{get_or_from_slice_get}
use Rattle.fabric.specs.Answers.{Answered, HasEnded, NoPacket}
use Rattle.fabric.specs.OutcomeText.{IsTellable}
use Rattle.fabric.specs.Served.{IsServedBy}
use Rattle.fabric.specs.Viewed.{FabricSeen}
use Rattle.fabric.specs.steps.Viewed.{viewed}
use Rattle.fabric.proofs.EachDestination.{each_handled}
use Rattle.fabric.proofs.KeptStates.{kept_handled}
use Rattle.fabric.proofs.PacketChains.{outcome_tellable}
use Rattle.fabric.proofs.fabric.Fabric.step.Goals as goal

pub returns-in_default-clause-step : goal.returns-in_default-clause-step
returns-in_default-clause-step g c =
    let none : slice_get c.self.inside.packets.items c.args.p ≡ None = sym (rw c.deref.ensures.value at c.packet_of.ensures) ∙ c.in_default.is in
    rw (← c.self.view_is) (record { answers = rw none NoPacket; after = refl })

pub returns-in_default-state : goal.returns-in_default-state
returns-in_default-state g c =
    let there : slice_get c.self.inside.packets.items c.args.p ≡ Some c.in-Some.packet = sym (rw c.deref.ensures.value at c.packet_of.ensures) ∙ c.in-Some.is in
    record { step = rw (← c.self.view_is) (record { answers = rw there (HasEnded c.in-Some.packet c.in_default-state.not-Going); after = refl }); tables = refl; told = tt }

pub handled-outcome-requires-clause-packet : goal.handled-outcome-requires-clause-packet
handled-outcome-requires-clause-packet g c =
    c.self.invariant.2.packets c.args.p c.in-Some.packet (sym (rw c.deref.ensures.value at c.packet_of.ensures) ∙ c.in-Some.is)

pub handled-outcome-requires-clause-served : goal.handled-outcome-requires-clause-served
handled-outcome-requires-clause-served g c =
    c.self.invariant.4 c.args.p c.in-Some.packet (sym (rw c.deref.ensures.value at c.packet_of.ensures) ∙ c.in-Some.is)

pub invariant_of-self : goal.invariant_of-self
invariant_of-self g c =
    let there : slice_get c.self.inside.packets.items c.args.p ≡ Some c.in-Some.packet = sym (rw c.deref.ensures.value at c.packet_of.ensures) ∙ c.in-Some.is in
    let same : c.index_mut.result.now ≡ c.in-Some.packet = (rw c.get-place.ensures.value at c.index_mut.ensures.value) ∙ get_or_from_slice_get c.self.inside.packets.items c.args.p c.in-Some.packet c.index_mut.result.now there in (
      c.self.invariant.0,
      c.self.invariant.1,
      rw (c.change.ensures, same, c.get-place.ensures.value) (kept_handled (viewed g.R.RowsOf.rows c.self.inside.parts) c.self.invariant.0 c.self.inside.packets.items c.self.inside.failure c.self.inside.room
          c.self.invariant.2 c.args.p c.in-Some.packet c.handled-outcome.result (c.self.invariant.4 c.args.p c.in-Some.packet there).rows there c.in-Going.is c.handled-outcome.ensures),
      c.self.invariant.3,
      rw (c.change.ensures, same, c.get-place.ensures.value) (each_handled (IsServedBy (viewed g.R.RowsOf.rows c.self.inside.parts) c.self.inside.parts.routes.now) c.self.inside.packets.items c.self.invariant.4
          c.args.p c.in-Some.packet c.handled-outcome.result there),
    )

pub returns-clause-step : goal.returns-clause-step
returns-clause-step g c =
    let there : slice_get c.self.inside.packets.items c.args.p ≡ Some c.in-Some.packet = sym (rw c.deref.ensures.value at c.packet_of.ensures) ∙ c.in-Some.is in
    let same : c.index_mut.result.now ≡ c.in-Some.packet = (rw c.get-place.ensures.value at c.index_mut.ensures.value) ∙ get_or_from_slice_get c.self.inside.packets.items c.args.p c.in-Some.packet c.index_mut.result.now there in
    rw (← c.self.view_is, c.get-place.ensures.value, c.change.ensures, same)
    (record { answers = rw there (Answered c.in-Some.packet c.handled-outcome.result c.in-Going.is c.handled-outcome.ensures); after = rw there refl })

pub returns-clause-told : goal.returns-clause-told
returns-clause-told g c =
    let there : slice_get c.self.inside.packets.items c.args.p ≡ Some c.in-Some.packet = sym (rw c.deref.ensures.value at c.packet_of.ensures) ∙ c.in-Some.is in
    subst (λ (seen : FabricSeen g.row.R.Denot). IsTellable seen.tables.area.ids (Ok c.handled-outcome.result)) c.self.view_is
    (outcome_tellable (viewed g.R.RowsOf.rows c.self.inside.parts) c.self.invariant.0 c.self.inside.failure c.in-Some.packet (c.self.invariant.4 c.args.p c.in-Some.packet there).rows
    (c.self.invariant.2.packets c.args.p c.in-Some.packet there) c.in-Going.is c.handled-outcome.result c.handled-outcome.ensures)
