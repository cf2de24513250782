use Rattle.std.proofs.Common.{◌≡◌, ◌∙◌, List, Bool, true, false, Some, arith, length, slice_get, sym, ap, subst}
use Rattle.std.proofs.lemmas.List.{length-replicate, length-set, take_all}
use Rattle.std.proofs.lemmas.Option.{none-some, same_Some, slice_get_read}
use Rattle.fabric_script.specs.declared.event.ScriptEvent.{ScriptEvent}
use Rattle.fabric.specs.Destinations.{AreDestinations}
use Rattle.fabric.proofs.Gathered.{destination_within, known_more, new_more, none_gathered}
use Rattle.fabric.proofs.gathering.destinations.Goals as goal

pub loop-event-init : goal.loop-event-init
loop-event-init c = record {
  one_each = ap length c.in_ok-known.ensures ∙ length-replicate c.count.result false ∙ c.count.ensures.count;
  gathered = rw (c.new-spots.ensures.items, c.in_ok-known.ensures) (none_gathered c.args.area.now c.count.result);
}

pub loop-event-preserved-in_default : goal.loop-event-preserved-in_default
loop-event-preserved-in_default c = record {
  one_each = c.loop-event.invariant.one_each;
  gathered = known_more c.args.area.now c.as_slice-events.result.now _ c.loop-event.event-index c.loop-event-test.true c.loop-event.spots.items
      c.loop-event.known.items c.loop-event.invariant.gathered c.destination.result c.destination.ensures.enters
      (λ t is. absurd (none-some t (sym c.in_default.is ∙ is)));
}

pub loop-event-preserved-then-index : goal.loop-event-preserved-then-index
loop-event-preserved-then-index c =
    let within = c.in-Some.ensures.within in
    let at = c.get-place.ensures.value in
    let known : slice_get c.loop-event.known.items c.get-place.result ≡ Some true =
    slice_get_read c.loop-event.known.items (length c.args.area.now.ids) c.get-place.result _ (sym c.loop-event.invariant.one_each) (omega (arith, within, at)) c.index.ensures
    ∙ ap (λ (b : Bool). Some b) c.if-index.true in
    record {
      one_each = c.loop-event.invariant.one_each;
      gathered = known_more c.args.area.now c.as_slice-events.result.now _ c.loop-event.event-index c.loop-event-test.true c.loop-event.spots.items
          c.loop-event.known.items c.loop-event.invariant.gathered c.destination.result c.destination.ensures.enters
          (λ t is. (c.loop-event.invariant.gathered.marked t).0 (rw (at, same_Some c.in-Some.spot t (sym c.in-Some.is ∙ is)) at known));
    }

pub loop-event-preserved : goal.loop-event-preserved
loop-event-preserved c =
    let within = c.in-Some.ensures.within in
    let at = c.get-place.ensures.value in
    let unknown : slice_get c.loop-event.known.items c.get-place.result ≡ Some false =
    slice_get_read c.loop-event.known.items (length c.args.area.now.ids) c.get-place.result _ (sym c.loop-event.invariant.one_each) (omega (arith, within, at)) c.index.ensures
    ∙ ap (λ (b : Bool). Some b) c.if-index.false in
    record {
      one_each = length-set _ _ _ ∙ c.loop-event.invariant.one_each;
      gathered = new_more c.args.area.now c.as_slice-events.result.now _ c.loop-event.event-index c.loop-event-test.true c.loop-event.spots.items
          c.loop-event.known.items c.loop-event.invariant.gathered c.destination.result c.destination.ensures.enters c.in-Some.spot c.get-place.result
          c.push.new.self.items c.in-Some.is unknown at c.in_ok-push.ensures.items;
    }

pub returns-clause-within : goal.returns-clause-within
returns-clause-within c = λ t among. destination_within c.args.area.now _ t ((c.loop-event.invariant.gathered.are.all t).0 among)

pub returns-clause-are : goal.returns-clause-are
returns-clause-are c =
    subst (λ (events : List ScriptEvent). AreDestinations c.args.area.now events c.loop-event.spots.items)
    (take_all c.loop-event.event-index c.as_slice-events.result.now c.loop-event-test.false ∙ c.as_slice-events.ensures)
    c.loop-event.invariant.gathered.are
