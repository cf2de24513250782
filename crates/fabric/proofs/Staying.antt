-- What an event leaves as it was.
use Rattle.std.proofs.Common.{◌≡◌, ◌≢◌, ℕ, List, [], ◌∷◌, Option, Some, None, Ok, Err, slice_get, refl, ap}
use Rattle.fabric.specs.FabricParts.{FabricParts}
use Rattle.fabric.specs.FabricState.{Answer, FabricState, entering, packet_after, packets_after, state_after}
use Rattle.fabric.specs.Runs.{FabricStep}
use Rattle.fabric.specs.declared.event.Event.{Event}
use Rattle.fabric.specs.declared.event.Event.TheVariants.{Fail, Inject, Step}
use Rattle.fabric.specs.declared.event.Failure.{Failure}
use Rattle.fabric.specs.declared.event.Outcome.{Outcome}
use Rattle.fabric.specs.declared.event.Refused.{Refused}
use Rattle.fabric_script.specs.declared.entry.Entry.{Entry}
use Rattle.fabric.specs.declared.packet.Packet.{Packet}
use Rattle.mrt_graph.proofs.ListPlaces.{at_left, set_elsewhere}

pub refused_stay : (parts : FabricParts) (old new : FabricState) (event : Event) (refused : Refused) → FabricStep parts old event (Err refused) new → new ≡ old
refused_stay parts old new event refused step = step.after

others_of : (packets : List Packet) (p q : ℕ) (outcome : Outcome) (there : Option Packet) → slice_get packets p ≡ there → q ≢ p
    → slice_get (packets_after packets p outcome) q ≡ slice_get packets q
others_of packets p q outcome None is other = rw is refl
others_of packets p q outcome (Some packet) is other = rw is (set_elsewhere packets p q (packet_after outcome packet) other)

pub steps_stay : (parts : FabricParts) (old new : FabricState) (p : ℕ) (answer : Answer) → FabricStep parts old (Step p) answer new
    → (new.failure ≡ old.failure) × ((q : ℕ) → q ≢ p → slice_get new.packets q ≡ slice_get old.packets q)
steps_stay parts old new p answer step = rw step.after (go answer)
  where
    go : (a : Answer) → ((state_after old (Step p) a).failure ≡ old.failure) × ((q : ℕ) → q ≢ p → slice_get (state_after old (Step p) a).packets q ≡ slice_get old.packets q)
    go (Err refused) = (refl, λ q other. refl)
    go (Ok outcome) = (refl, λ q other. others_of old.packets p q outcome (slice_get old.packets p) refl other)

pub injects_stay : (parts : FabricParts) (old new : FabricState) (at to : ℕ) (entry : Entry) (answer : Answer) → FabricStep parts old (Inject at to entry) answer new
    → (new.failure ≡ old.failure) × ((q : ℕ) (packet : Packet) → slice_get old.packets q ≡ Some packet → slice_get new.packets q ≡ Some packet)
injects_stay parts old new at to entry answer step = rw step.after (go answer)
  where
    go : (a : Answer) → ((state_after old (Inject at to entry) a).failure ≡ old.failure)
        × ((q : ℕ) (packet : Packet) → slice_get old.packets q ≡ Some packet → slice_get (state_after old (Inject at to entry) a).packets q ≡ Some packet)
    go (Err refused) = (refl, λ q packet there. there)
    go (Ok outcome) = (refl, λ q packet there. at_left old.packets (entering at to entry ∷ []) q packet there)

pub packets_stay : (parts : FabricParts) (old new : FabricState) (failed : Failure) (answer : Answer) → FabricStep parts old (Fail failed) answer new → new.packets ≡ old.packets
packets_stay parts old new failed (Err refused) step = ap (λ (s : FabricState). s.packets) step.after
packets_stay parts old new failed (Ok outcome) step = ap (λ (s : FabricState). s.packets) step.after
