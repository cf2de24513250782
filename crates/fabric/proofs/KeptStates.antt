-- What a fabric keeps, event by event.
use Rattle.std.proofs.Common.{◌≡◌, ◌<◌, ◌++◌, ℕ, true, List, [], ◌∷◌, Option, Some, Ok, length, slice_get, refl, arith}
use Rattle.std.specs.Prelude.{slice_set}
use Rattle.std.proofs.lemmas.Bool.{lt-ltb}
use Rattle.std.proofs.lemmas.List.{length-append, length-set}
use Rattle.std.proofs.lemmas.Option.{slice_get_within}
use Rattle.fabric.specs.Answers.{MayEnter}
use Rattle.fabric.specs.FabricParts.{ArePartsKept, AreRowsFor, FabricParts}
use Rattle.fabric.specs.FabricState.{entering, packet_after, state_of}
use Rattle.fabric.specs.Runs.{FabricStep}
use Rattle.fabric.specs.Handling.{IsHandled}
use Rattle.fabric.specs.steps.KeptState.{IsKeptPacket, IsKeptState}
use Rattle.fabric.specs.declared.event.Event.TheVariants.{Inject}
use Rattle.fabric.specs.declared.event.Failure.{Failure}
use Rattle.fabric.specs.declared.event.Outcome.{Outcome}
use Rattle.fabric.specs.declared.event.Outcome.TheVariants as outcomes
use Rattle.fabric_script.specs.declared.entry.Entry.{Entry}
use Rattle.fabric.specs.declared.packet.Packet.{Packet}
use Rattle.fabric.specs.declared.packet.State.TheVariants as states
use Rattle.fabric.proofs.EachDestination.{each_pushed, each_set}
use Rattle.fabric.proofs.LifeSteps.{entering_kept}
use Rattle.fabric.proofs.PacketChains.{kept_next, next_of}

module _ (parts : FabricParts) (are : ArePartsKept parts) (packets : List Packet) (failure : Option Failure) (room : ℕ) (kept : IsKeptState parts (state_of packets failure room)) where
  pub kept_entered : (at to : ℕ) (entry : Entry) → MayEnter parts.area parts.island at to entry → length packets < room → IsKeptState parts (state_of (packets ++ entering at to entry ∷ []) failure room)
  kept_entered at to entry may less = record {
    packets = each_pushed (IsKeptPacket parts) packets kept.packets (entering at to entry) (entering_kept parts are at to entry may);
    failure = kept.failure;
    few = omega (arith, less, length-append packets (entering at to entry ∷ []));
  }

  pub kept_handled : (p : ℕ) (q : Packet) (outcome : Outcome) → AreRowsFor parts q.to → slice_get packets p ≡ Some q → q.state ≡ states.Going → IsHandled parts failure q outcome
      → IsKeptState parts (state_of (slice_set packets p (packet_after outcome q)) failure room)
  kept_handled p q outcome rows there going handled = record {
    packets = each_set (IsKeptPacket parts) packets kept.packets p (packet_after outcome q) (slice_get_within packets p q there)
        (kept_next parts are q (packet_after outcome q) rows (kept.packets p q there) going (next_of parts failure q outcome handled));
    failure = kept.failure;
    few = let few = kept.few in omega (arith, few, length-set packets p (packet_after outcome q));
  }

  -- a packet that enters
  pub step_entered : (at to number : ℕ) (entry : Entry) (items : List Packet) → MayEnter parts.area parts.island at to entry → length packets < room → number ≡ length packets
      → items ≡ packets ++ entering at to entry ∷ []
      → FabricStep parts (state_of packets failure room) (Inject at to entry) (Ok (outcomes.Entered number)) (state_of items failure room)
  step_entered at to number entry items may less number_is items_is =
      rw (number_is, items_is) (record { answers = record { may = true; may_is = (λ holds. may, λ may. refl); is = rw (lt-ltb (length packets) room less) refl }; after = refl })
