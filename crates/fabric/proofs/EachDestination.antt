-- What holds of the destination of each packet goes on to hold.
use Rattle.std.proofs.Common.{◌≡◌, ◌<◌, ◌++◌, ◌∙◌, ℕ, List, [], ◌∷◌, Option, Some, None, Ok, Err, length, set, slice_get, inl, inr, refl, sym, subst}
use Rattle.std.specs.Prelude.{slice_set}
use Rattle.std.specs.Option.{option_map_or}
use Rattle.std.proofs.lemmas.Bool.{cases_eq}
use Rattle.std.proofs.lemmas.Option.{same_Some, slice_get_within}
use Rattle.fabric.specs.FabricState.{Answer, FabricState, entering, packet_after, packets_after, state_after}
use Rattle.fabric.specs.declared.event.Event.{Event}
use Rattle.fabric.specs.declared.event.Event.TheVariants.{Fail, Inject, Step}
use Rattle.fabric.specs.declared.event.Outcome.{Outcome}
use Rattle.fabric.specs.declared.event.Outcome.TheVariants as outcomes
use Rattle.fabric_script.specs.declared.entry.Entry.{Entry}
use Rattle.fabric.specs.declared.packet.Packet.{Packet}
use Rattle.mrt_graph.proofs.ListPlaces.{pushed_at, set_elsewhere, set_there}

-- what holds of each item goes on to hold of each, where it holds of one that is put last, or in place of another
module _ {X : Type 0} (P : X → Type 0) (xs : List X) (each : (p : ℕ) (x : X) → slice_get xs p ≡ Some x → P x) where
  pub each_pushed : (y : X) → P y → (p : ℕ) (x : X) → slice_get (xs ++ y ∷ []) p ≡ Some x → P x
  each_pushed y new p x there = elim (pushed_at xs y x p there) [ inl before ↦ each p x before | inr last ↦ subst P last.1 new ]

  pub each_set : (k : ℕ) (y : X) → k < length xs → P y → (p : ℕ) (x : X) → slice_get (set xs k y) p ≡ Some x → P x
  each_set k y within new p x there = elim (cases_eq p k) [
    | inl here ↦ subst P (same_Some y x (sym (set_there xs k y within) ∙ (rw here at there))) new
    | inr other ↦ each p x (sym (set_elsewhere xs k p y other) ∙ there)
  ]

-- it holds of the destination of each of the packets
abbrev pub EachTo : (ℕ → Type 0) → List Packet → Type 0
EachTo P packets = (p : ℕ) (packet : Packet) → slice_get packets p ≡ Some packet → P packet.to

-- no outcome changes a destination
pub to_stays : (outcome : Outcome) (q : Packet) → (packet_after outcome q).to ≡ q.to
to_stays (outcomes.Moved x) q = refl
to_stays (outcomes.Delivered x) q = refl
to_stays (outcomes.Switched color) q = refl
to_stays (outcomes.Lost loss) q = refl
to_stays (outcomes.Entered number) q = refl
to_stays outcomes.Failed q = refl

module _ (P : ℕ → Type 0) (packets : List Packet) (each : EachTo P packets) where
  pub each_entered : (at to : ℕ) (entry : Entry) → P to → EachTo P (packets ++ entering at to entry ∷ [])
  each_entered at to entry new = each_pushed (λ (q : Packet). P q.to) packets each (entering at to entry) new

  pub each_handled : (k : ℕ) (q : Packet) (outcome : Outcome) → slice_get packets k ≡ Some q
      → EachTo P (slice_set packets k (packet_after outcome q))
  each_handled k q outcome at =
      each_set (λ (x : Packet). P x.to) packets each k (packet_after outcome q) (slice_get_within packets k q at) (subst P (sym (to_stays outcome q)) (each k q at))

  each_stepped : (k : ℕ) (outcome : Outcome) → EachTo P (packets_after packets k outcome)
  each_stepped k outcome = go (slice_get packets k) refl
    where
      go : (o : Option Packet) → slice_get packets k ≡ o
          → EachTo P (option_map_or (λ packet. slice_set packets k (packet_after outcome packet)) o packets)
      go None at = each
      go (Some q) at = each_handled k q outcome at

-- after an event, where it holds of the destination of a packet that enters
pub each_after : (P : ℕ → Type 0) (state : FabricState) (event : Event) (answer : Answer)
    → ((at to : ℕ) (entry : Entry) → event ≡ Inject at to entry → P to) → EachTo P state.packets
    → EachTo P (state_after state event answer).packets
each_after P state event (Err refused) enters each = each
each_after P state (Inject at to entry) (Ok outcome) enters each = each_entered P state.packets each at to entry (enters at to entry refl)
each_after P state (Step k) (Ok outcome) enters each = each_stepped P state.packets each k outcome
each_after P state (Fail failed) (Ok outcome) enters each = each
