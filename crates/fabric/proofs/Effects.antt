-- What an event does to one packet and to the failure.
use Rattle.std.proofs.Common.{◌≡◌, ◌≢◌, ◌++◌, ◌∙◌, ℕ, zero, suc, Bool, true, false, List, [], ◌∷◌, Option, Some, None, Ok, Err, length, slice_get, set, inl, inr, refl, sym, ap, subst, arith}
use Rattle.std.specs.Prelude.{◌↔◌, IsTrue, nat_lt, slice_set}
use Rattle.std.specs.Option.{option_map_or}
use Rattle.std.proofs.lemmas.Bool.{cases_eq, eq-eqb, ne_eqb}
use Rattle.std.proofs.lemmas.Option.{slice_get_past, slice_get_within}
use Rattle.fabric.specs.Answers.{Answered, HasElement, HasEnded, IsAnswer, IsFailAnswer, IsInjectAnswer, IsStepAnswer, MayEnter, NoPacket, fail_answer, inject_answer}
use Rattle.fabric.specs.Course.{handles, makes}
use Rattle.fabric.specs.FabricParts.{FabricParts}
use Rattle.fabric.specs.FabricState.{Answer, FabricState, entering, packet_after, packets_after, state_after}
use Rattle.fabric.specs.Handling.{IsHandled}
use Rattle.fabric.specs.OwnEvents.{Enters, Fails, OwnEvent, Steps, own_event, step_answer}
use Rattle.fabric.specs.declared.event.Event.{Event}
use Rattle.fabric.specs.declared.event.Event.TheVariants.{Fail, Inject, Step}
use Rattle.fabric.specs.declared.event.Failure.{Failure}
use Rattle.fabric.specs.declared.event.Outcome.{Outcome}
use Rattle.fabric.specs.declared.event.Refused.TheVariants as refusals
use Rattle.fabric_script.specs.declared.entry.Entry.{Entry}
use Rattle.fabric.specs.declared.packet.Packet.{Packet}
use Rattle.fabric.specs.declared.packet.State.TheVariants.{Going}
use Rattle.mrt_graph.proofs.ListPlaces.{at_last, set_elsewhere, set_there}

-- what an event and its answer are to packet p
pub record AreTo (p : ℕ) (event : Event) (answer : Answer) (own : List OwnEvent) (answers : List Answer) (made handled : Bool) : Type 0 where
  pub own_is : own_event p event answer ≡ own
  pub answers_is : step_answer p event answer ≡ answers
  pub makes_is : makes p event answer ≡ made
  pub handles_is : handles p event answer ≡ handled

-- packet p and the failure before and after an event
pub data Effect (parts : FabricParts) (p : ℕ) (old new : FabricState) (event : Event) (answer : Answer) : Type 0 where
  Apart : slice_get new.packets p ≡ slice_get old.packets p → new.failure ≡ old.failure
      → AreTo p event answer [] [] false false → Effect parts p old new event answer
  Made : (at to : ℕ) (entry : Entry) → event ≡ Inject at to entry → slice_get old.packets p ≡ None → slice_get new.packets p ≡ Some (entering at to entry)
      → new.failure ≡ old.failure → MayEnter parts.area parts.island at to entry
      → AreTo p event answer (Enters at to entry ∷ []) [] true false → Effect parts p old new event answer
  FailsNow : (failed : Failure) → slice_get new.packets p ≡ slice_get old.packets p → old.failure ≡ None
      → new.failure ≡ Some failed → HasElement parts.area failed
      → AreTo p event answer (Fails failed ∷ []) [] false false → Effect parts p old new event answer
  Handled : (q : Packet) (outcome : Outcome) → slice_get old.packets p ≡ Some q → q.state ≡ Going
      → IsHandled parts old.failure q outcome → slice_get new.packets p ≡ Some (packet_after outcome q)
      → new.failure ≡ old.failure
      → AreTo p event answer (Steps ∷ []) (Ok outcome ∷ []) false true → Effect parts p old new event answer
  AfterEnd : (q : Packet) → slice_get old.packets p ≡ Some q → q.state ≢ Going
      → slice_get new.packets p ≡ slice_get old.packets p → new.failure ≡ old.failure
      → AreTo p event answer (Steps ∷ []) (Err refusals.Ended ∷ []) false false → Effect parts p old new event answer

-- one more packet, at another place
pushed_apart : {X : Type 0} (xs : List X) (y : X) (k : ℕ) → k ≢ length xs → slice_get (xs ++ y ∷ []) k ≡ slice_get xs k
pushed_apart [] y zero other = absurd (other refl)
pushed_apart [] y (suc k) other = refl
pushed_apart (x ∷ xs) y zero other = refl
pushed_apart (x ∷ xs) y (suc k) other = pushed_apart xs y k (λ same. other (omega (arith, same)))

module _ (parts : FabricParts) (p : ℕ) (old : FabricState) where
  -- of a packet that enters
  entered : (at to : ℕ) (entry : Entry) (answer : Answer) → IsInjectAnswer parts.area parts.island old at to entry answer
      → Effect parts p old (state_after old (Inject at to entry) answer) (Inject at to entry) answer
  entered at to entry answer is = rw is.is (go is.may (nat_lt (length old.packets) old.room) is.may_is)
    where
      go : (may room : Bool) → IsTrue may ↔ MayEnter parts.area parts.island at to entry
          → Effect parts p old (state_after old (Inject at to entry) (inject_answer may room (length old.packets))) (Inject at to entry) (inject_answer may room (length old.packets))
      go false room may_is = Apart refl refl (record { own_is = refl; answers_is = refl; makes_is = refl; handles_is = refl })
      go true false may_is = Apart refl refl (record { own_is = refl; answers_is = refl; makes_is = refl; handles_is = refl })
      go true true may_is = elim (cases_eq (length old.packets) p) [
        | inl same ↦
            let none : slice_get old.packets p ≡ None = slice_get_past old.packets p (omega (arith, same)) in
            let there : slice_get (old.packets ++ entering at to entry ∷ []) p ≡ Some (entering at to entry) =
            subst (λ (k : ℕ). slice_get (old.packets ++ entering at to entry ∷ []) k ≡ Some (entering at to entry)) same (at_last old.packets (entering at to entry)) in
            Made at to entry refl none there refl (may_is.0 refl) (record { own_is = rw (eq-eqb (length old.packets) p same) refl; answers_is = refl; makes_is = eq-eqb (length old.packets) p same; handles_is = refl })
        | inr other ↦
            Apart (pushed_apart old.packets (entering at to entry) p (λ same. other (sym same))) refl (record { own_is = rw (ne_eqb (length old.packets) p other) refl; answers_is = refl; makes_is = ne_eqb (length old.packets) p other; handles_is = refl })
      ]

  -- of a failure
  failed_now : (failed : Failure) (answer : Answer) → IsFailAnswer parts.area old.failure failed answer
      → Effect parts p old (state_after old (Fail failed) answer) (Fail failed) answer
  failed_now failed answer is = rw is.is (go is.has old.failure refl is.has_is)
    where
      go : (has : Bool) (before : Option Failure) → old.failure ≡ before → IsTrue has ↔ HasElement parts.area failed
          → Effect parts p old (state_after old (Fail failed) (fail_answer has before)) (Fail failed) (fail_answer has before)
      go false before is has_is = Apart refl refl (record { own_is = refl; answers_is = refl; makes_is = refl; handles_is = refl })
      go true (Some other) is has_is = Apart refl refl (record { own_is = refl; answers_is = refl; makes_is = refl; handles_is = refl })
      go true None is has_is = FailsNow failed refl is refl (has_is.0 refl) (record { own_is = refl; answers_is = refl; makes_is = refl; handles_is = refl })

  -- of a step
  stepped : (number : ℕ) (there : Option Packet) (answer : Answer) → slice_get old.packets number ≡ there → IsStepAnswer parts old.failure there answer
      → Effect parts p old (state_after old (Step number) answer) (Step number) answer
  stepped number there answer is NoPacket = Apart refl refl (record { own_is = refl; answers_is = refl; makes_is = refl; handles_is = refl })
  stepped number there answer is (HasEnded q ended) = elim (cases_eq number p) [
    | inl same ↦ AfterEnd q (subst (λ (k : ℕ). slice_get old.packets k ≡ Some q) same is) ended refl refl (record { own_is = rw (eq-eqb number p same) refl; answers_is = rw (eq-eqb number p same) refl; makes_is = refl; handles_is = refl })
    | inr other ↦ Apart refl refl (record { own_is = rw (ne_eqb number p other) refl; answers_is = rw (ne_eqb number p other) refl; makes_is = refl; handles_is = refl })
  ]
  stepped number there answer is (Answered q outcome going handled) =
      let after : packets_after old.packets number outcome ≡ set old.packets number (packet_after outcome q) =
      ap (λ (o : Option Packet). option_map_or (λ (packet : Packet). slice_set old.packets number (packet_after outcome packet)) o old.packets) is in
      elim (cases_eq number p) [
        | inl same ↦
            let here : slice_get old.packets p ≡ Some q = subst (λ (k : ℕ). slice_get old.packets k ≡ Some q) same is in
            let now : slice_get (packets_after old.packets number outcome) p ≡ Some (packet_after outcome q) =
            ap (λ (xs : List Packet). slice_get xs p) (after ∙ ap (λ (k : ℕ). set old.packets k (packet_after outcome q)) same)
            ∙ set_there old.packets p (packet_after outcome q) (slice_get_within old.packets p q here) in
            Handled q outcome here going handled now refl (record { own_is = rw (eq-eqb number p same) refl; answers_is = rw (eq-eqb number p same) refl; makes_is = refl; handles_is = eq-eqb number p same })
        | inr other ↦
            Apart (ap (λ (xs : List Packet). slice_get xs p) after ∙ set_elsewhere old.packets number p (packet_after outcome q) (λ same. other (sym same))) refl (record { own_is = rw (ne_eqb number p other) refl; answers_is = rw (ne_eqb number p other) refl; makes_is = refl; handles_is = ne_eqb number p other })
      ]

  pub effect : (event : Event) (answer : Answer) → IsAnswer parts old event answer → Effect parts p old (state_after old event answer) event answer
  effect (Inject at to entry) answer is = entered at to entry answer is
  effect (Step number) answer is = stepped number (slice_get old.packets number) answer refl is
  effect (Fail failed) answer is = failed_now failed answer is
