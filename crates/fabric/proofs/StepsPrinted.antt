-- Packet 0 has its steps until it has ended.
use Rattle.std.proofs.Common.{◌≡◌, ◌∙◌, ◌++◌, ◌+◌, ◌<◌, ◌≤◌, ◌-◌, ◌*◌, ℕ, List, [], ◌∷◌, Option, Some, None, ap, arith, length, refl, replicate, slice_get, subst, sym, inl, inr}
use Rattle.std.specs.Prelude.{Ok}
use Rattle.std.proofs.lemmas.Bool.{cases_lt}
use Rattle.std.proofs.lemmas.List.{replicate_more}
use Rattle.std.proofs.lemmas.Option.{none-some}
use Rattle.fabric.specs.declared.event.Event.{Event}
use Rattle.fabric.specs.declared.event.Event.TheVariants.{Step}
use Rattle.fabric.specs.declared.event.Failure.{Failure}
use Rattle.fabric.specs.declared.event.Outcome.{Outcome}
use Rattle.fabric.specs.declared.packet.Packet.{Packet}
use Rattle.fabric.specs.declared.packet.State.{State}
use Rattle.fabric.specs.declared.packet.State.TheVariants.{Delivered, Going, Lost}
use Rattle.fabric.specs.Answers.{Answered, HasEnded as HasEndedBefore, IsStepAnswer}
use Rattle.fabric.specs.Course.{steps_of}
use Rattle.fabric.specs.FabricParts.{ArePartsKept, AreRowsFor, FabricParts}
use Rattle.fabric.specs.FabricState.{Answer, FabricState, start}
use Rattle.fabric.specs.Runs.{IsRun}
use Rattle.fabric.specs.Served.{AreRowsOn}
use Rattle.fabric.specs.steps.Printed.{HasLines, IsSteppedOn, IsPrinted}
use Rattle.fabric.specs.Trace.{HasEnded, IsGoingAfter}
use Rattle.fabric.specs.steps.Unstepped.{IsUnstepped}
use Rattle.fabric.proofs.Entered.{then_steps_entered}
use Rattle.fabric.proofs.RunsOn.{lines_on, one_step_more, run_on}

-- so many steps since the old state, with their lines
pub record HasStepped (parts : FabricParts) (old new : FabricState) (count : ℕ) (before after : List ℕ) : Type 0 where
  pub own : List Answer
  pub own_run : IsRun parts old (replicate count (Step 0)) own new
  pub not_before : (fewer : ℕ) → fewer < count → IsGoingAfter parts old (replicate fewer (Step 0))
  pub lines : HasLines parts own before after
  pub events : List Event
  pub answers : List Answer
  pub run : IsRun parts (start 1) events answers new
  pub steps : steps_of 0 events answers ≡ count
  pub rows : AreRowsOn parts events

pub no_steps : (parts : FabricParts) (state : FabricState) (text : List ℕ) → IsUnstepped parts state
    → HasStepped parts state state 0 text text
no_steps parts state text unstepped = record {
  own = [];
  own_run = refl;
  not_before = λ fewer less. absurd (omega (arith, less));
  lines = refl;
  events = unstepped.events;
  answers = unstepped.answers;
  run = unstepped.run;
  steps = unstepped.none;
  rows = unstepped.rows;
}

-- packet 0 is going
pub record IsGoing (state : FabricState) : Type 0 where
  pub packet : Packet
  pub there : slice_get state.packets 0 ≡ Some packet
  pub going : packet.state ≡ Going

pub going : (state : FabricState) → (HasEnded state → ⊥) → IsGoing state
going state unended = by (slice_get state.packets 0) refl
  where
    stands : (packet : Packet) (in_state : State) → slice_get state.packets 0 ≡ Some packet → packet.state ≡ in_state → IsGoing state
    stands packet Going there is = record { packet = packet; there = there; going = is }
    stands packet Delivered there is = absurd (unended (λ other there' going. cc))
    stands packet (Lost loss) there is = absurd (unended (λ other there' going. cc))

    by : (place : Option Packet) → slice_get state.packets 0 ≡ place → IsGoing state
    by None there = absurd (unended (λ packet there'. absurd (none-some packet (sym there ∙ there'))))
    by (Some packet) there = stands packet packet.state there refl

-- a step of a packet that is going is answered
record IsAnswered (answer : Answer) : Type 0 where
  outcome : Outcome
  is : answer ≡ Ok outcome

answered : (parts : FabricParts) (failure : Option Failure) (packet : Packet) (answer : Answer) → packet.state ≡ Going → IsStepAnswer parts failure (Some packet) answer → IsAnswered answer
answered parts failure packet answer goes (HasEndedBefore _ ended) = absurd (ended goes)
answered parts failure packet answer goes (Answered _ outcome going handled) = record { outcome = outcome; is = refl }

-- one step more
step_taken : (parts : FabricParts) (old mid new : FabricState) (count : ℕ) (before between after : List ℕ)
    → HasStepped parts old mid count before between → IsGoing mid → (answers : List Answer)
    → IsRun parts mid (Step 0 ∷ []) answers new → HasLines parts answers between after
    → HasStepped parts old new (count + 1) before after
step_taken parts old mid new count before between after so_far goes [] run lines = absurd run
step_taken parts old mid new count before between after so_far goes (answer ∷ []) run lines =
    let step = run.1 in
    let own = answered parts mid.failure goes.packet answer goes.going (rw goes.there at step.answers) in
    record {
      own = so_far.own ++ answer ∷ [];
      own_run = subst (λ (events : List Event). IsRun parts old events (so_far.own ++ answer ∷ []) new) (replicate_more count (Step 0))
          (run_on parts old mid new (replicate count (Step 0)) (Step 0 ∷ []) so_far.own (answer ∷ []) so_far.own_run run);
      not_before = λ fewer less. elim (cases_lt fewer count) [
        | inl before ↦ so_far.not_before fewer before
        | inr here ↦
            let same : count ≡ fewer = omega (arith, less, here) in
            subst (λ (n : ℕ). IsGoingAfter parts old (replicate n (Step 0))) same (record {
              answers = so_far.own;
              state = mid;
              run = so_far.own_run;
              going = λ ended. ended goes.packet goes.there goes.going;
            })
      ];
      lines = lines_on parts so_far.own (answer ∷ []) before between after so_far.lines lines;
      events = so_far.events ++ Step 0 ∷ [];
      answers = so_far.answers ++ answer ∷ [];
      run = run_on parts (start 1) mid new so_far.events (Step 0 ∷ []) so_far.answers (answer ∷ []) so_far.run run;
      steps = ap (λ (a : Answer). steps_of 0 (so_far.events ++ Step 0 ∷ []) (so_far.answers ++ a ∷ [])) own.is
          ∙ one_step_more own.outcome so_far.events so_far.answers parts (start 1) mid so_far.run
          ∙ ap (λ (n : ℕ). n + 1) so_far.steps;
      rows = then_steps_entered (AreRowsFor parts) so_far.events 1 so_far.rows;
    }
step_taken parts old mid new count before between after so_far goes (answer ∷ other ∷ more) run lines = absurd run.2

pub one_more : (parts : FabricParts) (old mid new : FabricState) (count : ℕ) (before between after : List ℕ)
    → HasStepped parts old mid count before between → (HasEnded mid → ⊥) → IsPrinted parts mid (Step 0 ∷ []) new between after
    → HasStepped parts old new (count + 1) before after
one_more parts old mid new count before between after so_far unended told =
    step_taken parts old mid new count before between after so_far (going mid unended) told.answers told.run told.lines

-- it has ended
pub stepped : (parts : FabricParts) (old new : FabricState) (count : ℕ) (before after : List ℕ)
    → HasStepped parts old new count before after → HasEnded new → IsSteppedOn parts old before after
stepped parts old new count before after so_far ended = record {
  answers = so_far.own;
  steps = record { count = count; end = new; run = so_far.own_run; ended = ended; not_before = so_far.not_before };
  lines = so_far.lines;
}

-- the law of the layer below on packets that are going
abbrev pub GoingLaw : Type 0
GoingLaw = (parts : FabricParts) → ArePartsKept parts → (room : ℕ) (events : List Event) (answers : List Answer)
    (end : FabricState) → AreRowsOn parts events → IsRun parts (start room) events answers end → (p : ℕ) (packet : Packet)
    → slice_get end.packets p ≡ Some packet → packet.state ≡ Going
    → steps_of p events answers < 2 * (length parts.area.ids - 1)

-- after twice as many steps as there are nodes it has ended
pub ended_at_last : GoingLaw → (parts : FabricParts) → ArePartsKept parts → (old new : FabricState) (count : ℕ)
    (before after : List ℕ) → HasStepped parts old new count before after → 2 * length parts.area.ids ≤ count → HasEnded new
ended_at_last law parts kept old new count before after so_far many = λ packet there goes.
    let few = law parts kept 1 so_far.events so_far.answers new so_far.rows so_far.run 0 packet there goes in
    absurd (omega (arith, few, so_far.steps, many))
