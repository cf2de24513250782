-- What concerns a packet decides the answers to its steps.
use Rattle.std.proofs.Common.{◌≡◌, ◌∙◌, ℕ, List, [], ◌∷◌, Option, Some, None, Ok, Err, slice_get, refl, sym, ap, subst}
use Rattle.std.proofs.lemmas.Option.{same_Some}
use Rattle.fabric.specs.Answers.{Answered, HasEnded, IsStepAnswer}
use Rattle.fabric.specs.FabricParts.{ArePartsKept, FabricParts}
use Rattle.fabric.specs.FabricState.{Answer, FabricState, entering, packet_after, start, state_after}
use Rattle.fabric.specs.OwnEvents.{Enters, Fails, OwnEvent, Steps, own_events, step_answers}
use Rattle.fabric.specs.Runs.{IsRun}
use Rattle.fabric.specs.declared.event.Event.{Event}
use Rattle.fabric.specs.declared.event.Failure.{Failure}
use Rattle.fabric.specs.declared.packet.Packet.{Packet}
use Rattle.fabric.proofs.Effects.{AfterEnd, Apart, Effect, FailsNow, Handled, Made, effect}
use Rattle.fabric.proofs.OneOutcome.{one_step_answer}

-- a packet after the answer to a step of it
abbrev answered : Answer → Packet → Packet
answered (Ok outcome) q = packet_after outcome q
answered (Err refused) q = q

-- what concerns one packet, from a failure and a packet on, with the answers to its steps
abbrev OwnRun : FabricParts → Option Failure → Option Packet → List OwnEvent → List Answer → Type 0
OwnRun parts failure there [] answers = answers ≡ []
OwnRun parts failure there (Enters at to entry ∷ events) answers = OwnRun parts failure (Some (entering at to entry)) events answers
OwnRun parts failure there (Fails failed ∷ events) answers = OwnRun parts (Some failed) there events answers
OwnRun parts failure there (Steps ∷ events) answers =
    (q : Packet) × (there ≡ Some q) × ((answer : Answer) × ((rest : List Answer) × (answers ≡ answer ∷ rest) × IsStepAnswer parts failure (Some q) answer
    × OwnRun parts failure (Some (answered answer q)) events rest))

module _ (parts : FabricParts) (are : ArePartsKept parts) where
  one_own_run : (events : List OwnEvent) (failure : Option Failure) (there : Option Packet) (answers others : List Answer) → OwnRun parts failure there events answers
      → OwnRun parts failure there events others → answers ≡ others
  one_own_run [] failure there answers others one other = one ∙ sym other
  one_own_run (Enters at to entry ∷ events) failure there answers others one other = one_own_run events failure (Some (entering at to entry)) answers others one other
  one_own_run (Fails failed ∷ events) failure there answers others one other = one_own_run events (Some failed) there answers others one other
  one_own_run (Steps ∷ events) failure there answers others one other =
      let here : one.0 ≡ other.0 = same_Some _ _ (sym one.1 ∙ other.1) in
      let a = one.2.0 in
      let b = other.2.0 in
      let same : a ≡ b = one_step_answer parts are failure (Some other.0) a b (subst (λ (q : Packet). IsStepAnswer parts failure (Some q) a) here one.2.1.2) other.2.1.2 in
      let on : OwnRun parts failure (Some (answered b other.0)) events one.2.1.0 =
      subst (λ (x : Answer). OwnRun parts failure (Some (answered x other.0)) events one.2.1.0) same
      (subst (λ (q : Packet). OwnRun parts failure (Some (answered a q)) events one.2.1.0) here one.2.1.3) in
      let rest : one.2.1.0 ≡ other.2.1.0 = one_own_run events failure (Some (answered b other.0)) one.2.1.0 other.2.1.0 on other.2.1.3 in
      one.2.1.1 ∙ ap (λ (x : Answer). x ∷ one.2.1.0) same ∙ ap (λ (xs : List Answer). b ∷ xs) rest ∙ sym other.2.1.1

  module _ (p : ℕ) where
    own_run : (events : List Event) (answers : List Answer) (old new : FabricState) → IsRun parts old events answers new
        → OwnRun parts old.failure (slice_get old.packets p) (own_events p events answers) (step_answers p events answers)
    own_run [] [] old new run = refl
    own_run [] (answer ∷ answers) old new run = absurd run
    own_run (event ∷ events) [] old new run = absurd run
    own_run (event ∷ events) (answer ∷ answers) old new run =
        go (effect parts p old event answer run.1.answers)
        (own_run events answers (state_after old event answer) new (subst (λ (s : FabricState). IsRun parts s events answers new) run.1.after run.2))
      where
        go : Effect parts p old (state_after old event answer) event answer
            → OwnRun parts (state_after old event answer).failure (slice_get (state_after old event answer).packets p) (own_events p events answers) (step_answers p events answers)
            → OwnRun parts old.failure (slice_get old.packets p) (own_events p (event ∷ events) (answer ∷ answers)) (step_answers p (event ∷ events) (answer ∷ answers))
        go (Apart same failure to) rest = rw (to.own_is, to.answers_is) (rw (failure, same) at rest)
        go (Made at t entry is none now failure may to) rest = rw (to.own_is, to.answers_is) (rw (failure, now) at rest)
        go (FailsNow failed same none kept element to) rest = rw (to.own_is, to.answers_is) (rw (kept, same) at rest)
        go (Handled q outcome there going handled now failure to) rest =
            rw (to.own_is, to.answers_is) (q, there, (Ok outcome, (step_answers p events answers, refl, Answered q outcome going handled, rw (failure, now) at rest)))
        go (AfterEnd q there ended same failure to) rest =
            rw (to.own_is, to.answers_is) (q, there, (_, (step_answers p events answers, refl, HasEnded q ended, rw (failure, same, there) at rest)))

pub same_answers : (parts : FabricParts) → ArePartsKept parts → (room : ℕ) (events : List Event) (answers : List Answer) (end : FabricState) → IsRun parts (start room) events answers end
    → (other : ℕ) (events' : List Event) (answers' : List Answer) (end' : FabricState) → IsRun parts (start other) events' answers' end'
    → (p q : ℕ) → own_events p events answers ≡ own_events q events' answers' → step_answers p events answers ≡ step_answers q events' answers'
same_answers parts are room events answers end run other events' answers' end' run' p q same =
    one_own_run parts are (own_events q events' answers') None None (step_answers p events answers) (step_answers q events' answers')
    (subst (λ (xs : List OwnEvent). OwnRun parts None None xs (step_answers p events answers)) same (own_run parts are p events answers (start room) end run))
    (own_run parts are q events' answers' (start other) end' run')
