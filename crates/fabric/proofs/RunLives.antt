-- The life of a packet in a run of events.
use Rattle.std.proofs.Common.{◌≡◌, ◌<◌, ◌≤◌, ◌+◌, ◌-◌, ◌*◌, ◌∙◌, ℕ, Bool, true, false, List, [], ◌∷◌, Some, None, length, slice_get, refl, sym, ap, subst, arith}
use Rattle.std.specs.Prelude.{Contains, if◌then◌else◌}
use Rattle.std.proofs.lemmas.Option.{same_Some}
use Rattle.fabric.specs.Course.{handles, steps_of}
use Rattle.fabric.specs.FabricParts.{ArePartsKept, AreRowsFor, FabricParts}
use Rattle.fabric.specs.FabricState.{Answer, FabricState, entering, packet_after, start, state_after}
use Rattle.fabric.specs.Runs.{FabricStep, IsRun}
use Rattle.fabric.specs.Served.{AreRowsOn}
use Rattle.fabric.specs.declared.event.Event.{Event}
use Rattle.fabric.specs.declared.event.Event.TheVariants.{Inject}
use Rattle.fabric.specs.declared.event.Failure.{Failure}
use Rattle.fabric_script.specs.declared.entry.Entry.{Entry}
use Rattle.fabric.specs.declared.packet.Mode.TheVariants as modes
use Rattle.fabric.specs.declared.packet.Packet.{Packet}
use Rattle.fabric.specs.declared.packet.State.TheVariants as states
use Rattle.fabric.proofs.EachDestination.{to_stays}
use Rattle.fabric.proofs.Effects.{AfterEnd, Apart, Effect, FailsNow, Handled, Made, effect}
use Rattle.fabric.proofs.Life.{HasEnded, Life, Lives, OnEntered, OnPrimary, OnSwitched, life_below, life_fails, life_most, most}
use Rattle.fabric.specs.declared.packet.Loss.{Loss}
use Rattle.mrt_graph.specs.declared.cert.Color.{Color}
use Rattle.fabric.proofs.LifeSteps.{life_after, life_begins}
use Rattle.mrt_graph.proofs.Members.{contains_first, contains_later}

-- packet p in a state: it was not made, or lives, after so many steps
pub data IsAt (parts : FabricParts) (p : ℕ) (state : FabricState) (steps : ℕ) : Type 0 where
  Unmade : slice_get state.packets p ≡ None → steps ≡ 0 → IsAt parts p state steps
  Living : (q : Packet) → slice_get state.packets p ≡ Some q → AreRowsFor parts q.to → Lives parts state.failure q steps → IsAt parts p state steps

-- one more step, where the event is one
abbrev after_step : Bool → ℕ → ℕ
after_step handled steps = if handled then steps + 1 else steps

module _ (parts : FabricParts) (are : ArePartsKept parts) (p : ℕ) where
  -- where nothing changes of the packet and the failure
  stays : (old new : FabricState) (steps : ℕ) → slice_get new.packets p ≡ slice_get old.packets p → new.failure ≡ old.failure → IsAt parts p old steps → IsAt parts p new steps
  stays old new steps same failure (Unmade none count) = Unmade (same ∙ none) count
  stays old new steps same failure (Living q there rows lives) = Living q (same ∙ there) rows (rw failure lives)

  fails : (old new : FabricState) (failed : Failure) (steps : ℕ) → slice_get new.packets p ≡ slice_get old.packets p → old.failure ≡ None → new.failure ≡ Some failed
      → IsAt parts p old steps → IsAt parts p new steps
  fails old new failed steps same none kept (Unmade nothing count) = Unmade (same ∙ nothing) count
  fails old new failed steps same none kept (Living q there rows lives) = Living q (same ∙ there) rows (rw kept (life_fails parts failed q steps (rw none at lives)))

  goes_on : (old new : FabricState) (event : Event) (answer : Answer) (steps : ℕ) → ((at to : ℕ) (entry : Entry) → event ≡ Inject at to entry → AreRowsFor parts to)
      → Effect parts p old new event answer → IsAt parts p old steps
      → IsAt parts p new (after_step (handles p event answer) steps)
  goes_on old new event answer steps enters (Apart same failure to) at = rw to.handles_is (stays old new steps same failure at)
  goes_on old new event answer steps enters (FailsNow failed same none kept element to) at = rw to.handles_is (fails old new failed steps same none kept at)
  goes_on old new event answer steps enters (AfterEnd q there ended same failure to) at = rw to.handles_is (stays old new steps same failure at)
  goes_on old new event answer steps enters (Made from t entry is none there failure may to) at = rw to.handles_is (made at)
    where
      made : IsAt parts p old steps → IsAt parts p new steps
      made (Unmade nothing count) =
          Living (entering from t entry) there (enters from t entry is) (rw (failure, count) (life_begins parts are old.failure from t entry (enters from t entry is) may))
      made (Living q before rows lives) = cc
  goes_on old new event answer steps enters (Handled q outcome there going handled now failure to) at = rw to.handles_is (handle at)
    where
      handle : IsAt parts p old steps → IsAt parts p new (steps + 1)
      handle (Unmade nothing count) = cc
      handle (Living q' before rows lives) =
          let same : q' ≡ q = same_Some _ _ (sym before ∙ there) in
          let still : AreRowsFor parts q.to = rw same at rows in
          Living (packet_after outcome q) now (rw (to_stays outcome q) still) (rw failure (life_after parts are old.failure q steps still (rw same at lives) going outcome handled))

  pub at_step : (old next : FabricState) (event : Event) (answer : Answer) (steps : ℕ) → ((at to : ℕ) (entry : Entry) → event ≡ Inject at to entry → AreRowsFor parts to)
      → FabricStep parts old event answer next → IsAt parts p old steps
      → IsAt parts p next (after_step (handles p event answer) steps)
  at_step old next event answer steps enters step at =
      subst (λ (s : FabricState). IsAt parts p s (after_step (handles p event answer) steps)) (sym step.after)
      (goes_on old (state_after old event answer) event answer steps enters (effect parts p old event answer step.answers) at)

  pub at_end : (old new : FabricState) (events : List Event) (answers : List Answer) (steps : ℕ) → AreRowsOn parts events → IsRun parts old events answers new → IsAt parts p old steps
      → IsAt parts p new (steps + steps_of p events answers)
  at_end old new [] [] steps on run at = subst (λ (s : FabricState). IsAt parts p s (steps + 0)) (sym run) (subst (λ (k : ℕ). IsAt parts p old k) (omega arith) at)
  at_end old new (event ∷ events) [] steps on run at = absurd run
  at_end old new [] (answer ∷ answers) steps on run at = absurd run
  at_end old new (event ∷ events) (answer ∷ answers) steps on run at =
      go (handles p event answer) refl (at_end run.0 new events answers (after_step (handles p event answer) steps)
      (λ from t entry among. on from t entry (contains_later event (Inject from t entry) events among)) run.2
      (at_step old run.0 event answer steps
      (λ from t entry is. on from t entry (subst (λ (e : Event). Contains (event ∷ events) e) is (contains_first event events))) run.1 at))
    where
      go : (b : Bool) → handles p event answer ≡ b → IsAt parts p new (after_step (handles p event answer) steps + steps_of p events answers)
          → IsAt parts p new (steps + (if handles p event answer then steps_of p events answers + 1 else steps_of p events answers))
      go true is at = rw is (subst (λ (k : ℕ). IsAt parts p new k) (omega arith) (rw is at at))
      go false is at = rw is (rw is at at)

-- in each run from the start
pub run_lives : (parts : FabricParts) → ArePartsKept parts → (room : ℕ) (events : List Event) (answers : List Answer) (end : FabricState) → AreRowsOn parts events → IsRun parts (start room) events answers end
    → (p : ℕ) → IsAt parts p end (steps_of p events answers)
run_lives parts are room events answers end on run p =
    subst (λ (k : ℕ). IsAt parts p end k) (omega arith) (at_end parts are p (start room) end events answers 0 on run (Unmade refl refl))

module _ (parts : FabricParts) (are : ArePartsKept parts) (room : ℕ) (events : List Event) (answers : List Answer) (end : FabricState) (on : AreRowsOn parts events) (run : IsRun parts (start room) events answers end) (p : ℕ) where
  pub never_lost : (packet : Packet) → slice_get end.packets p ≡ Some packet → (color : Color) → packet.mode ≡ modes.Switched color
      → (loss : Loss) → packet.state ≡ states.Lost loss → ⊥
  never_lost packet there color mode loss state = go (run_lives parts are room events answers end on run p)
    where
      lost : (q : Packet) (steps : ℕ) → q ≡ packet → Life parts end.failure q steps → ⊥
      lost q steps same (HasEnded ended few never) = never color loss (ap (λ (x : Packet). x.mode) same ∙ mode) (ap (λ (x : Packet). x.state) same ∙ state)
      lost q steps same (OnPrimary visited mode' going differ below count farther) = let e = sym going ∙ ap (λ (x : Packet). x.state) same ∙ state in cc
      lost q steps same (OnEntered c mode' going left few) = let e = sym going ∙ ap (λ (x : Packet). x.state) same ∙ state in cc
      lost q steps same (OnSwitched c mode' going left few avoids) = let e = sym going ∙ ap (λ (x : Packet). x.state) same ∙ state in cc

      go : IsAt parts p end (steps_of p events answers) → ⊥
      go (Unmade none count) = cc
      go (Living q is rows lives) = lost q (steps_of p events answers) (same_Some _ _ (sym is ∙ there)) lives.life

  pub few_steps : steps_of p events answers ≤ 2 * (length parts.area.ids - 1)
  few_steps = go (run_lives parts are room events answers end on run p)
    where
      go : IsAt parts p end (steps_of p events answers) → steps_of p events answers ≤ most parts
      go (Unmade none count) = omega (arith, count)
      go (Living q is rows lives) = life_most parts are end.failure q (steps_of p events answers) lives

  pub steps_left : (packet : Packet) → slice_get end.packets p ≡ Some packet → packet.state ≡ states.Going → steps_of p events answers < 2 * (length parts.area.ids - 1)
  steps_left packet there going = go (run_lives parts are room events answers end on run p)
    where
      go : IsAt parts p end (steps_of p events answers) → steps_of p events answers < most parts
      go (Unmade none count) = cc
      go (Living q is rows lives) =
          let same : q ≡ packet = same_Some _ _ (sym is ∙ there) in
          life_below parts are end.failure q (steps_of p events answers) lives (ap (λ (x : Packet). x.state) same ∙ going)
