-- Each script and each trace has a text.
use Rattle.std.proofs.Common.{◌≡◌, ◌∙◌, ◌⊎◌, ◌++◌, ◌+◌, ◌*◌, ◌<◌, ◌≤◌, ℕ, zero, suc, List, [], ◌∷◌, Option, Some, None, ap, arith, inl, inr, length, map, refl, slice_get, sym}
use Rattle.std.specs.Prelude.{Ok, Err, codes}
use Rattle.std.specs.Option.{option_map}
use Rattle.std.proofs.lemmas.Option.{none-some}
use Rattle.fabric.specs.declared.event.Event.{Event}
use Rattle.fabric.specs.declared.event.Event.TheVariants.{Step}
use Rattle.fabric.specs.declared.event.Outcome.TheVariants as outcomes
use Rattle.fabric.specs.declared.packet.Packet.{Packet}
use Rattle.fabric.specs.declared.packet.State.{State}
use Rattle.fabric.specs.declared.packet.State.TheVariants.{Delivered, Going, Lost}
use Rattle.fabric.specs.Answers.{IsAnswer}
use Rattle.fabric.specs.FabricParts.{ArePartsKept, AreRowsFor, FabricParts}
use Rattle.fabric.specs.FabricState.{Answer, FabricState, start, state_after}
use Rattle.fabric.specs.OutcomeText.{IsTellable, answer_line}
use Rattle.fabric.specs.Runs.{IsRun}
use Rattle.fabric.specs.Served.{AreRowsOn}
use Rattle.fabric_script.specs.declared.script.Script.{Script}
use Rattle.fabric_script.specs.declared.trace.Trace.{Trace}
use Rattle.fabric.specs.NamedEvents.{event_of, spot_of}
use Rattle.fabric.specs.RunTexts.{IsScriptText, IsTraceText}
use Rattle.fabric.specs.steps.Printed.{IsSteppedOn, IsPrinted}
use Rattle.fabric.specs.Trace.{HasEnded, beginning}
use Rattle.fabric.proofs.RunsOn.{run_on, told_none, told_on, whole_text}
use Rattle.fabric.proofs.StepsPrinted.{GoingLaw, HasStepped, ended_at_last, no_steps, one_more, stepped}
use Rattle.fabric.proofs.TracePrinted.{trace_told, unstepped}
use Rattle.text_parts.specs.Spelling.{node_text}
use Rattle.mrt_graph.specs.declared.node_id.NodeId.{NodeId}
use Rattle.mrt_graph.proofs.ListTests.{there}

-- the laws of the layer below
pub record SomeLaws : Type 0 where
  pub some : (parts : FabricParts) → ArePartsKept parts → (room : ℕ) (events : List Event) (answers : List Answer) (end : FabricState)
      → AreRowsOn parts events → IsRun parts (start room) events answers end → (event : Event)
      → (answer : Answer) × IsAnswer parts end event answer
  pub told : (parts : FabricParts) → ArePartsKept parts → (room : ℕ) (events : List Event) (answers : List Answer) (end : FabricState)
      → AreRowsOn parts events → IsRun parts (start room) events answers end → (event : Event) (answer : Answer)
      → IsAnswer parts end event answer → IsTellable parts.area.ids answer
  pub going : GoingLaw

-- a node that is there has its line
node_line : (ids : List NodeId) (x : ℕ) (front : List ℕ) → x < length ids
    → (line : List ℕ) × (option_map (λ text. text ++ codes "\n") (option_map (λ id. front ++ node_text id) (slice_get ids x)) ≡ Some line)
node_line ids x front within = go (slice_get ids x) (there ids x within).1
  where
    go : (o : Option NodeId) → o ≡ Some (there ids x within).0
        → (line : List ℕ) × (option_map (λ text. text ++ codes "\n") (option_map (λ id. front ++ node_text id) o) ≡ Some line)
    go None is = cc
    go (Some id) is = ((front ++ node_text id) ++ codes "\n", refl)

line_there : (ids : List NodeId) (answer : Answer) → IsTellable ids answer → (line : List ℕ) × (answer_line ids answer ≡ Some line)
line_there ids (Ok (outcomes.Entered number)) told = (_, refl)
line_there ids (Ok (outcomes.Moved x)) told = node_line ids x (codes "moved ") told
line_there ids (Ok (outcomes.Switched color)) told = (_, refl)
line_there ids (Ok (outcomes.Delivered x)) told = node_line ids x (codes "delivered ") told
line_there ids (Ok (outcomes.Lost loss)) told = (_, refl)
line_there ids (Ok outcomes.Failed) told = (_, refl)
line_there ids (Err refused) told = (_, refl)

-- packet 0 has ended, or goes on
ended_or_not : (state : FabricState) → HasEnded state ⊎ (HasEnded state → ⊥)
ended_or_not state = by (slice_get state.packets 0) refl
  where
    of : (packet : Packet) (in_state : State) → slice_get state.packets 0 ≡ Some packet → packet.state ≡ in_state
        → HasEnded state ⊎ (HasEnded state → ⊥)
    of packet Going there is = inr (λ ended. ended packet there is)
    of packet Delivered there is = inl (λ other there' going. cc)
    of packet (Lost loss) there is = inl (λ other there' going. cc)

    by : (place : Option Packet) → slice_get state.packets 0 ≡ place → HasEnded state ⊎ (HasEnded state → ⊥)
    by None there = inl (λ packet there'. absurd (none-some packet (sym there ∙ there')))
    by (Some packet) there = of packet packet.state there refl

module _ (laws : SomeLaws) (parts : FabricParts) (kept : ArePartsKept parts) (rows : (t : ℕ) → AreRowsFor parts t) where
  on : (events : List Event) → AreRowsOn parts events
  on events at to entry among = rows to

  -- where a run has led, an event is told
  event_told : (room : ℕ) (events : List Event) (answers : List Answer) (end : FabricState) → IsRun parts (start room) events answers end
      → (event : Event) (before : List ℕ) → (new : FabricState) × (after : List ℕ) × IsPrinted parts end (event ∷ []) new before after
  event_told room events answers end run event before =
      let answer = laws.some parts kept room events answers end (on events) run event in
      let line = line_there parts.area.ids answer.0 (laws.told parts kept room events answers end (on events) run event answer.0 answer.1) in
      let new : FabricState = state_after end event answer.0 in (
        new,
        before ++ line.0,
        record {
          answers = answer.0 ∷ [];
          run = (new, record { answers = answer.1; after = refl }, refl);
          lines = (before ++ line.0, ap (option_map (λ text. before ++ text)) line.1, refl);
        },
      )

  -- and so are events, one after another
  events_told : (room : ℕ) (events : List Event) (answers : List Answer) (end : FabricState) → IsRun parts (start room) events answers end
      → (more : List Event) (before : List ℕ) → (new : FabricState) × (after : List ℕ) × IsPrinted parts end more new before after
  events_told room events answers end run [] before = (end, before, told_none parts end before)
  events_told room events answers end run (event ∷ more) before =
      let one = event_told room events answers end run event before in
      let rest = events_told room (events ++ event ∷ []) (answers ++ one.2.answers) one.0
      (run_on parts (start room) end one.0 events (event ∷ []) answers one.2.answers run one.2.run) more one.1 in
      (rest.0, rest.1, told_on parts end one.0 rest.0 (event ∷ []) more before one.1 rest.1 one.2 rest.2)

  pub script_there : (script : Script) → (text : List ℕ) × IsScriptText parts script text
  script_there script =
      let told = events_told script.room [] [] (start script.room) refl (map (event_of parts.area) script.events) [] in
      (told.1, record { answers = told.2.answers; end = told.0; run = told.2.run; spelled = whole_text parts told.2.answers told.1 told.2.lines })

  -- steps until the packet has ended: there are fewer than this
  steps_told : (fuel : ℕ) (old mid : FabricState) (count : ℕ) (before between : List ℕ) → HasStepped parts old mid count before between
      → 2 * length parts.area.ids ≤ count + fuel → (after : List ℕ) × IsSteppedOn parts old before after
  steps_told zero old mid count before between so_far many = (
    between,
    stepped parts old mid count before between so_far
        (ended_at_last laws.going parts kept old mid count before between so_far (omega (arith, many))),
  )
  steps_told (suc fuel) old mid count before between so_far many = elim (ended_or_not mid) [
    | inl ended ↦ (between, stepped parts old mid count before between so_far ended)
    | inr unended ↦
        let one = event_told 1 so_far.events so_far.answers mid so_far.run (Step 0) between in
        steps_told fuel old one.0 (count + 1) before one.1 (one_more parts old mid one.0 count before between one.1 so_far unended one.2)
        (omega (arith, many))
  ]

  pub trace_there : (trace : Trace) → (text : List ℕ) × IsTraceText parts trace text
  trace_there trace =
      let begun = events_told 1 [] [] (start 1) refl (beginning parts.area trace) [] in
      let steps = steps_told (2 * length parts.area.ids) begun.0 begun.0 0 begun.1 begun.1
      (no_steps parts begun.0 begun.1 (unstepped parts begun.0 trace begun.1 (rows (spot_of parts.area trace.to)) begun.2)) (omega arith) in
      (steps.0, trace_told parts begun.0 trace begun.1 steps.0 begun.2 steps.1)
