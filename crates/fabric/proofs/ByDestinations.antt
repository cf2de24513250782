-- Texts by rows that agree for the destinations.
use Rattle.std.proofs.Common.{◌≡◌, ℕ, List, [], ◌∷◌, map, subst}
use Rattle.std.specs.Prelude.{Contains}
use Rattle.fabric.specs.FabricParts.{FabricParts}
use Rattle.fabric.specs.FabricState.{Answer, FabricState, start}
use Rattle.fabric.specs.Runs.{IsRun}
use Rattle.fabric.specs.Served.{AgreeFor, AgreeOn, with_rows}
use Rattle.fabric.specs.declared.event.Event.{Event}
use Rattle.fabric.specs.declared.event.Event.TheVariants as happenings
use Rattle.fabric_script.specs.declared.entry.Entry.{Entry}
use Rattle.fabric.specs.Destinations.{AgreeForEvent}
use Rattle.fabric.specs.NamedEvents.{event_of, spot_of}
use Rattle.fabric.specs.RunTexts.{IsScriptText, IsTraceText}
use Rattle.fabric.specs.Trace.{beginning, then_steps}
use Rattle.fabric_script.specs.declared.event.ScriptEvent.{ScriptEvent}
use Rattle.fabric_script.specs.declared.event.ScriptEvent.TheVariants.{Fail, Inject, Step}
use Rattle.fabric_script.specs.declared.script.Script.{Script}
use Rattle.fabric_script.specs.declared.trace.Trace.{Trace}
use Rattle.fabric.proofs.Entered.{beginning_entered, first_entered, none_entered, then_steps_entered}
use Rattle.mrt_graph.specs.Rows.{Rows}
use Rattle.mrt_graph.proofs.Members.{contains_first, contains_later}

-- the law of the layer below
pub record RowsLaw : Type 0 where
  pub same_run : (parts : FabricParts) (rows : Rows) (room : ℕ) (events : List Event) → AgreeOn parts rows events
      → (answers : List Answer) (end : FabricState) → IsRun parts (start room) events answers end
      → IsRun (with_rows parts rows) (start room) events answers end

-- for the events that names give
named : (parts : FabricParts) (rows : Rows) (events : List ScriptEvent)
    → ((event : ScriptEvent) → Contains events event → AgreeForEvent parts rows event)
    → AgreeOn parts rows (map (event_of parts.area) events)
named parts rows [] agree = none_entered (AgreeFor parts rows)
named parts rows (event ∷ events) agree =
    first_entered (AgreeFor parts rows) (event_of parts.area event) (map (event_of parts.area) events)
    (λ at to entry same. first event at to entry (agree event (contains_first event events)) same)
    (named parts rows events (λ other has. agree other (contains_later event other events has)))
  where
    first : (event : ScriptEvent) (at to : ℕ) (entry : Entry) → AgreeForEvent parts rows event → happenings.Inject at to entry ≡ event_of parts.area event → AgreeFor parts rows to
    first (Inject number id how) at to entry agree same = let here : spot_of parts.area id ≡ to = cc in subst (λ (t : ℕ). AgreeFor parts rows t) here agree
    first (Step packet) at to entry agree same = cc
    first (Fail failed) at to entry agree same = cc

-- for what stands before the steps of a trace, and for the steps
traced : (parts : FabricParts) (rows : Rows) (trace : Trace) → AgreeFor parts rows (spot_of parts.area trace.to)
    → (count : ℕ) → AgreeOn parts rows (then_steps (beginning parts.area trace) count)
traced parts rows trace agree count =
    then_steps_entered (AgreeFor parts rows) (beginning parts.area trace) count (beginning_entered (AgreeFor parts rows) parts.area trace agree)

module _ (law : RowsLaw) (parts : FabricParts) (rows : Rows) where
  pub script_too : (script : Script) → ((event : ScriptEvent) → Contains script.events event → AgreeForEvent parts rows event)
      → (text : List ℕ) → IsScriptText parts script text → IsScriptText (with_rows parts rows) script text
  script_too script agree text is = record {
    answers = is.answers;
    end = is.end;
    run = law.same_run parts rows script.room (map (event_of parts.area) script.events) (named parts rows script.events agree) is.answers is.end is.run;
    spelled = is.spelled;
  }

  pub trace_too : (trace : Trace) → AgreeFor parts rows (spot_of parts.area trace.to)
      → (text : List ℕ) → IsTraceText parts trace text → IsTraceText (with_rows parts rows) trace text
  trace_too trace agree text is =
      let t = is.traced in
      record {
        answers = is.answers;
        traced = record {
          count = t.count;
          end = t.end;
          run = law.same_run parts rows 1 (then_steps (beginning parts.area trace) t.count) (traced parts rows trace agree t.count) is.answers t.end t.run;
          ended = t.ended;
          not_before = λ fewer less.
              let at = t.not_before fewer less in record {
                answers = at.answers;
                state = at.state;
                run = law.same_run parts rows 1 (then_steps (beginning parts.area trace) fewer) (traced parts rows trace agree fewer) at.answers at.state at.run;
                going = at.going;
              };
        };
        spelled = is.spelled;
      }
