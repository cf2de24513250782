-- A trace, told event by event.
use Rattle.std.proofs.Common.{◌≡◌, ◌++◌, ℕ, List, [], ◌∷◌, Option, Some, None, refl, replicate}
use Rattle.area_graph.specs.Parts.{AreaParts}
use Rattle.fabric.specs.declared.event.Event.TheVariants.{Step}
use Rattle.fabric.specs.Course.{steps_of}
use Rattle.fabric.specs.FabricParts.{AreRowsFor, FabricParts}
use Rattle.fabric.specs.FabricState.{Answer, FabricState, start}
use Rattle.fabric.specs.Runs.{IsRun}
use Rattle.fabric_script.specs.declared.event.FailureName.{FailureName}
use Rattle.fabric_script.specs.declared.event.ScriptEvent.TheVariants.{Inject}
use Rattle.fabric_script.specs.declared.trace.Trace.{Trace}
use Rattle.fabric.specs.NamedEvents.{event_of, spot_of}
use Rattle.fabric.specs.RunTexts.{IsTraceText}
use Rattle.fabric.specs.steps.Printed.{IsSteppedOn, IsPrinted}
use Rattle.fabric.specs.Trace.{beginning, failures_of}
use Rattle.fabric.specs.steps.Unstepped.{IsUnstepped}
use Rattle.fabric.proofs.Entered.{beginning_entered}
use Rattle.fabric.proofs.RunsOn.{lines_on, run_on, whole_text}

-- no step is among them
none_stepped : (area : AreaParts) (failed : Option FailureName) (trace : Trace) (parts : FabricParts) (old new : FabricState)
    (answers : List Answer)
    → IsRun parts old (failures_of area failed ++ event_of area (Inject trace.from trace.to trace.entry) ∷ []) answers new
    → steps_of 0 (failures_of area failed ++ event_of area (Inject trace.from trace.to trace.entry) ∷ []) answers ≡ 0
none_stepped area None trace parts old new [] run = absurd run
none_stepped area None trace parts old new (answer ∷ []) run = refl
none_stepped area None trace parts old new (answer ∷ other ∷ more) run = absurd run.2
none_stepped area (Some failed) trace parts old new [] run = absurd run
none_stepped area (Some failed) trace parts old new (answer ∷ []) run = absurd run.2
none_stepped area (Some failed) trace parts old new (answer ∷ other ∷ []) run = refl
none_stepped area (Some failed) trace parts old new (answer ∷ other ∷ last ∷ more) run = absurd run.2.2

pub unstepped : (parts : FabricParts) (state : FabricState) (trace : Trace) (text : List ℕ) → AreRowsFor parts (spot_of parts.area trace.to)
    → IsPrinted parts (start 1) (beginning parts.area trace) state [] text → IsUnstepped parts state
unstepped parts state trace text rows told = record {
  events = beginning parts.area trace;
  answers = told.answers;
  run = told.run;
  none = none_stepped parts.area trace.failed trace parts (start 1) state told.answers told.run;
  rows = beginning_entered (AreRowsFor parts) parts.area trace rows;
}

pub trace_told : (parts : FabricParts) (state : FabricState) (trace : Trace) (between text : List ℕ) → IsPrinted parts (start 1) (beginning parts.area trace) state [] between
    → IsSteppedOn parts state between text → IsTraceText parts trace text
trace_told parts state trace between text told here = record {
  answers = told.answers ++ here.answers;
  traced = record {
    count = here.steps.count;
    end = here.steps.end;
    run = run_on parts (start 1) state here.steps.end (beginning parts.area trace) (replicate here.steps.count (Step 0)) told.answers here.answers told.run here.steps.run;
    ended = here.steps.ended;
    not_before = λ fewer less.
        let it = here.steps.not_before fewer less in record {
          answers = told.answers ++ it.answers;
          state = it.state;
          run = run_on parts (start 1) state it.state (beginning parts.area trace) (replicate fewer (Step 0)) told.answers it.answers told.run it.run;
          going = it.going;
        };
  };
  spelled = whole_text parts (told.answers ++ here.answers) text (lines_on parts told.answers here.answers [] between text told.lines here.lines);
}
