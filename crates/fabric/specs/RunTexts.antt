-- The texts of runs: one line for each answer.
use Rattle.std.specs.Prelude.{◌≡◌, ℕ, List, Some, map}
use Rattle.fabric.specs.FabricParts.{FabricParts}
use Rattle.fabric.specs.FabricState.{Answer, FabricState, start}
use Rattle.fabric.specs.OutcomeText.{run_text}
use Rattle.fabric.specs.Runs.{IsRun}
use Rattle.fabric_script.specs.declared.script.Script.{Script}
use Rattle.fabric_script.specs.declared.trace.Trace.{Trace}
use Rattle.fabric.specs.NamedEvents.{event_of}
use Rattle.fabric.specs.Trace.{IsTraced}

-- the text of a script: of the run of its events, from a start with its room
pub record IsScriptText (parts : FabricParts) (script : Script) (text : List ℕ) : Type 0 where
  pub answers : List Answer
  pub end : FabricState
  pub run : IsRun parts (start script.room) (map (event_of parts.area) script.events) answers end
  pub spelled : run_text parts.area.ids answers ≡ Some text

-- the text of a trace
pub record IsTraceText (parts : FabricParts) (trace : Trace) (text : List ℕ) : Type 0 where
  pub answers : List Answer
  pub traced : IsTraced parts trace answers
  pub spelled : run_text parts.area.ids answers ≡ Some text
