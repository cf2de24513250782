-- A packet's trace: a failure, if there is one, a packet that enters, and its steps until it has ended.
use Rattle.std.specs.Prelude.{◌≡◌, ◌≢◌, ◌<◌, ◌++◌, ℕ, List, [], ◌∷◌, Option, Some, None, replicate, slice_get}
use Rattle.fabric.specs.declared.event.Event.{Event}
use Rattle.fabric.specs.declared.event.Event.TheVariants.{Step}
use Rattle.fabric.specs.declared.packet.Packet.{Packet}
use Rattle.fabric.specs.declared.packet.State.TheVariants.{Going}
use Rattle.fabric.specs.FabricParts.{FabricParts}
use Rattle.fabric.specs.FabricState.{Answer, FabricState, start}
use Rattle.fabric.specs.Runs.{IsRun}
use Rattle.area_graph.specs.Parts.{AreaParts}
use Rattle.fabric_script.specs.declared.event.FailureName.{FailureName}
use Rattle.fabric_script.specs.declared.event.ScriptEvent.TheVariants.{Fail, Inject}
use Rattle.fabric_script.specs.declared.trace.Trace.{Trace}
use Rattle.fabric.specs.NamedEvents.{event_of}

-- the failure, if one is asked for
abbrev pub failures_of : AreaParts → Option FailureName → List Event
failures_of area None = []
failures_of area (Some failed) = event_of area (Fail failed) ∷ []

-- what stands before the steps: the failure, if one is asked for, and the packet that enters
abbrev pub beginning : AreaParts → Trace → List Event
beginning area trace = failures_of area trace.failed ++ event_of area (Inject trace.from trace.to trace.entry) ∷ []

-- events, and so many steps of packet 0 after them
abbrev pub then_steps : List Event → ℕ → List Event
then_steps events count = events ++ replicate count (Step 0)

-- packet 0 has ended, or was not made
abbrev pub HasEnded : FabricState → Type 0
HasEnded state = (packet : Packet) → slice_get state.packets 0 ≡ Some packet → packet.state ≢ Going

-- events lead to a state in which packet 0 has not ended
pub record IsGoingAfter (parts : FabricParts) (old : FabricState) (events : List Event) : Type 0 where
  pub answers : List Answer
  pub state : FabricState
  pub run : IsRun parts old events answers state
  pub going : ¬ HasEnded state

-- the answers to events, and to steps of packet 0 after them until it has ended: to so many that it has ended after them,
-- and after fewer it had not
pub record AreUntilEnd (parts : FabricParts) (old : FabricState) (events : List Event) (answers : List Answer) : Type 0 where
  pub count : ℕ
  pub end : FabricState
  pub run : IsRun parts old (then_steps events count) answers end
  pub ended : HasEnded end
  pub not_before : (fewer : ℕ) → fewer < count → IsGoingAfter parts old (then_steps events fewer)

-- the answers to a trace, from a start with room for one packet
abbrev pub IsTraced : FabricParts → Trace → List Answer → Type 0
IsTraced parts trace answers = AreUntilEnd parts (start 1) (beginning parts.area trace) answers
