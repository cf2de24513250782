-- States in which packet 0 has had no step yet.
use Rattle.std.specs.Prelude.{◌≡◌, List}
use Rattle.fabric.specs.declared.event.Event.{Event}
use Rattle.fabric.specs.Course.{steps_of}
use Rattle.fabric.specs.FabricParts.{FabricParts}
use Rattle.fabric.specs.FabricState.{Answer, FabricState, start}
use Rattle.fabric.specs.Runs.{IsRun}
use Rattle.fabric.specs.Served.{AreRowsOn}

-- a run leads to the state, from a start with room for one packet; there are rows for the destinations of its packets, and
-- packet 0 has no answered step in it
pub record IsUnstepped (parts : FabricParts) (state : FabricState) : Type 0 where
  pub events : List Event
  pub answers : List Answer
  pub run : IsRun parts (start 1) events answers state
  pub none : steps_of 0 events answers ≡ 0
  pub rows : AreRowsOn parts events
