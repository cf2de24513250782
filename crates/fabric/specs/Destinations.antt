-- The destinations of the packets of scripts and traces.
use Rattle.std.specs.Prelude.{◌≡◌, ◌↔◌, ⊤, ℕ, Contains, List, Some, slice_get}
use Rattle.area_graph.specs.Parts.{AreaParts}
use Rattle.fabric.specs.FabricParts.{FabricParts}
use Rattle.fabric.specs.Served.{AgreeFor, IsEventServed}
use Rattle.fabric.specs.NamedEvents.{event_of, spot_of}
use Rattle.fabric_script.specs.declared.event.ScriptEvent.{ScriptEvent}
use Rattle.fabric_script.specs.declared.event.ScriptEvent.TheVariants.{Fail, Inject, Step}
use Rattle.mrt_graph.specs.Reaches.{AreDifferent}
use Rattle.mrt_graph.specs.Rows.{Rows}
use Rattle.primary_alt.specs.RouteLists.{RouteLists}

-- by the event a packet enters for node t of the area
abbrev pub EntersFor : AreaParts → ℕ → ScriptEvent → Type 0
EntersFor area t (Inject number to entry) = slice_get area.ids t ≡ Some to
EntersFor area t (Step packet) = ⊥
EntersFor area t (Fail failed) = ⊥

-- node t of the area is a destination of the events: by one of them a packet enters for it
pub record IsDestination (area : AreaParts) (events : List ScriptEvent) (t : ℕ) : Type 0 where
  pub event : ScriptEvent
  pub among : Contains events event
  pub enters : EntersFor area t event

-- these nodes are the destinations of the events, each once
pub record AreDestinations (area : AreaParts) (events : List ScriptEvent) (spots : List ℕ) : Type 0 where
  pub all : (t : ℕ) → Contains spots t ↔ IsDestination area events t
  pub once : AreDifferent spots

-- the destination of each packet that enters by one of the events is served
abbrev pub AreServed : FabricParts → RouteLists → List ScriptEvent → Type 0
AreServed parts routes events =
    (event : ScriptEvent) → Contains events event → IsEventServed parts routes (event_of parts.area event)

-- rows agree with those of the parts for the event: where a packet enters by it, for the packet's destination
abbrev pub AgreeForEvent : FabricParts → Rows → ScriptEvent → Type 0
AgreeForEvent parts rows (Inject number to entry) = AgreeFor parts rows (spot_of parts.area to)
AgreeForEvent parts rows (Step packet) = ⊤
AgreeForEvent parts rows (Fail failed) = ⊤
