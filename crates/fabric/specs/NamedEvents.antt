-- What the names in events stand for in an area.
use Rattle.std.specs.Prelude.{⊤, ℕ, Contains, length}
use Rattle.std.specs.Option.{unwrap_or}
use Rattle.area_graph.specs.Named.{IsNamed, bond_named}
use Rattle.mrt_graph.specs.NodeIds.{number_of, router}
use Rattle.area_graph.specs.declared.area_types.Arc.{Arc}
use Rattle.area_graph.specs.Parts.{AreaParts}
use Rattle.fabric.specs.declared.event.Event.{Event}
use Rattle.fabric.specs.declared.event.Event.TheVariants as events
use Rattle.fabric.specs.declared.event.Failure.{Failure}
use Rattle.fabric.specs.declared.event.Failure.TheVariants as failures
use Rattle.fabric_script.specs.declared.event.FailureName.{FailureName}
use Rattle.fabric_script.specs.declared.event.FailureName.TheVariants.{Link, Node}
use Rattle.fabric_script.specs.declared.event.ScriptEvent.{ScriptEvent}
use Rattle.fabric_script.specs.declared.event.ScriptEvent.TheVariants.{Fail, Inject, Step}
use Rattle.mrt_graph.specs.declared.node_id.NodeId.{NodeId}

-- the node that has this identifier; where the area has none, the count of its nodes, which is the number of none
abbrev pub spot_of : AreaParts → NodeId → ℕ
spot_of area id = unwrap_or (number_of area.ids id) (length area.ids)

-- the bond that a router and link data name; where the area has none, the count of its bonds
abbrev pub bond_of : AreaParts → ℕ → ℕ → ℕ
bond_of area number link_data = unwrap_or (bond_named area number link_data) (length area.bonds)

-- the element of this name
abbrev pub failure_of : AreaParts → FailureName → Failure
failure_of area (Node id) = failures.Node (spot_of area id)
failure_of area (Link number link_data) = failures.Bond (bond_of area number link_data)

-- the event that names give
abbrev pub event_of : AreaParts → ScriptEvent → Event
event_of area (Inject number to entry) = events.Inject (spot_of area (router number)) (spot_of area to) entry
event_of area (Step packet) = events.Step packet
event_of area (Fail failed) = events.Fail (failure_of area failed)

-- the area has what is named as failed: the node, or an arc that leaves that router with that link data
abbrev pub HasNamed : AreaParts → FailureName → Type 0
HasNamed area (Node id) = Contains area.ids id
HasNamed area (Link number link_data) = (arc : Arc) × IsNamed area number link_data arc

-- the area has all that an event names: the router where a packet enters, and its destination; what fails
abbrev pub AreThere : AreaParts → ScriptEvent → Type 0
AreThere area (Inject number to entry) = Contains area.ids (router number) × Contains area.ids to
AreThere area (Step packet) = ⊤
AreThere area (Fail failed) = HasNamed area failed
