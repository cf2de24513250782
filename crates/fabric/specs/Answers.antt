-- The answers to events.
use Rattle.std.specs.Prelude.{◌≡◌, ◌≢◌, ◌<◌, ◌↔◌, ⊤, ℕ, Bool, true, false, Option, Some, None, Ok, Err, IsSome, IsTrue, length, nat_lt, slice_get}
use Rattle.area_graph.specs.Parts.{AreaParts}
use Rattle.fabric.specs.FabricParts.{FabricParts, node_in}
use Rattle.fabric.specs.FabricState.{Answer, FabricState}
use Rattle.fabric.specs.Handling.{IsHandled}
use Rattle.fabric.specs.declared.event.Event.{Event}
use Rattle.fabric.specs.declared.event.Event.TheVariants.{Fail, Inject, Step}
use Rattle.fabric.specs.declared.event.Failure.{Failure}
use Rattle.fabric.specs.declared.event.Failure.TheVariants.{Bond, Node}
use Rattle.fabric.specs.declared.event.Outcome.{Outcome}
use Rattle.fabric.specs.declared.event.Outcome.TheVariants as outcomes
use Rattle.fabric.specs.declared.event.Refused.TheVariants.{Ended, Full, NoSuchPacket, NoSuchPlace, SecondFailure}
use Rattle.fabric_script.specs.declared.entry.Entry.{Entry}
use Rattle.fabric_script.specs.declared.entry.Entry.TheVariants.{Blue, Red, Repair}
use Rattle.fabric.specs.declared.packet.Packet.{Packet}
use Rattle.fabric.specs.declared.packet.State.TheVariants.{Going}
use Rattle.mrt_graph.specs.Topology.{Topology}
use Rattle.primary_alt.specs.Routers.{IsRouter}

-- both nodes are of the island
pub record AreInside (area : AreaParts) (island : Topology) (at to : ℕ) : Type 0 where
  pub place : IsSome (node_in area island at)
  pub destination : IsSome (node_in area island to)

-- an entry is open from one node to another: a color where both are of the island, primary mode everywhere
abbrev pub IsOpen : AreaParts → Topology → ℕ → ℕ → Entry → Type 0
IsOpen area island at to Blue = AreInside area island at to
IsOpen area island at to Red = AreInside area island at to
IsOpen area island at to Repair = ⊤

-- a packet may enter: it enters at a router of the area; its destination is a node of the area, and another one; and the
-- entry is open
pub record MayEnter (area : AreaParts) (island : Topology) (at to : ℕ) (entry : Entry) : Type 0 where
  pub router : IsRouter area.ids at
  pub destination : to < length area.ids
  pub apart : at ≢ to
  pub is_open : IsOpen area island at to entry

-- the answer to a packet that enters, by whether it may enter, whether there is room, and the next number
abbrev pub inject_answer : Bool → Bool → ℕ → Answer
inject_answer false room number = Err NoSuchPlace
inject_answer true false number = Err Full
inject_answer true true number = Ok (outcomes.Entered number)

pub record IsInjectAnswer (area : AreaParts) (island : Topology) (state : FabricState) (at to : ℕ) (entry : Entry) (answer : Answer)
    : Type 0 where
  pub may : Bool
  pub may_is : IsTrue may ↔ MayEnter area island at to entry
  pub is : answer ≡ inject_answer may (nat_lt (length state.packets) state.room) (length state.packets)

-- an area has an element
abbrev pub HasElement : AreaParts → Failure → Type 0
HasElement area (Node s) = s < length area.ids
HasElement area (Bond b) = b < length area.bonds

-- the answer to a failure, by whether the area has this element, and whether a failure is kept already
abbrev pub fail_answer : Bool → Option Failure → Answer
fail_answer false failure = Err NoSuchPlace
fail_answer true (Some before) = Err SecondFailure
fail_answer true None = Ok outcomes.Failed

pub record IsFailAnswer (area : AreaParts) (failure : Option Failure) (failed : Failure) (answer : Answer) : Type 0 where
  pub has : Bool
  pub has_is : IsTrue has ↔ HasElement area failed
  pub is : answer ≡ fail_answer has failure

-- the answer to a step of a packet, if there is one
pub data IsStepAnswer (parts : FabricParts) (failure : Option Failure) : Option Packet → Answer → Type 0 where
  NoPacket : IsStepAnswer parts failure None (Err NoSuchPacket)
  HasEnded : (packet : Packet) → packet.state ≢ Going → IsStepAnswer parts failure (Some packet) (Err Ended)
  Answered : (packet : Packet) (outcome : Outcome) → packet.state ≡ Going → IsHandled parts failure packet outcome
      → IsStepAnswer parts failure (Some packet) (Ok outcome)

-- the answer to an event
abbrev pub IsAnswer : FabricParts → FabricState → Event → Answer → Type 0
IsAnswer parts state (Inject at to entry) answer = IsInjectAnswer parts.area parts.island state at to entry answer
IsAnswer parts state (Step p) answer = IsStepAnswer parts state.failure (slice_get state.packets p) answer
IsAnswer parts state (Fail failed) answer = IsFailAnswer parts.area state.failure failed answer
