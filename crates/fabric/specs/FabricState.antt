-- What a fabric holds, and how events change it.
use Rattle.std.specs.Prelude.{◌++◌, ℕ, List, [], ◌∷◌, Option, Some, None, Result, Ok, Err, slice_get, slice_set}
use Rattle.std.specs.Option.{option_map_or}
use Rattle.fabric.specs.declared.event.Event.{Event}
use Rattle.fabric.specs.declared.event.Event.TheVariants.{Fail, Inject, Step}
use Rattle.fabric.specs.declared.event.Failure.{Failure}
use Rattle.fabric.specs.declared.event.Outcome.{Outcome}
use Rattle.fabric.specs.declared.event.Outcome.TheVariants as outcomes
use Rattle.fabric.specs.declared.event.Refused.{Refused}
use Rattle.fabric_script.specs.declared.entry.Entry.{Entry}
use Rattle.fabric_script.specs.declared.entry.Entry.TheVariants as entries
use Rattle.fabric.specs.declared.packet.Mode.{Mode}
use Rattle.fabric.specs.declared.packet.Mode.TheVariants.{Entered, Primary, Switched}
use Rattle.fabric.specs.declared.packet.Packet.{Packet}
use Rattle.fabric.specs.declared.packet.State.TheVariants.{Delivered, Going, Lost}
use Rattle.mrt_graph.specs.declared.cert.Color.TheVariants.{Blue, Red}

-- the packets by number, the failure if there is one, and for how many packets there is room
pub record FabricState : Type 0 where
  pub packets : List Packet
  pub failure : Option Failure
  pub room : ℕ

-- a state of these packets, this failure and this room
abbrev pub state_of : List Packet → Option Failure → ℕ → FabricState
state_of packets failure room = record { packets = packets; failure = failure; room = room }

-- the answer to an event
abbrev pub Answer : Type 0
Answer = Result Outcome Refused

-- at the start: no packet, and no failure
abbrev pub start : ℕ → FabricState
start room = state_of [] None room

-- the mode in which a packet enters
abbrev pub mode_of : Entry → Mode
mode_of entries.Blue = Entered Blue
mode_of entries.Red = Entered Red
mode_of entries.Repair = Primary

-- a packet that enters
abbrev pub entering : ℕ → ℕ → Entry → Packet
entering at to entry = record { place = at; to = to; mode = mode_of entry; state = Going }

-- a packet after an outcome of its own
abbrev pub packet_after : Outcome → Packet → Packet
packet_after (outcomes.Moved x) packet = record packet { place = x }
packet_after (outcomes.Delivered x) packet = record packet { place = x; state = Delivered }
packet_after (outcomes.Switched color) packet = record packet { mode = Switched color }
packet_after (outcomes.Lost loss) packet = record packet { state = Lost loss }
packet_after (outcomes.Entered number) packet = packet
packet_after outcomes.Failed packet = packet

-- the packets after an outcome of packet p
abbrev pub packets_after : List Packet → ℕ → Outcome → List Packet
packets_after packets p outcome =
    option_map_or (λ packet. slice_set packets p (packet_after outcome packet)) (slice_get packets p) packets

-- the state after an event and its answer: a refusal changes nothing
abbrev pub state_after : FabricState → Event → Answer → FabricState
state_after state event (Err refused) = state
state_after state (Inject at to entry) (Ok outcome) = record state { packets = state.packets ++ entering at to entry ∷ [] }
state_after state (Step p) (Ok outcome) = record state { packets = packets_after state.packets p outcome }
state_after state (Fail failed) (Ok outcome) = record state { failure = Some failed }
