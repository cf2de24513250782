-- What each fabric keeps.
use Rattle.std.specs.Prelude.{◌≡◌, ◌≢◌, ◌<◌, ◌≤◌, ℕ, Some, IsSome, length, slice_get}
use Rattle.fabric.specs.Answers.{HasElement}
use Rattle.fabric.specs.FabricParts.{FabricParts, node_at}
use Rattle.fabric.specs.FabricState.{FabricState}
use Rattle.fabric.specs.declared.event.Failure.{Failure}
use Rattle.fabric.specs.declared.packet.Mode.TheVariants.{Primary}
use Rattle.fabric.specs.declared.packet.Packet.{Packet}
use Rattle.fabric.specs.declared.packet.State.TheVariants.{Going}
use Rattle.mrt_graph.specs.GraphInvariant.{IsNetwork}

-- a packet: its place and its destination are nodes; on a color they are of the island; while it is going its place is
-- a router, and not its destination
pub record IsKeptPacket (parts : FabricParts) (packet : Packet) : Type 0 where
  pub place : packet.place < length parts.area.ids
  pub to : packet.to < length parts.area.ids
  pub place_inside : packet.mode ≢ Primary → IsSome (node_at parts packet.place)
  pub to_inside : packet.mode ≢ Primary → IsSome (node_at parts packet.to)
  pub router : packet.state ≡ Going → ¬ IsNetwork parts.area.ids packet.place
  pub apart : packet.state ≡ Going → packet.place ≢ packet.to

-- of a state: its packets and its failure are of these parts, and there is room for the packets
pub record IsKeptState (parts : FabricParts) (state : FabricState) : Type 0 where
  pub packets : (p : ℕ) (packet : Packet) → slice_get state.packets p ≡ Some packet → IsKeptPacket parts packet
  pub failure : (failed : Failure) → state.failure ≡ Some failed → HasElement parts.area failed
  pub few : length state.packets ≤ state.room
