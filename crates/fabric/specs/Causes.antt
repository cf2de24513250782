-- Why packets are lost.
use Rattle.std.specs.Prelude.{◌≡◌, ◌≢◌, ◌⊎◌, ◌↔◌, ℕ, Option, Some, None, IsTrue, length}
use Rattle.fabric.specs.FabricParts.{FabricParts, element_of, node_at}
use Rattle.fabric.specs.Handling.{IsUnreachable}
use Rattle.fabric.specs.PacketHop.{IsHop, cuts}
use Rattle.fabric.specs.declared.event.Failure.{Failure}
use Rattle.fabric.specs.declared.event.Failure.TheVariants.{Node}
use Rattle.fabric.specs.declared.event.Outcome.{Outcome}
use Rattle.fabric.specs.declared.event.Outcome.TheVariants.{Lost}
use Rattle.fabric.specs.declared.next_hop.NextHop.{NextHop}
use Rattle.fabric.specs.declared.packet.Loss.{Loss}
use Rattle.fabric.specs.declared.packet.Loss.TheVariants.{ColorCut, Inside, IsDestination, NoAlternate, NoRoute, Outside}
use Rattle.fabric.specs.declared.packet.Mode.TheVariants.{Entered, Primary}
use Rattle.fabric.specs.declared.packet.Packet.{Packet}
use Rattle.mrt_graph.specs.Alternate.{UsesOn}
use Rattle.mrt_graph.specs.Separates.{Separates}
use Rattle.mrt_graph.specs.declared.cert.Color.{Color}
use Rattle.mrt_graph.specs.declared.link.Element.{Element}

-- the packet's place has not failed, and its hop is cut
pub record IsCut (parts : FabricParts) (failure : Option Failure) (packet : Packet) : Type 0 where
  pub stands : failure ≢ Some (Node packet.place)
  pub hop : NextHop
  pub is : IsHop parts packet.mode packet.place packet.to hop
  pub cut : IsTrue (cuts failure hop)

-- by another element than its destination
abbrev pub IsCutOff : FabricParts → Option Failure → Packet → Type 0
IsCutOff parts failure packet = IsCut parts failure packet × (failure ≢ Some (Node packet.to))

-- its place and its destination are of the island
pub record IsInside (parts : FabricParts) (packet : Packet) (at to : ℕ) : Type 0 where
  pub place : node_at parts packet.place ≡ Some at
  pub destination : node_at parts packet.to ≡ Some to

-- the failed element separates its place and its destination in the island
pub record IsSeparated (parts : FabricParts) (failure : Option Failure) (packet : Packet) : Type 0 where
  pub at : ℕ
  pub to : ℕ
  pub inside : IsInside parts packet at to
  pub x : Element
  pub failed : element_of parts failure ≡ Some x
  pub separates : Separates parts.island.links x at to

-- the color's walk from its place to its destination uses the failed element
pub record IsOnWalk (parts : FabricParts) (failure : Option Failure) (packet : Packet) (color : Color) : Type 0 where
  pub at : ℕ
  pub to : ℕ
  pub inside : IsInside parts packet at to
  pub x : Element
  pub failed : element_of parts failure ≡ Some x
  pub uses : UsesOn parts.island.links (length parts.island.ids) parts.rows at to x color

-- the cause of each loss. Inside: its place has failed. NoRoute: in primary mode, its place has not failed, and no walk leads
-- to its destination. IsDestination: its hop is cut, and its destination has failed. The others: its hop is cut by another
-- element than its destination; it entered on a color, which is ColorCut; or it is in primary mode, and its place or its
-- destination is outside the island, which is Outside; or both are inside, and the failed element separates them there,
-- which is NoAlternate
abbrev pub Cause : FabricParts → Option Failure → Packet → Loss → Type 0
Cause parts failure packet Inside = failure ≡ Some (Node packet.place)
Cause parts failure packet NoRoute =
    (packet.mode ≡ Primary) × (failure ≢ Some (Node packet.place)) × IsUnreachable parts.area packet.place packet.to
Cause parts failure packet IsDestination = IsCut parts failure packet × (failure ≡ Some (Node packet.to))
Cause parts failure packet ColorCut = ((color : Color) × (packet.mode ≡ Entered color)) × IsCutOff parts failure packet
Cause parts failure packet Outside =
    (packet.mode ≡ Primary) × IsCutOff parts failure packet × ((node_at parts packet.place ≡ None) ⊎ (node_at parts packet.to ≡ None))
Cause parts failure packet NoAlternate =
    (packet.mode ≡ Primary) × IsCutOff parts failure packet × IsSeparated parts failure packet

-- a packet is lost exactly where the cause of the loss stands; and what cuts the hop of one that entered on a color is on
-- the walk of the color
pub record LossCauses (parts : FabricParts) (failure : Option Failure) (packet : Packet) (outcome : Outcome) : Type 0 where
  pub each : (loss : Loss) → (outcome ≡ Lost loss) ↔ Cause parts failure packet loss
  pub color_used : outcome ≡ Lost ColorCut → (color : Color) → packet.mode ≡ Entered color
      → IsOnWalk parts failure packet color
