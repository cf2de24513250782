-- What happens to a packet where it is handled once (RFC 7812, section 5, for the switch to a color; the causes of loss are
-- this project's).
use Rattle.std.specs.Prelude.{◌≡◌, ◌==◌, ◌⊎◌, ℕ, Bool, true, false, List, Option, Some, None, length, if◌then◌else◌}
use Rattle.area_graph.specs.Parts.{AreaParts}
use Rattle.area_graph.specs.declared.area_types.Arc.{Arc}
use Rattle.fabric.specs.FabricParts.{FabricParts, element_of, node_at}
use Rattle.fabric.specs.PacketHop.{IsHop, cuts}
use Rattle.fabric.specs.declared.event.Failure.{Failure}
use Rattle.fabric.specs.declared.event.Failure.TheVariants.{Bond, Node}
use Rattle.fabric.specs.declared.event.Outcome.{Outcome}
use Rattle.fabric.specs.declared.event.Outcome.TheVariants.{Delivered, Lost, Moved, Switched}
use Rattle.fabric.specs.declared.next_hop.NextHop.{NextHop}
use Rattle.fabric.specs.declared.packet.Loss.TheVariants.{ColorCut, Inside, IsDestination, NoAlternate, NoRoute, Outside}
use Rattle.fabric.specs.declared.packet.Mode.{Mode}
use Rattle.fabric.specs.declared.packet.Mode.TheVariants as modes
use Rattle.fabric.specs.declared.packet.Packet.{Packet}
use Rattle.mrt_graph.specs.Alternate.{IsAlternate}
use Rattle.mrt_graph.specs.declared.cert.Color.{Color}
use Rattle.primary_alt.specs.ArcWalk.{ArcWalk}

-- no walk of the area leads from x to t
abbrev pub IsUnreachable : AreaParts → ℕ → ℕ → Type 0
IsUnreachable area x t = (walk : List Arc) → ¬ ArcWalk area.arcs x walk t

-- whether a node has failed
abbrev pub has_failed : Option Failure → ℕ → Bool
has_failed None v = false
has_failed (Some (Node s)) v = s == v
has_failed (Some (Bond b)) v = false

-- the hop of a packet in that mode from x for t; none where the mode is primary and no walk leads to t
abbrev pub IsHopOrNone : FabricParts → Mode → ℕ → ℕ → Option NextHop → Type 0
IsHopOrNone parts mode x t None = (mode ≡ modes.Primary) × IsUnreachable parts.area x t
IsHopOrNone parts mode x t (Some hop) = IsHop parts mode x t hop

-- the repair of a packet after a failure: the alternate of its place for its destination; none where one of these is
-- outside the island
pub data IsRepair (parts : FabricParts) (failure : Option Failure) (packet : Packet) : Option (Option Color) → Type 0 where
  IsOutside : (node_at parts packet.place ≡ None) ⊎ (node_at parts packet.to ≡ None) → IsRepair parts failure packet None
  IsInside : (at to : ℕ) (answer : Option Color) → node_at parts packet.place ≡ Some at → node_at parts packet.to ≡ Some to
      → IsAlternate parts.island.links (length parts.island.ids) parts.rows at to (element_of parts failure) answer
      → IsRepair parts failure packet (Some answer)

-- what happens to a packet whose hop is cut by another element than its destination: it is lost on a color; in primary
-- mode it is lost where its place or its destination is outside the island, and where the alternate is none; else it
-- stays, and is switched to the alternate
abbrev pub repaired : Mode → Option (Option Color) → Outcome
repaired (modes.Entered color) repair = Lost ColorCut
repaired (modes.Switched color) repair = Lost ColorCut
repaired modes.Primary None = Lost Outside
repaired modes.Primary (Some None) = Lost NoAlternate
repaired modes.Primary (Some (Some color)) = Switched color

-- what happens to a packet with a hop, by whether this is cut, and whether its destination has failed: where its hop is not
-- cut it moves to the next node, and is delivered if this is its destination
abbrev pub sent : Packet → NextHop → Bool → Bool → Option (Option Color) → Outcome
sent packet hop false ended repair = if hop.next == packet.to then Delivered packet.to else Moved hop.next
sent packet hop true true repair = Lost IsDestination
sent packet hop true false repair = repaired packet.mode repair

-- what happens to a packet, by whether its place has failed, and by its hop, if it has one
abbrev pub handled : Option Failure → Packet → Bool → Option NextHop → Option (Option Color) → Outcome
handled failure packet true hop repair = Lost Inside
handled failure packet false None repair = Lost NoRoute
handled failure packet false (Some hop) repair =
    sent packet hop (cuts failure hop) (has_failed failure packet.to) repair

-- a packet is handled so: by its hop and its repair, the first line of these tables that applies. Where its place has failed
-- no hop is asked for
pub record IsHandled (parts : FabricParts) (failure : Option Failure) (packet : Packet) (outcome : Outcome) : Type 0 where
  pub hop : Option NextHop
  pub hop_is : has_failed failure packet.place ≡ false → IsHopOrNone parts packet.mode packet.place packet.to hop
  pub repair : Option (Option Color)
  pub repair_is : IsRepair parts failure packet repair
  pub is : outcome ≡ handled failure packet (has_failed failure packet.place) hop repair
