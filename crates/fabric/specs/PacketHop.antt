-- The hops of packets: of a primary those of RFC 2328, section 16.1.
use Rattle.std.specs.Prelude.{◌≡◌, ◌≢◌, ◌==◌, ◌||◌, ℕ, Bool, false, List, Option, Some, None, slice_get}
use Rattle.std.specs.Option.{option_and_then, option_map}
use Rattle.area_graph.specs.declared.area_types.Arc.{Arc}
use Rattle.fabric.specs.FabricParts.{FabricParts, link_at, node_at}
use Rattle.fabric.specs.declared.event.Failure.{Failure}
use Rattle.fabric.specs.declared.event.Failure.TheVariants.{Bond, Node}
use Rattle.fabric.specs.declared.next_hop.Crossing.{Crossing}
use Rattle.fabric.specs.declared.next_hop.NextHop.{NextHop}
use Rattle.fabric.specs.declared.packet.Mode.{Mode}
use Rattle.fabric.specs.declared.packet.Mode.TheVariants as modes
use Rattle.mrt_graph.specs.GraphInvariant.{IsNetwork}
use Rattle.mrt_graph.specs.Hop.{Hop, color_hop}
use Rattle.mrt_graph.specs.declared.cert.Color.{Color}
use Rattle.primary_alt.specs.Primaries.{IsPrimary}
use Rattle.primary_alt.specs.declared.shortest.Primary.{Primary}

-- whether a failure is the bond of a crossing, or the node after it
abbrev pub is_on : Failure → Crossing → Bool
is_on (Node v) crossing = v == crossing.node
is_on (Bond b) crossing = b == crossing.bond

-- whether it is so of the second crossing, if there is one
abbrev pub is_on_second : Failure → Option Crossing → Bool
is_on_second failed None = false
is_on_second failed (Some crossing) = is_on failed crossing

-- whether a failure cuts a hop: it is on one of its crossings
abbrev pub cuts : Option Failure → NextHop → Bool
cuts None hop = false
cuts (Some failed) hop = is_on failed hop.first || is_on_second failed hop.second

-- over an arc: its bond, and the node that it leads to
abbrev pub over_arc : Arc → Crossing
over_arc arc = record { bond = arc.bond; node = arc.to }

-- over the arc of the first number, and over that of the second one, if there is one, to the next; none where one of these
-- arcs is not there
abbrev pub hop_over : List Arc → ℕ → Option ℕ → ℕ → Option NextHop
hop_over arcs first None next =
    option_map (λ arc. record { first = over_arc arc; second = None; next = next }) (slice_get arcs first)
hop_over arcs first (Some second) next =
    option_and_then
    (λ arc. option_map (λ onward. record { first = over_arc arc; second = Some (over_arc onward); next = next }) (slice_get arcs second))
    (slice_get arcs first)

-- in primary mode: over the arcs of the primary of x for t
pub record IsPrimaryHop (parts : FabricParts) (x t : ℕ) (hop : NextHop) : Type 0 where
  pub primary : Primary
  pub is : IsPrimary parts.area x t (Some primary)
  pub over : hop_over parts.area.arcs primary.first primary.second primary.next ≡ Some hop

-- on a color of island node n for island node d: over the bond that is the link of the row, to the node that it leads to
pub record IsOver (parts : FabricParts) (color : Color) (n d : ℕ) (crossing : Crossing) : Type 0 where
  pub hop : Hop
  pub row : color_hop parts.island.links parts.rows color d n ≡ Some hop
  pub link : link_at parts crossing.bond ≡ Some hop.link
  pub node : node_at parts crossing.node ≡ Some hop.to

-- on a color: over the link of the row of x for t to its other node; if this node is a network other than t, also over
-- the link of its row for t to the other node of that link
pub data IsColorHop (parts : FabricParts) (color : Color) (x t : ℕ) : NextHop → Type 0 where
  Straight : (n d : ℕ) (first : Crossing) → node_at parts x ≡ Some n → node_at parts t ≡ Some d
      → IsOver parts color n d first → ¬ (IsNetwork parts.area.ids first.node × (first.node ≢ t))
      → IsColorHop parts color x t (record { first = first; second = None; next = first.node })
  OverNetwork : (n d m : ℕ) (first second : Crossing) → node_at parts x ≡ Some n → node_at parts t ≡ Some d
      → IsOver parts color n d first → IsNetwork parts.area.ids first.node → first.node ≢ t
      → node_at parts first.node ≡ Some m → IsOver parts color m d second
      → IsColorHop parts color x t (record { first = first; second = Some second; next = second.node })

-- the hop of a packet in that mode from x for t
abbrev pub IsHop : FabricParts → Mode → ℕ → ℕ → NextHop → Type 0
IsHop parts modes.Primary x t hop = IsPrimaryHop parts x t hop
IsHop parts (modes.Entered color) x t hop = IsColorHop parts color x t hop
IsHop parts (modes.Switched color) x t hop = IsColorHop parts color x t hop
