-- What a source and its hops keep.
use Rattle.std.specs.Prelude.{◌≡◌, ◌<◌, ℕ, List, Option, length}
use Rattle.mrt_graph.specs.DirectedLists.{DirectedLists}
use Rattle.mrt_graph.specs.GraphInvariant.{IsTopology}
use Rattle.mrt_graph.specs.Topology.{Topology}
use Rattle.link_direction.specs.Directions.{Directions}
use Rattle.block_spf.specs.declared.reach.Hop.{Hop}
use Rattle.block_spf.specs.HasDirections.{HasDirections}
use Rattle.order_repair.specs.declared.source_view.SourceView.{SourceView}
use Rattle.order_repair.specs.Source.{AreHops}

-- s is a node of a graph with its directions, and there are hops up and down for each node
pub record IsSource (g : Topology) (d : DirectedLists) (s : ℕ) (up down : List (Option Hop)) : Type 0 where
  pub kept : IsTopology g
  pub directed : HasDirections g d
  pub within : s < length g.ids
  pub one_up_each : length up ≡ length g.ids
  pub one_down_each : length down ≡ length g.ids

-- s is a node of what is viewed, and there are hops up and down for each node
abbrev pub IsSourceIn : SourceView → ℕ → Type 0
IsSourceIn view s = IsSource view.graph.now view.directed.now s view.up.now view.down.now

-- these are the directions from this root, and the hops of s by them
abbrev pub AreHopsIn : SourceView → ℕ → Directions → ℕ → Type 0
AreHopsIn view root w s = AreHops view.graph.now view.directed.now root w s view.up.now view.down.now
