-- What the rows of one node are read from.
use Rattle.std.specs.Prelude.{◌≡◌, ◌<◌, ◌-◌, ◌*◌, ℕ, List, Option, IfSome, length}
use Rattle.std.specs.Option.{option_map}
use Rattle.mrt_graph.specs.declared.cert.Row.{Row}
use Rattle.mrt_graph.specs.declared.relatives.BlockPlaces.{BlockPlaces}
use Rattle.mrt_graph.specs.steps.BlockPlaces.{AreBlockPlaces}
use Rattle.mrt_graph.specs.Certificate.{Certificate}
use Rattle.mrt_graph.specs.steps.FoldedRows.{IsHeld, held}
use Rattle.mrt_graph.specs.Kin.{Kin}

-- the certificate holds these rows: all of them, or with an index those of related nodes
pub record AreHeldRows (c : Certificate) (rows : List Row) (kin : Option Kin) : Type 0 where
  pub same : held c.nodes c.links rows kin ≡ c
  pub kept : IsHeld c.nodes c.links rows kin

-- the places serve for node s
pub record ArePlacesOf (s : ℕ) (places : BlockPlaces) : Type 0 where
  pub are : AreBlockPlaces places
  pub node : places.node ≡ s

-- so the node's rows are read from these
pub record AreNodeRows (c : Certificate) (rows : List Row) (s begin : ℕ) (at : Option BlockPlaces) : Type 0 where
  pub within : s < length c.nodes
  pub first : begin ≡ s * (length c.nodes - 1)
  pub held : AreHeldRows c rows (option_map (λ p. p.relatives.now) at)
  pub places : IfSome at (ArePlacesOf s)
