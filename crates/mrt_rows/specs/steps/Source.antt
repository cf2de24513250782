-- A source: a node, with what its rows for all others are made from.
use Rattle.std.specs.Prelude.{◌<◌, length}
use Rattle.mrt_graph.specs.Topology.{Topology}
use Rattle.link_direction.specs.Directions.{Directions}
use Rattle.mrt_rows.specs.declared.row_over.Source.{Source}
use Rattle.mrt_rows.specs.steps.NearOf.{IsPlaceOf}
use Rattle.mrt_rows.specs.NearOf.{IsSoleOf}
use Rattle.mrt_rows.specs.Put.{AreFirstLinks}

-- its place, the sole link of its block and its links home are as the directions say
pub record IsSourceBy (g : Topology) (w : Directions) (source : Source) : Type 0 where
  pub within : source.node < length g.ids
  pub place : IsPlaceOf w source.node source.place
  pub sole : IsSoleOf g w source.node source.sole
  pub home : AreFirstLinks g w source.node (w.head source.node) source.home
