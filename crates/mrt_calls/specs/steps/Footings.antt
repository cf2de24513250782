-- What the rows of a router's table are made from.
use Rattle.std.specs.Prelude.{◌≡◌, ◌<◌, ℕ, Ok, Some, length, slice_get}
use Rattle.area_graph.specs.Fits.{Fits}
use Rattle.mrt_graph.specs.NodeIds.{router as router_node}
use Rattle.primary_alt.specs.Primaries.{ArePrimaries}
use Rattle.mrt_answer.specs.Input.{Input, area}
use Rattle.mrt_answer.specs.Islands.{island_in}
use Rattle.mrt_answer.specs.declared.table.Parts.{Parts}
use Rattle.mrt_calls.specs.declared.footing.Footing.{Footing}

-- they are the router's, by its number in the island and its number in the area
pub record IsFootingIn (router : ℕ) (footing : Footing) : Type 0 where
  pub source_is : slice_get footing.net.island.graph.ids footing.source ≡ Some (router_node router)
  pub spot : ℕ
  pub spot_is : slice_get footing.net.area.ids spot ≡ Some (router_node router)
  pub primaries_are : ArePrimaries footing.net.area spot footing.primaries.items

-- in the area of an input, and in the router's island there
pub record IsFooting (input : Input) (router : ℕ) (footing : Footing) : Type 0 where
  pub area_is : footing.net.area ≡ area input
  pub island_is : island_in input router (Ok footing.net.island)
  pub fits : Fits footing.net.area footing.net.island.graph footing.net.island.link_of
  pub root : footing.net.island.root < length footing.net.island.graph.ids
  pub own : IsFootingIn router footing

-- these are the parts
pub record ArePartsOf (footing : Footing) (parts : Parts) : Type 0 where
  pub area_is : parts.area.now ≡ footing.net.area
  pub island_is : parts.island.now ≡ footing.net.island.graph
  pub links_are : parts.link_of.now ≡ footing.net.island.link_of
  pub source_is : parts.source ≡ footing.source
  pub primaries_are : parts.primaries.now ≡ footing.primaries.items
