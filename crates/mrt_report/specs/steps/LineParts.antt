-- Parts of lines that belong together.
use Rattle.std.specs.Prelude.{◌≢◌, ◌<◌, ℕ, IfSome, IsSome, length}
use Rattle.area_graph.specs.AreaInvariant.{IsArea}
use Rattle.area_graph.specs.Fits.{Fits}
use Rattle.mrt_graph.specs.declared.cert.Color.{Color}
use Rattle.mrt_graph.specs.GraphInvariant.{IsTopology}
use Rattle.mrt_graph.specs.Hop.{color_hop}
use Rattle.primary_alt.specs.declared.shortest.Primary.{Primary}
use Rattle.mrt_report.specs.LineParts.{LineParts}

-- the parts belong together, and from each other node both colors lead on to the destination
pub record AreLineParts (parts : LineParts) (to : ℕ) : Type 0 where
  pub area_kept : IsArea parts.area
  pub island_kept : IsTopology parts.island
  pub fits : Fits parts.area parts.island parts.link_of
  pub within : parts.source < length parts.island.ids
  pub target : to < length parts.island.ids
  pub different : parts.source ≢ to
  pub leads_on : (color : Color) (s : ℕ) → s < length parts.island.ids → s ≢ to
      → IsSome (color_hop parts.island.links parts.rows color to s)

-- so, and the arcs of the router's primary are arcs of the area
pub record AreAllParts (parts : LineParts) (to : ℕ) (primary : Primary) : Type 0 where
  pub kept : AreLineParts parts to
  pub first : primary.first < length parts.area.arcs
  pub second : IfSome primary.second (λ second. second < length parts.area.arcs)
