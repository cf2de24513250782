-- How the entries of a tile lie.
use Rattle.std.specs.Prelude.{◌≡◌, ◌*◌, ℕ, List, length}
use Rattle.block_spf.specs.steps.Side.{AreCosts}
use Rattle.block_spf.specs.TileEntries.{TileEntries}

-- the entries of a tile, of these parts
abbrev pub tile_entries : ℕ → ℕ → List ℕ → List ℕ → TileEntries
tile_entries nodes width costs links = record { nodes = nodes; width = width; costs = costs; links = links }

-- there are as many entries as a tile has, no cost is more than far, and there is room for those of one node
pub record AreTileEntries (nodes width room : ℕ) (costs links : List ℕ) : Type 0 where
  pub one_cost_each : length costs ≡ nodes * width
  pub one_link_each : length links ≡ nodes * width
  pub most : AreCosts costs
  pub one_place_each : room ≡ width
