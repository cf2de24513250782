-- The entries of a tile.
use Rattle.std.specs.Prelude.{ℕ, List}

-- for each of so many nodes, and for each of so many places side by side, a cost and a link
pub record TileEntries : Type 0 where
  pub nodes : ℕ
  pub width : ℕ
  pub costs : List ℕ
  pub links : List ℕ
