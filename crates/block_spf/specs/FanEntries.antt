-- The entries of a fan.
use Rattle.std.specs.Prelude.{ℕ, List}

-- for each of so many nodes, and for each of so many sources side by side, a cost and the place of an end of the source
pub record FanEntries : Type 0 where
  pub nodes : ℕ
  pub width : ℕ
  pub costs : List ℕ
  pub places : List ℕ
