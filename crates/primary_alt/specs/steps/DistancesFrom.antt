-- The arcs that distances from a node are found by.
use Rattle.std.specs.Prelude.{◌≡◌, ◌+◌, ℕ, List, IsPermutation, length, map}
use Rattle.area_graph.specs.declared.area_types.Arc.{Arc}
use Rattle.area_graph.specs.Parts.{AreaParts}
use Rattle.primary_alt.specs.steps.ArcsInto.{AreFromBelow, AreStartsInto}
use Rattle.primary_alt.specs.steps.Turned.{turned}

-- the arcs of an area turned round, by the node that they lead to then; and where those to each node begin
pub record AreItsArcs (area : AreaParts) (others : List Arc) (starts : List ℕ) : Type 0 where
  pub turned : IsPermutation (map turned area.arcs) others
  pub tails : AreFromBelow (length area.ids) others
  pub begin : AreStartsInto others starts
  pub rows : length starts ≡ length area.ids + 1
