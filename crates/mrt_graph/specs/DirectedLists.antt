-- What a GADAG with its order holds.
use Rattle.std.specs.Prelude.{ℕ, List}
use Rattle.mrt_graph.specs.declared.gadag.Mark.{Mark}
use Rattle.mrt_graph.specs.declared.gadag.Place.{Place}

-- the order numbers and the places of the nodes, and the marks of the links, each by number
pub record DirectedLists : Type 0 where
  pub orders : List ℕ
  pub places : List Place
  pub marks : List Mark

abbrev pub directed_of : List ℕ → List Place → List Mark → DirectedLists
directed_of orders places marks = record { orders = orders; places = places; marks = marks }
