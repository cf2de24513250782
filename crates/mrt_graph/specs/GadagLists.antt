-- What a GADAG holds.
use Rattle.std.specs.Prelude.{ℕ, List}
use Rattle.mrt_graph.specs.declared.gadag.Mark.{Mark}
use Rattle.mrt_graph.specs.declared.gadag.Place.{Place}

-- the ear order, then the places of the nodes and the marks of the links, these two by number
pub record GadagLists : Type 0 where
  pub order : List ℕ
  pub places : List Place
  pub marks : List Mark

abbrev pub gadag_of : List ℕ → List Place → List Mark → GadagLists
gadag_of order places marks = record { order = order; places = places; marks = marks }
