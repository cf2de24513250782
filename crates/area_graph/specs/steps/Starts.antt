-- Where the arcs of each node begin.
use Rattle.std.specs.Prelude.{◌≡◌, ◌≤◌, ◌+◌, ◌++◌, ℕ, zero, suc, List, [], ◌∷◌, length, nat_lt, count_by, slice_index_or}
use Rattle.area_graph.specs.declared.area_types.Arc.{Arc}

-- how many arcs leave a node below s
abbrev pub below : ℕ → List Arc → ℕ
below s arcs = count_by (λ arc. nat_lt arc.tail s) arcs

-- of each of that many nodes, and of their count, how many arcs leave a lower node
pub record AreStarts (count : ℕ) (arcs : List Arc) (starts : List ℕ) : Type 0 where
  pub one_each : length starts ≡ count + 1
  pub lower : (s : ℕ) → s ≤ count → slice_index_or starts s 0 ≡ below s arcs

-- of the nodes below s, each by how many arcs leave a lower node
abbrev pub starts_to : ℕ → List Arc → List ℕ
starts_to zero arcs = []
starts_to (suc s) arcs = starts_to s arcs ++ below s arcs ∷ []
