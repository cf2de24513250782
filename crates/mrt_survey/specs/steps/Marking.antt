-- Marks that are made.
use Rattle.std.specs.Prelude.{◌⊎◌, ◌↔◌, ℕ, Bool, List, Contains}
use Rattle.mrt_graph.specs.Search.{IsMarked}

-- just what was marked, and each of these numbers, is marked
abbrev pub IsMarkedToo : List ℕ → List Bool → List Bool → Type 0
IsMarkedToo numbers before after = (k : ℕ) → (IsMarked after k) ↔ (IsMarked before k ⊎ Contains numbers k)
