-- The rows of all nodes.
use Rattle.std.specs.Prelude.{◌≡◌, ℕ, Option}
use Rattle.mrt_graph.specs.declared.cert.Color.{Color}
use Rattle.mrt_graph.specs.declared.cert.Color.TheVariants.{Blue, Red}
use Rattle.mrt_graph.specs.declared.cert.Row.{Row}

-- rows: for a node and a destination other than it, the row of the one for the other, if there is one; those of a
-- certificate or any others
abbrev pub Rows : Type 0
Rows = ℕ → ℕ → Option Row

-- the link of a color in a row
abbrev pub link_of_color : Color → Row → ℕ
link_of_color Blue row = row.blue
link_of_color Red row = row.red

-- all nodes have the same rows for t
abbrev pub AreSameFor : ℕ → Rows → Rows → Type 0
AreSameFor t rows others = (s : ℕ) → rows s t ≡ others s t
