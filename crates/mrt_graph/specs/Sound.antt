-- Rows that are sound.
use Rattle.std.specs.Prelude.{◌≢◌, ◌<◌, ℕ, List}
use Rattle.mrt_graph.specs.declared.cert.Color.TheVariants.{Blue, Red}
use Rattle.mrt_graph.specs.declared.link.Link.{Link}
use Rattle.mrt_graph.specs.Apart.{Apart}
use Rattle.mrt_graph.specs.Reaches.{Reaches}
use Rattle.mrt_graph.specs.Rows.{Rows}

-- both color walks from s reach t, and they share only what separates s and t
pub record SoundFor (links : List Link) (n : ℕ) (rows : Rows) (s t : ℕ) : Type 0 where
  pub blue : Reaches links n rows Blue s t
  pub red : Reaches links n rows Red s t
  pub apart : Apart links n rows s t

-- the rows of n nodes on these links, whoever made them, are sound: they are so for each two different nodes
abbrev pub Sound : List Link → ℕ → Rows → Type 0
Sound links n rows = (s t : ℕ) → s < n → t < n → s ≢ t → SoundFor links n rows s t
