-- What blocks aim at: for each of some places side by side, each block at one node.
use Rattle.std.specs.Prelude.{◌≡◌, ◌≢◌, ◌<◌, ◌+◌, ◌*◌, ℕ, List, length, slice_index}
use Rattle.mrt_graph.specs.Topology.{Topology}
use Rattle.link_direction.specs.CommonBlock.{HaveCommonBlock}
use Rattle.link_direction.specs.Directions.{Directions}

-- what block k aims at, at place j of so many
abbrev pub aim_at : List ℕ → ℕ → ℕ → ℕ → ℕ
aim_at aims width j k = slice_index aims (k * width + j)

-- s aims at t: their common block does, and each other block of s at s itself
pub record IsAimOf (g : Topology) (w : Directions) (aim : ℕ → ℕ) (s t : ℕ) : Type 0 where
  pub aimed : (k h : ℕ) → HaveCommonBlock w s t k h → aim k ≡ t
  pub alone : (u k h : ℕ) → u < length g.ids → s ≢ u → HaveCommonBlock w s u k h → aim k ≢ s → aim k ≡ t

-- each block aims at its head, at each of so many places
pub record AreHeadAims (g : Topology) (w : Directions) (width : ℕ) (aims : List ℕ) : Type 0 where
  pub each : (j y : ℕ) → j < width → y < length g.ids → aim_at aims width j (w.block y) ≡ w.head y
