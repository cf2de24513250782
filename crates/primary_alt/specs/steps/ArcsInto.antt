-- Arcs by the node that they lead to.
use Rattle.std.specs.Prelude.{◌≡◌, ◌<◌, ◌≤◌, ℕ, List, Contains, length, slice_index_or}
use Rattle.std.specs.List.{AllWithin}
use Rattle.area_graph.specs.declared.area_types.Arc.{Arc}

-- of these arcs, those that lead to v
pub record AreInto (arcs : List Arc) (v : ℕ) (row : List Arc) : Type 0 where
  pub only : (arc : Arc) → Contains row arc → Contains arcs arc × (arc.to ≡ v)
  pub all : (arc : Arc) → Contains arcs arc → arc.to ≡ v → Contains row arc

-- the arcs below that place lead to nodes below v, and those from it on to v and higher nodes
pub record IsStartInto (arcs : List Arc) (v place : ℕ) : Type 0 where
  pub within : place ≤ length arcs
  pub lower : AllWithin (λ arc. arc.to < v) arcs 0 place
  pub others : AllWithin (λ arc. v ≤ arc.to) arcs place (length arcs)

-- where the arcs to each of the nodes begin
abbrev pub AreStartsInto : List Arc → List ℕ → Type 0
AreStartsInto arcs starts = (v : ℕ) → v < length starts → IsStartInto arcs v (slice_index_or starts v 0)

-- each of the arcs leaves a node below that many
abbrev pub AreFromBelow : ℕ → List Arc → Type 0
AreFromBelow count arcs = (arc : Arc) → Contains arcs arc → arc.tail < count
