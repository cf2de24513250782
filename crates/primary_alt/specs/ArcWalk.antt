-- Walks along the arcs of an area (RFC 2328, section 16.1).
use Rattle.std.specs.Prelude.{◌≡◌, ◌+◌, ℕ, List, [], ◌∷◌, Contains}
use Rattle.area_graph.specs.declared.area_types.Arc.{Arc}

-- from s to t, a walk along these arcs: each arc of it leaves the node where the one before it leads
abbrev pub ArcWalk : List Arc → ℕ → List Arc → ℕ → Type 0
ArcWalk arcs s [] t = s ≡ t
ArcWalk arcs s (arc ∷ more) t = Contains arcs arc × (arc.tail ≡ s) × ArcWalk arcs arc.to more t

-- the cost of a walk: the sum of the metrics of its arcs
abbrev pub cost_of : List Arc → ℕ
cost_of [] = 0
cost_of (arc ∷ more) = arc.metric + cost_of more
