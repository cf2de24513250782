-- What can be reached, over any relation of steps between nodes.
use Rattle.std.specs.Prelude.{◌≡◌, ℕ, List, [], ◌∷◌}

-- a path from s to t is a list of nodes: the empty one from s to s; else a step leads from s to the first of them, and
-- the rest is a path from there to t
abbrev pub Path : (ℕ → ℕ → Type 0) → ℕ → List ℕ → ℕ → Type 0
Path step s [] t = s ≡ t
Path step s (v ∷ vs) t = step s v × Path step v vs t

-- some path leads from s to t
abbrev pub Reachable : (ℕ → ℕ → Type 0) → ℕ → ℕ → Type 0
Reachable step s t = (path : List ℕ) × Path step s path t
