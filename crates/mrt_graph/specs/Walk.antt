-- Walks.
use Rattle.std.specs.Prelude.{◌≡◌, ℕ, List, [], ◌∷◌, Some}
use Rattle.mrt_graph.specs.declared.link.Link.{Link}
use Rattle.mrt_graph.specs.Leads.{leads}

-- a walk from s to t is a list of links: the empty one from s to s; else the first link touches s, and the rest is a walk from its other node to t;
-- it may meet a node more than once
abbrev pub Walk : List Link → ℕ → List ℕ → ℕ → Type 0
Walk links s [] t = s ≡ t
Walk links s (e ∷ es) t = (v : ℕ) × (leads links e s ≡ Some v) × Walk links v es t
