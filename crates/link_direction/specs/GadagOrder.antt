-- The order of a GADAG.
use Rattle.std.specs.Prelude.{◌≡◌, ◌<◌, ◌≤◌, ◌⊎◌, ◌++◌, ℕ, List, [], ◌∷◌, Some, Contains, slice_get}
use Rattle.mrt_graph.specs.declared.gadag.Mark.{Mark}
use Rattle.mrt_graph.specs.declared.link.End.{End}
use Rattle.mrt_graph.specs.Topology.{Topology}
use Rattle.gadag_ears.specs.Counted.{IsCounted}

-- a node outside the list is ready where a counted link enters it, and all that enter it come from nodes of the list
pub record IsReady (g : Topology) (marks : List Mark) (listed : List ℕ) (v : ℕ) : Type 0 where
  pub outside : ¬ Contains listed v
  pub entered : (e : ℕ) × (u : ℕ) × IsCounted g marks e u v
  pub from_list : (e u : ℕ) → IsCounted g marks e u v → Contains listed u

-- the latest node of the list with a counted link into v, and its place in the list
pub record IsLastBefore (g : Topology) (marks : List Mark) (listed : List ℕ) (v place u : ℕ) : Type 0 where
  pub there : slice_get listed place ≡ Some u
  pub enters : (e : ℕ) × IsCounted g marks e u v
  pub latest : (later t e : ℕ) → slice_get listed later ≡ Some t → IsCounted g marks e t v → later ≤ place

-- the place, among the ends of u, of the last one over which a counted link leads to v
pub record IsLastEnd (g : Topology) (marks : List Mark) (u v place : ℕ) : Type 0 where
  pub ends : List End
  pub list : slice_get g.ends u ≡ Some ends
  pub end : End
  pub there : slice_get ends place ≡ Some end
  pub counted : IsCounted g marks end.link u v
  pub last : (later : ℕ) (other : End) → slice_get ends later ≡ Some other → IsCounted g marks other.link u v
      → later ≤ place

-- where a ready node stands among the ready ones: by the place of the last node before it, then by the place of that
-- node's last counted end to it
pub record IsReadyAt (g : Topology) (marks : List Mark) (listed : List ℕ) (v place end_place : ℕ) : Type 0 where
  pub ready : IsReady g marks listed v
  pub before : ℕ
  pub last_before : IsLastBefore g marks listed v place before
  pub last_end : IsLastEnd g marks before v end_place

-- the ready node that stands first
pub record IsNextInOrder (g : Topology) (marks : List Mark) (listed : List ℕ) (v : ℕ) : Type 0 where
  pub place : ℕ
  pub end_place : ℕ
  pub ready : IsReadyAt g marks listed v place end_place
  pub first : (other other_place other_end : ℕ) → IsReadyAt g marks listed other other_place other_end
      → (place < other_place) ⊎ ((place ≡ other_place) × (end_place ≤ other_end))

-- the lists that come about: the root alone, then each list with the ready node that stands first at its end
pub data IsGadagOrder (g : Topology) (root : ℕ) (marks : List Mark) : List ℕ → Type 0 where
  Begun : IsGadagOrder g root marks (root ∷ [])
  Next : (listed : List ℕ) (v : ℕ) → IsGadagOrder g root marks listed → IsNextInOrder g marks listed v
      → IsGadagOrder g root marks (listed ++ v ∷ [])

-- the whole list: no node is ready
pub record IsWholeOrder (g : Topology) (root : ℕ) (marks : List Mark) (order : List ℕ) : Type 0 where
  pub ordered : IsGadagOrder g root marks order
  pub ended : (v : ℕ) → ¬ IsReady g marks order v
