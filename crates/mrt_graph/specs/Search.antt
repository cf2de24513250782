-- A search along steps, which marks each node that it finds and lists it once, and follows the steps of the listed ones.
use Rattle.std.specs.Prelude.{◌≡◌, ◌⊎◌, ◌<◌, ◌+◌, ◌-◌, ℕ, Bool, true, false, not, List, [], ◌∷◌, ◌++◌, Some, if◌then◌else◌, length, replicate, slice_get, slice_index_or, count_by, Contains}

-- node v has its mark
abbrev pub IsMarked : List Bool → ℕ → Type 0
IsMarked marks v = slice_index_or marks v false ≡ true

-- how many nodes have no mark yet
abbrev pub unmarked : List Bool → ℕ
unmarked marks = count_by not marks

-- what a search does where it comes on the nodes that are `onto`: it marks those that have no mark, and lists them
pub record IsEntering (onto : ℕ → Type 0) (marks : List Bool) (found : List ℕ) (marks' : List Bool) (found' : List ℕ)
    : Type 0 where
  pub added : List ℕ
  pub grows : found' ≡ found ++ added
  pub kept : (v : ℕ) → IsMarked marks v → IsMarked marks' v
  pub all_of_them : (v : ℕ) → onto v → IsMarked marks' v
  pub only_them : (v : ℕ) → IsMarked marks' v → IsMarked marks v ⊎ onto v
  pub listed : (v : ℕ) → IsMarked marks' v → IsMarked marks v ⊎ Contains added v
  pub marked : (v : ℕ) → Contains added v → IsMarked marks' v
  pub fresh : (v : ℕ) → Contains added v → IsMarked marks v → ⊥

-- a search as it stands: of each node whether it was found, the found nodes in their order, and how many of these were followed
pub record SearchState : Type 0 where
  pub marks : List Bool
  pub found : List ℕ
  pub followed : ℕ

-- what is left to do: nodes to find, and found ones to follow
abbrev pub left_of : SearchState → ℕ
left_of search = unmarked search.marks + length search.found - search.followed

-- a search over so many nodes that has found `start` alone
pub record IsBegun (count start : ℕ) (search : SearchState) : Type 0 where
  pub one_each : length search.marks ≡ count
  pub none_followed : search.followed ≡ 0
  pub alone : search.found ≡ start ∷ []
  pub entering : IsEntering (λ v. v ≡ start) (replicate count false) [] search.marks search.found

-- the found nodes where a search comes on a node: the node is listed last, if it has no mark
abbrev pub found_with : SearchState → ℕ → List ℕ
found_with search node = if slice_index_or search.marks node false then search.found else search.found ++ node ∷ []

-- a search comes on the nodes that are `onto`, and follows none; it lists as many as it marks
pub record Enters (onto : ℕ → Type 0) (before after : SearchState) : Type 0 where
  pub one_each : length after.marks ≡ length before.marks
  pub same_followed : after.followed ≡ before.followed
  pub same_left : left_of after ≡ left_of before
  pub entering : IsEntering onto before.marks before.found after.marks after.found

-- a search hands out the first found node that was not followed, which then counts as followed
pub record HandsOut (before after : SearchState) (node : ℕ) : Type 0 where
  pub first : slice_get before.found before.followed ≡ Some node
  pub within : node < length before.marks
  pub same_marks : after.marks ≡ before.marks
  pub same_found : after.found ≡ before.found
  pub one_more : after.followed ≡ before.followed + 1
  pub less_left : left_of after < left_of before
