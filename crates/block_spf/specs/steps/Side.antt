-- Least costs side by side, step by step.
use Rattle.std.specs.Prelude.{◌≡◌, ◌≢◌, ◌==◌, ◌<◌, ◌≤◌, ◌⊎◌, ◌+◌, ◌*◌, ℕ, List, Some, length, nat_lt, slice_get, slice_index, if◌then◌else◌}
use Rattle.mrt_graph.specs.declared.link.End.{End}
use Rattle.block_spf.specs.FirstLink.{no_link}
use Rattle.block_spf.specs.Rest.{far}

-- the lower cost of the two, the old one where they are equal
abbrev pub lesser : ℕ → ℕ → ℕ
lesser cost old = if nat_lt cost old then cost else old

-- and the link with it
abbrev pub link_of_lesser : ℕ → ℕ → ℕ → ℕ → ℕ
link_of_lesser cost old link old_link = if nat_lt cost old then link else old_link

-- the cost from node y to node t where no end is left: nothing, or far
abbrev pub cost_at : ℕ → ℕ → ℕ
cost_at y t = if y == t then 0 else far

-- what is left after an end of x, where this is left at the node that it leads to: none, where the aim is x itself
abbrev pub left_onward : ℕ → ℕ → ℕ → ℕ
left_onward x aim left = if aim == x then far else left

-- the cost from x to an aim: none at x itself
abbrev pub cost_from : ℕ → ℕ → ℕ → ℕ
cost_from x aim cost = if aim == x then 0 else cost

-- none is more than far
abbrev pub AreCosts : List ℕ → Type 0
AreCosts costs = (i : ℕ) → slice_index costs i ≤ far

-- each cost was replaced where the path over an end is less, after which so much is left
pub record AreTaken (left : ℕ → ℕ) (metric link : ℕ) (costs links costs' links' : List ℕ) : Type 0 where
  pub each : (j : ℕ) → j < length costs → slice_index costs' j ≡ lesser (left j + metric) (slice_index costs j)
  pub links_each : (j : ℕ) → j < length costs
      → slice_index links' j ≡ link_of_lesser (left j + metric) (slice_index costs j) link (slice_index links j)

-- a path of this cost was taken at place j, where it is less
pub record IsTakenAt (j cost link : ℕ) (costs links costs' links' : List ℕ) : Type 0 where
  pub here : slice_index costs' j ≡ lesser cost (slice_index costs j)
  pub link_here : slice_index links' j ≡ link_of_lesser cost (slice_index costs j) link (slice_index links j)
  pub elsewhere : (i : ℕ) → i ≢ j → slice_index costs' i ≡ slice_index costs i
  pub links_elsewhere : (i : ℕ) → i ≢ j → slice_index links' i ≡ slice_index links i

-- the places of node x, of so many for each node, have this, and the others are as they were
pub record IsRowPut (x width : ℕ) (row : ℕ → ℕ) (all all' : List ℕ) : Type 0 where
  pub one_each : length all' ≡ length all
  pub there : (j : ℕ) → j < width → slice_index all' (x * width + j) ≡ row j
  pub elsewhere : (i : ℕ) → (i < x * width) ⊎ (x * width + width ≤ i) → slice_index all' i ≡ slice_index all i

-- over the end at place `place`: Begins says of which cost there are paths that begin with the end at a place
pub record IsFirstOverEnds (Begins : ℕ → ℕ → Type 0) (ends : List End) (count cost link : ℕ) : Type 0 where
  pub place : ℕ
  pub before : place < count
  pub end : End
  pub there : slice_get ends place ≡ Some end
  pub begins : Begins place cost
  pub none_before : (other : ℕ) → other < place → ¬ Begins other cost
  pub over : link ≡ end.link

-- the least cost of the paths that begin with one of the first ends, and the link of the first that begins one of it; far
-- and no link where no path does
pub record IsLeastOverEnds (Begins : ℕ → ℕ → Type 0) (ends : List End) (count cost link : ℕ) : Type 0 where
  pub most : cost ≤ far
  pub reached : cost < far → IsFirstOverEnds Begins ends count cost link
  pub unreached : far ≤ cost → link ≡ no_link
  pub least : (place other : ℕ) → place < count → Begins place other → cost ≤ other
