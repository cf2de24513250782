-- The paths that begin with the ends of a node, when what is left after each end is known.
use Rattle.std.specs.Prelude.{◌≡◌, ◌≢◌, ◌==◌, ◌<◌, ◌+◌, ◌*◌, ℕ, Bool, true, false, List, Some, length, slice_get, slice_index, if◌then◌else◌}
use Rattle.mrt_graph.specs.declared.link.End.{End}
use Rattle.mrt_graph.specs.Topology.{Topology}
use Rattle.link_direction.specs.Directions.{Directions}
use Rattle.block_spf.specs.declared.aiming.Aiming.{Aiming}
use Rattle.block_spf.specs.declared.reach.Dir.{Dir}
use Rattle.block_spf.specs.BlockAims.{aim_at}
use Rattle.block_spf.specs.HasDirections.{AreDirections}
use Rattle.block_spf.specs.LeastPath.{HasMoreLinks}
use Rattle.block_spf.specs.Path.{IsStep, cost_of}
use Rattle.block_spf.specs.steps.Rest.{IsRestCost, Rest}
use Rattle.block_spf.specs.steps.Side.{IsLeastOverEnds, cost_at, left_onward}

-- what paths are sought: in a graph with its directions, up or down, over the blocks that are marked
pub record Sought : Type 0 where
  pub g : Topology
  pub w : Directions
  pub dir : Dir
  pub wanted : List Bool

-- those of a tile that is aimed so
abbrev pub sought : Aiming → Directions → Sought
sought aiming w = record { g = aiming.graph.now; w = w; dir = aiming.dir; wanted = aiming.wanted.now }

-- of block k, in which node y lies, h is the head
pub data HasHeadBy (w : Directions) (k h y : ℕ) : Type 0 where
  Inside : w.block y ≡ k → w.head y ≡ h → HasHeadBy w k h y
  AtHead : w.block y ≢ k → y ≡ h → HasHeadBy w k h y

-- block k has more than one link, and is marked
pub record IsWantedBlock (it : Sought) (k : ℕ) : Type 0 where
  pub more : HasMoreLinks it.g it.w k
  pub marked : slice_get it.wanted k ≡ Some true

-- with the end of x at this place begins a path of this cost to what its block aims at, in a block that is wanted;
-- in that of x, where it is kept to its own block, else in one that does not aim at x itself
pub record BeginsAt (it : Sought) (own : Bool) (x : ℕ) (aim : ℕ → ℕ) (place cost : ℕ) : Type 0 where
  pub k : ℕ
  pub h : ℕ
  pub end : End
  pub step : IsStep it.g it.w it.dir k x end
  pub here : step.place ≡ place
  pub in_wanted : IsWantedBlock it k
  pub kept_to : own ≡ true → k ≡ it.w.block x
  pub onward : own ≡ false → aim k ≢ x
  pub head : HasHeadBy it.w k h end.to
  pub others : List End
  pub rest : Rest it.g it.w it.dir k h end.to others (aim k)
  pub costs : end.metric + cost_of others ≡ cost

-- of block k, what is left after an end of x to node y on the way to its aim, where `rest` is left at y in its own block
abbrev pub left_after : Directions → Bool → ℕ → ℕ → ℕ → ℕ → ℕ → ℕ
left_after w own x k y aim rest = if w.block y == k then (if own then rest else left_onward x aim rest) else cost_at y aim

-- so at place j of so many, by the costs of all nodes from their own blocks
abbrev pub left_at : Aiming → Directions → Bool → ℕ → ℕ → ℕ → List ℕ → ℕ → ℕ → ℕ
left_at aiming w own x k y all width j = left_after w own x k y (aim_at aiming.aims.now width j k) (slice_index all (y * width + j))

-- the costs of node y from its own block to what that aims at are known
pub record IsReadyFrom (aiming : Aiming) (w : Directions) (width : ℕ) (all : List ℕ) (y : ℕ) : Type 0 where
  pub each : (j : ℕ) → j < width
      → IsRestCost aiming.graph.now w aiming.dir (w.block y) (w.head y) y (aim_at aiming.aims.now width j (w.block y)) (slice_index all (y * width + j))

-- so for each node to which an end leads on in its block, where that is wanted
pub record AreReady (aiming : Aiming) (w : Directions) (own : Bool) (width : ℕ) (all : List ℕ) (x : ℕ) : Type 0 where
  pub each : (k : ℕ) (end : End) → IsWantedBlock (sought aiming w) k → IsStep aiming.graph.now w aiming.dir k x end → (own ≡ true → k ≡ w.block x)
      → w.block end.to ≡ k → IsReadyFrom aiming w width all end.to

-- the least paths over the first ends, at each place
pub record AreLeast (aiming : Aiming) (w : Directions) (own : Bool) (width x : ℕ) (ends : List End) (count : ℕ) (costs links : List ℕ) : Type 0 where
  pub each : (j : ℕ) → j < width
      → IsLeastOverEnds (BeginsAt (sought aiming w) own x (aim_at aiming.aims.now width j)) ends count (slice_index costs j) (slice_index links j)

-- those over all ends of x, by whatever directions the lists say, where what these lead to is ready
abbrev pub AreLeastOverEnds : Aiming → Bool → ℕ → List ℕ → ℕ → List ℕ → List ℕ → Type 0
AreLeastOverEnds aiming own width all x costs links =
    (root : ℕ) (w : Directions) (ends : List End) → AreDirections aiming.graph.now aiming.directed.now root w → AreReady aiming w own width all x
    → slice_get aiming.graph.now.ends x ≡ Some ends → AreLeast aiming w own width x ends (length ends) costs links
