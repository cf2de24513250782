-- The heads above a destination, and what the nodes aim at.
use Rattle.std.specs.Prelude.{◌≡◌, ◌≢◌, ◌<◌, ◌⊎◌, ℕ, Bool, true, List, Option, Some, length, slice_get}
use Rattle.mrt_graph.specs.Topology.{Topology}
use Rattle.link_direction.specs.Directions.{Directions}
use Rattle.block_spf.specs.BlockAims.{aim_at}
use Rattle.block_spf.specs.LeastPath.{HasMoreLinks}

-- from node c, head by head, one comes to node b
pub data Climbs (root : ℕ) (w : Directions) : ℕ → ℕ → Type 0 where
  There : {c b : ℕ} → c ≡ b → Climbs root w c b
  ByHead : {c b : ℕ} → c ≢ root → Climbs root w (w.head c) b → Climbs root w c b

-- of each node which node below it is on the way from t to the root, if one is
pub record AreBelow (g : Topology) (root : ℕ) (w : Directions) (t : ℕ) (below : List (Option ℕ)) : Type 0 where
  pub one_each : length below ≡ length g.ids
  pub ends : Climbs root w t root
  pub is_below : (h c : ℕ) → slice_get below h ≡ Some (Some c) → Climbs root w t c × (c ≢ root) × (w.head c ≡ h)
  pub all : (c : ℕ) → Climbs root w t c → c ≢ root → slice_get below (w.head c) ≡ Some (Some c)

-- c is the node of y's block on the way from t to the root
pub record IsOnWay (root : ℕ) (w : Directions) (t y c : ℕ) : Type 0 where
  pub climbs : Climbs root w t c
  pub not_root : c ≢ root
  pub in_block : w.block c ≡ w.block y

-- each block aims at its node on the way from t to the root, or at its head where it has none; and the blocks of more than one
-- link in which the nodes on the way lie are marked
pub record AreWayAims (g : Topology) (root : ℕ) (w : Directions) (t : ℕ) (aim : ℕ → ℕ) (marks : List Bool) : Type 0 where
  pub on : (c : ℕ) → Climbs root w t c → c ≢ root → aim (w.block c) ≡ c
  pub off : (y : ℕ) → y < length g.ids → (aim (w.block y) ≡ w.head y) ⊎ IsOnWay root w t y (aim (w.block y))
  pub marked : (c : ℕ) → Climbs root w t c → c ≢ root → HasMoreLinks g w (w.block c) → slice_get marks (w.block c) ≡ Some true

-- at each place, the blocks aim so for the destination there
pub record AreBlockAims (g : Topology) (root : ℕ) (w : Directions) (targets aims : List ℕ) (marks : List Bool) : Type 0 where
  pub each : (j t : ℕ) → slice_get targets j ≡ Some t → AreWayAims g root w t (aim_at aims (length targets) j) marks
