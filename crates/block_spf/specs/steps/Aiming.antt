-- What each node has while a tile is aimed.
use Rattle.std.specs.Prelude.{◌≡◌, ◌<◌, ◌*◌, ℕ, List, length}
use Rattle.link_direction.specs.Directions.{Directions}
use Rattle.block_spf.specs.declared.aiming.Aiming.{Aiming}
use Rattle.block_spf.specs.FirstLink.{HasLinksAt, LiesInOneBlock}
use Rattle.block_spf.specs.HasDirections.{AreDirections}
use Rattle.block_spf.specs.steps.Side.{AreCosts}
use Rattle.block_spf.specs.steps.PathsOverEnds.{IsReadyFrom, IsWantedBlock, sought}

-- so many costs for each node, none more than far
pub record AreRows (aiming : Aiming) (width : ℕ) (costs : List ℕ) : Type 0 where
  pub one_each : length costs ≡ length aiming.graph.now.ids * width
  pub most : AreCosts costs

-- node y has its costs from its own block, where that is wanted, and its links, where it lies in no other block of more than one
pub record HasOwnPaths (aiming : Aiming) (w : Directions) (width : ℕ) (costs links : List ℕ) (y : ℕ) : Type 0 where
  pub ready : IsWantedBlock (sought aiming w) (w.block y) → IsReadyFrom aiming w width costs y
  pub linked : LiesInOneBlock aiming.graph.now w y → HasLinksAt aiming.graph.now w aiming.wanted.now aiming.dir aiming.aims.now width links y

-- so has each node, by whatever directions the lists say
abbrev pub HaveOwnPaths : Aiming → ℕ → List ℕ → List ℕ → Type 0
HaveOwnPaths aiming width costs links =
    (root y : ℕ) (w : Directions) → AreDirections aiming.graph.now aiming.directed.now root w → y < length aiming.graph.now.ids → HasOwnPaths aiming w width costs links y
