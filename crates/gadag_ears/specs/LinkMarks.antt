-- Directions (RFC 7811, section 5.5), roles and blocks (section 4.4) of links, read off the ears.
use Rattle.std.specs.Prelude.{◌≡◌, ◌≢◌, ◌<◌, ℕ, List, Some, Contains, length}
use Rattle.mrt_graph.specs.declared.cert.Role.TheVariants.{Plain, Sole, Closing}
use Rattle.mrt_graph.specs.declared.gadag.Mark.{Mark}
use Rattle.mrt_graph.specs.declared.gadag.Place.{Place}
use Rattle.mrt_graph.specs.declared.gadag.Way.TheVariants.{Unset}
use Rattle.mrt_graph.specs.declared.tree.TreeNode.{TreeNode}
use Rattle.mrt_graph.specs.GadagFields.{link_block_at, role_at, way_at}
use Rattle.mrt_graph.specs.Leads.{leads}
use Rattle.mrt_graph.specs.Tails.{tail_at}
use Rattle.mrt_graph.specs.Topology.{Topology}
use Rattle.gadag_ears.specs.CommonBlock.{IsCommonBlock}
use Rattle.gadag_ears.specs.Ear.{Ear, last_node, new_nodes, onward_link}
use Rattle.gadag_ears.specs.HeadAndBlock.{BeginsBlock}

-- e is a link of an ear, and the ear leaves node v over it
pub data IsOnEar (tree : List TreeNode) (ear : Ear) : ℕ → ℕ → Type 0 where
  Out : IsOnEar tree ear ear.start ear.link
  Onward : (v e : ℕ) → Contains (new_nodes ear) v → onward_link ear.kind tree v ≡ Some e → IsOnEar tree ear v e

-- e is the last link of an ear that begins a block
pub record IsLastOfBlock (tree : List TreeNode) (ear : Ear) (e : ℕ) : Type 0 where
  pub begins : BeginsBlock ear
  pub last : onward_link ear.kind tree (last_node ear.first ear.others) ≡ Some e

-- the ear begins a block, and goes out and comes back by one link
abbrev pub IsOfOneLink : List TreeNode → Ear → Type 0
IsOfOneLink tree ear = IsLastOfBlock tree ear ear.link

-- directions: the links of an ear are directed along it, but the one link of a block from the head to the member
pub record AreDirected (g : Topology) (tree : List TreeNode) (ears : List Ear) (marks : List Mark) : Type 0 where
  pub out : (ear : Ear) → Contains ears ear → tail_at g.links marks ear.link ≡ Some ear.start
  pub onward : (ear : Ear) (v e : ℕ) → Contains ears ear → ¬ IsOfOneLink tree ear → IsOnEar tree ear v e
      → tail_at g.links marks e ≡ Some v
  pub others : (e : ℕ) → e < length g.links → ((ear : Ear) (v : ℕ) → Contains ears ear → ¬ IsOnEar tree ear v e)
      → way_at marks e ≡ Some Unset

-- roles: the one link of a block is sole; the last link of any other ear that begins a block is closing; all others are
-- plain
pub record HaveRoles (g : Topology) (tree : List TreeNode) (ears : List Ear) (marks : List Mark) : Type 0 where
  pub sole : (ear : Ear) → Contains ears ear → IsOfOneLink tree ear → role_at marks ear.link ≡ Some Sole
  pub closing : (ear : Ear) (e : ℕ) → Contains ears ear → IsLastOfBlock tree ear e → e ≢ ear.link
      → role_at marks e ≡ Some Closing
  pub others : (e : ℕ) → e < length g.links → ((ear : Ear) → Contains ears ear → ¬ IsLastOfBlock tree ear e)
      → role_at marks e ≡ Some Plain

-- a link lies in the common block of its two nodes
pub record LiesInBlock (g : Topology) (places : List Place) (marks : List Mark) (e : ℕ) : Type 0 where
  pub block : ℕ
  pub is : link_block_at marks e ≡ Some block
  pub common : (u v : ℕ) → leads g.links e u ≡ Some v → IsCommonBlock places u v block

-- what is said of the links
pub record AreMarks (g : Topology) (tree : List TreeNode) (ears : List Ear) (places : List Place)
    (marks : List Mark) : Type 0 where
  pub one_each : length marks ≡ length g.links
  pub directed : AreDirected g tree ears marks
  pub roles : HaveRoles g tree ears marks
  pub blocks : (e : ℕ) → e < length g.links → LiesInBlock g places marks e
