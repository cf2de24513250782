-- How links come to the nodes of a block and lead on from them.
use Rattle.std.specs.Prelude.{◌≡◌, ℕ, Some}
use Rattle.mrt_graph.specs.declared.cert.Role.TheVariants.{Closing}
use Rattle.mrt_graph.specs.GadagLists.{GadagLists}
use Rattle.mrt_graph.specs.GadagFields.{block_at, head_at, link_block_at, role_at}
use Rattle.mrt_graph.specs.Leads.{leads}
use Rattle.mrt_graph.specs.Tails.{tail_at}
use Rattle.mrt_graph.specs.Topology.{Topology}
use Rattle.gadag_ears.specs.BlockLinks.{IsOfSoleLink}
use Rattle.gadag_ears.specs.Counted.{IsCounted}

-- link e lies in the block of node v
pub record IsInBlockOf (gadag : GadagLists) (e v : ℕ) : Type 0 where
  pub block : ℕ
  pub of_link : link_block_at gadag.marks e ≡ Some block
  pub of_node : block_at gadag.places v ≡ Some block

-- a counted link of v's block comes to node v
pub record HasLinkInto (g : Topology) (gadag : GadagLists) (v : ℕ) : Type 0 where
  pub link : ℕ
  pub from : ℕ
  pub counted : IsCounted g gadag.marks link from v
  pub in_block : IsInBlockOf gadag link v

-- link e is the closing link of v's block, and leads from node v to v's head
pub record ClosesBlock (g : Topology) (gadag : GadagLists) (e v : ℕ) : Type 0 where
  pub closing : role_at gadag.marks e ≡ Some Closing
  pub in_block : IsInBlockOf gadag e v
  pub away : tail_at g.links gadag.marks e ≡ Some v
  pub head : ℕ
  pub to : leads g.links e v ≡ Some head
  pub is_head : head_at gadag.places v ≡ Some head

-- how a node's block goes on from it: by a counted link of the block to another node of the block; by the closing link
-- to the head; or the block has one link and this one node
pub data GoesOnFrom (g : Topology) (gadag : GadagLists) (v : ℕ) : Type 0 where
  ToMember : (link to : ℕ) → IsCounted g gadag.marks link v to → IsInBlockOf gadag link v → IsInBlockOf gadag link to
      → GoesOnFrom g gadag v
  ToHead : (link : ℕ) → ClosesBlock g gadag link v → GoesOnFrom g gadag v
  Alone : block_at gadag.places v ≡ Some v → IsOfSoleLink gadag.places gadag.marks v → GoesOnFrom g gadag v
