-- The links of a block.
use Rattle.std.specs.Prelude.{◌≡◌, ◌≢◌, ℕ, List, Some}
use Rattle.mrt_graph.specs.declared.cert.Role.TheVariants.{Closing, Plain, Sole}
use Rattle.mrt_graph.specs.declared.gadag.Mark.{Mark}
use Rattle.mrt_graph.specs.declared.gadag.Place.{Place}
use Rattle.mrt_graph.specs.GadagFields.{block_at, link_block_at, role_at}

-- block k has one link, which is sole, and one node, which names it
pub record IsOfSoleLink (places : List Place) (marks : List Mark) (k : ℕ) : Type 0 where
  pub link : ℕ
  pub in_block : link_block_at marks link ≡ Some k
  pub sole : role_at marks link ≡ Some Sole
  pub no_other_link : (e : ℕ) → link_block_at marks e ≡ Some k → e ≡ link
  pub no_other_node : (v : ℕ) → block_at places v ≡ Some k → v ≡ k

-- block k has more than one link; one of them is closing, and all others are plain
pub record IsOfClosingLink (marks : List Mark) (k : ℕ) : Type 0 where
  pub link : ℕ
  pub in_block : link_block_at marks link ≡ Some k
  pub closing : role_at marks link ≡ Some Closing
  pub others_plain : (e : ℕ) → link_block_at marks e ≡ Some k → e ≢ link → role_at marks e ≡ Some Plain
  pub another : ℕ
  pub another_in_block : link_block_at marks another ≡ Some k
  pub another_link : another ≢ link
