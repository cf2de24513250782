-- The common block of two nodes (RFC 7811, section 4.4).
use Rattle.std.specs.Prelude.{◌≡◌, ℕ, List, Some}
use Rattle.mrt_graph.specs.declared.gadag.Place.{Place}
use Rattle.mrt_graph.specs.GadagFields.{block_at, head_at}

-- k is the block that two nodes have in common: it is the block of one of them, and the other one has it too or is its
-- head
pub data IsCommonBlock (places : List Place) (u v k : ℕ) : Type 0 where
  OfBoth : block_at places u ≡ Some k → block_at places v ≡ Some k → IsCommonBlock places u v k
  FirstIsHead : block_at places v ≡ Some k → head_at places v ≡ Some u → IsCommonBlock places u v k
  SecondIsHead : block_at places u ≡ Some k → head_at places u ≡ Some v → IsCommonBlock places u v k
