-- Which nodes are the heads of blocks.
use Rattle.std.specs.Prelude.{◌≡◌, ◌≢◌, ℕ, Some}
use Rattle.mrt_graph.specs.Certificate.{Certificate}
use Rattle.mrt_graph.specs.CertFields.{block_of, head_of}

-- x is the head of another node, a
pub record IsHeadOf (c : Certificate) (x a : ℕ) : Type 0 where
  pub other : a ≢ x
  pub head : head_of c a ≡ Some x

-- x is the head of two blocks: of two other nodes that have different blocks
pub record HeadsTwo (c : Certificate) (x : ℕ) : Type 0 where
  pub a : ℕ
  pub b : ℕ
  pub first : IsHeadOf c x a
  pub second : IsHeadOf c x b
  pub apart : block_of c a ≢ block_of c b

-- a node is the head of a block: the head of another node; the root is the head of two
pub data HeadsBlocks (c : Certificate) (root : ℕ) : ℕ → Type 0 where
  AsMember : (x a : ℕ) → x ≢ root → IsHeadOf c x a → HeadsBlocks c root x
  AsRoot : HeadsTwo c root → HeadsBlocks c root root
