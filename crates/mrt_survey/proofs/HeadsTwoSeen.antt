-- Nodes that are looked at in turn, until two of different blocks have one head.
use Rattle.std.proofs.Common.{◌≡◌, ◌<◌, ℕ, Option, Some, None}
use Rattle.mrt_graph.specs.Certificate.{Certificate}
use Rattle.mrt_graph.specs.CertFields.{block_of}
use Rattle.mrt_survey.specs.BlockHeads.{IsHeadOf}

-- x is the head of another node, of block k
pub record HasOne (c : Certificate) (x k : ℕ) : Type 0 where
  pub a : ℕ
  pub head : IsHeadOf c x a
  pub block : block_of c a ≡ Some k

-- of the nodes before this place none has the head x; or one has, and those that have it are all of its block
abbrev pub AreSeen : Certificate → ℕ → ℕ → Option ℕ → Type 0
AreSeen c x place None = (a : ℕ) → a < place → IsHeadOf c x a → ⊥
AreSeen c x place (Some k) = HasOne c x k × ((a : ℕ) → a < place → IsHeadOf c x a → block_of c a ≡ Some k)
