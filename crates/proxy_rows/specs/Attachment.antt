-- The two routers that a prefix is attached to, and the block that they have in common.
use Rattle.std.specs.Prelude.{◌≡◌, ◌⊎◌, ℕ, true, Some}
use Rattle.mrt_graph.specs.BothThere.{is_less}
use Rattle.mrt_graph.specs.Certificate.{Certificate}
use Rattle.mrt_graph.specs.CertFields.{block_of, head_of, order_of}
use Rattle.mrt_graph.specs.Related.{is_common_block}
use Rattle.proxy_rows.specs.declared.attachment.Attachment.{Attachment}

-- k is a block whose head is h: a node of the block has that head
pub record IsHeadOf (c : Certificate) (h k : ℕ) : Type 0 where
  pub member : ℕ
  pub block : block_of c member ≡ Some k
  pub head : head_of c member ≡ Some h

-- of a and b the one with the lower order, and the other one; their common block, and its head
pub record IsAttachment (c : Certificate) (a b : ℕ) (at : Attachment) : Type 0 where
  pub both : ((at.lower ≡ a) × (at.upper ≡ b)) ⊎ ((at.lower ≡ b) × (at.upper ≡ a))
  pub ascending : is_less (order_of c at.lower) (order_of c at.upper) ≡ true
  pub common : is_common_block c at.lower at.upper (Some at.block) ≡ true
  pub headed : IsHeadOf c at.head at.block
