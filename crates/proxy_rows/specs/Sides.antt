-- The nodes of a block from which one router is reached by ascending, and those from which the other one is by descending.
use Rattle.std.specs.Prelude.{◌≡◌, ℕ, Bool, true, List, Some}
use Rattle.mrt_graph.specs.declared.link.Link.{Link}
use Rattle.mrt_graph.specs.BothThere.{is_less}
use Rattle.mrt_graph.specs.Certificate.{Certificate}
use Rattle.mrt_graph.specs.CertFields.{block_of, link_block, order_of}
use Rattle.mrt_graph.specs.Leads.{leads}
use Rattle.proxy_rows.specs.declared.attachment.Attachment.{Attachment}
use Rattle.proxy_rows.specs.declared.side.Side.{Side}
use Rattle.proxy_rows.specs.declared.side.Side.TheVariants.{Low, High}

-- s is a node of the common block
abbrev pub IsMember : Certificate → Attachment → ℕ → Type 0
IsMember c at s = block_of c s ≡ Some at.block

-- e is a link of the common block
abbrev pub IsOfBlock : Certificate → Attachment → ℕ → Type 0
IsOfBlock c at e = link_block c e ≡ Some at.block

-- the router of a side: Low has the one with the lower order, High the other one
abbrev pub router_of : Attachment → Side → ℕ
router_of at Low = at.lower
router_of at High = at.upper

-- from s one goes on to v: on Low to a greater order, on High to a smaller one
abbrev pub goes_on : Certificate → Side → ℕ → ℕ → Bool
goes_on c Low s v = is_less (order_of c s) (order_of c v)
goes_on c High s v = is_less (order_of c v) (order_of c s)

-- Low is the least set that holds the router with the lower order, if that is a member, and each member with a link of the
-- block to a member of Low of greater order; High the least set that holds the other router, and each member with a link
-- of the block to a member of High of smaller order
pub data IsIn (links : List Link) (c : Certificate) (at : Attachment) (side : Side) : ℕ → Type 0 where
  Router : (s : ℕ) → s ≡ router_of at side → IsMember c at s → IsIn links c at side s
  Onward : (s e v : ℕ) → IsMember c at s → IsOfBlock c at e → leads links e s ≡ Some v → goes_on c side s v ≡ true
      → IsIn links c at side v → IsIn links c at side s
