-- Where a node stands to the block of the two routers.
use Rattle.std.specs.Bool.{Decides}
use Rattle.std.specs.Prelude.{◌≡◌, ℕ, Bool, List, if◌then◌else◌}
use Rattle.mrt_graph.specs.declared.link.Link.{Link}
use Rattle.mrt_graph.specs.Certificate.{Certificate}
use Rattle.proxy_rows.specs.declared.attachment.Attachment.{Attachment}
use Rattle.proxy_rows.specs.declared.side.Side.TheVariants.{Low, High}
use Rattle.proxy_rows.specs.declared.standing.Standing.{Standing}
use Rattle.proxy_rows.specs.declared.standing.Standing.TheVariants.{Head, OnLow, OnHigh, Other, Outside}
use Rattle.proxy_rows.specs.Sides.{IsIn, IsMember}

-- by the first of these tests that holds: it is the head; on Low; on High; another member. And else it is outside
abbrev pub standing_by : Bool → Bool → Bool → Bool → Standing
standing_by head low high member =
    if head then Head else (if low then OnLow else (if high then OnHigh else (if member then Other else Outside)))

-- what the tests mean for node s
pub record IsStanding (links : List Link) (c : Certificate) (at : Attachment) (s : ℕ) (standing : Standing) : Type 0 where
  pub head : Bool
  pub low : Bool
  pub high : Bool
  pub member : Bool
  pub is_head : Decides head (s ≡ at.head)
  pub is_low : Decides low (IsIn links c at Low s)
  pub is_high : Decides high (IsIn links c at High s)
  pub is_member : Decides member (IsMember c at s)
  pub standing_is : standing ≡ standing_by head low high member
