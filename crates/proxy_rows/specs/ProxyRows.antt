-- The rows of all nodes for a node that is attached to two routers.
use Rattle.std.specs.Prelude.{◌≡◌, ◌⊎◌, ◌<◌, ℕ, true, List, Some, length, slice_get}
use Rattle.mrt_graph.specs.declared.cert.Color.{Color}
use Rattle.mrt_graph.specs.declared.cert.Color.TheVariants.{Blue, Red}
use Rattle.mrt_graph.specs.declared.cert.Row.{Row}
use Rattle.mrt_graph.specs.declared.link.End.{End}
use Rattle.mrt_graph.specs.Certificate.{Certificate, row_of}
use Rattle.mrt_graph.specs.CertFields.{has_role, links_of}
use Rattle.mrt_graph.specs.FirstEnd.{IsFirstEnd}
use Rattle.mrt_graph.specs.Foldable.{in_chain}
use Rattle.mrt_graph.specs.Roles.{is_closing, is_plain}
use Rattle.mrt_graph.specs.Rows.{link_of_color}
use Rattle.mrt_graph.specs.Topology.{Topology}
use Rattle.proxy_rows.specs.declared.attachment.Attachment.{Attachment}
use Rattle.proxy_rows.specs.declared.proxy_row.Out.{Out}
use Rattle.proxy_rows.specs.declared.proxy_row.Out.TheVariants.{Attached, Link}
use Rattle.proxy_rows.specs.declared.proxy_row.ProxyRow.{ProxyRow}
use Rattle.proxy_rows.specs.declared.side.Side.{Side}
use Rattle.proxy_rows.specs.declared.side.Side.TheVariants.{Low, High}
use Rattle.proxy_rows.specs.declared.standing.Standing.{Standing}
use Rattle.proxy_rows.specs.declared.standing.Standing.TheVariants.{Head, OnLow, OnHigh, Other, Outside}
use Rattle.proxy_rows.specs.Attachment.{IsAttachment}
use Rattle.proxy_rows.specs.Sides.{IsIn, IsMember, IsOfBlock, goes_on}
use Rattle.proxy_rows.specs.Sides as sides
use Rattle.proxy_rows.specs.Standing.{IsStanding}

-- an end over a plain link of the block to a node of Low
pub record IsPlainToLow (g : Topology) (c : Certificate) (at : Attachment) (end : End) : Type 0 where
  pub of_block : IsOfBlock c at end.link
  pub plain : has_role is_plain c end.link ≡ true
  pub low : IsIn g.links c at Low end.to

-- an end of s over a link of the block to a node of a side, to which one goes on from s
pub record IsOnward (g : Topology) (c : Certificate) (at : Attachment) (side : Side) (s : ℕ) (end : End) : Type 0 where
  pub of_block : IsOfBlock c at end.link
  pub within : IsIn g.links c at side end.to
  pub onward : goes_on c side s end.to ≡ true

-- out of node v: it is attached itself where this holds, and else goes over its first end that has what is asked for
pub data IsFirstOut (g : Topology) (Itself : Type 0) (Asked : End → Type 0) (v : ℕ) : Out → Type 0 where
  Here : Itself → IsFirstOut g Itself Asked v Attached
  Over : (end : End) → ¬ Itself → IsFirstEnd g Asked v end → IsFirstOut g Itself Asked v (Link end.link)

-- blue at the head: it is the router with the lower order, or goes by a plain link to a node of Low
abbrev pub IsHeadBlue : Topology → Certificate → Attachment → Out → Type 0
IsHeadBlue g c at out = IsFirstOut g (at.head ≡ at.lower) (IsPlainToLow g c at) at.head out

-- red at the head: the closing link of the block; in a block of one link, that link
pub data IsHeadRed (c : Certificate) (at : Attachment) : Out → Type 0 where
  Closing : (e : ℕ) → IsOfBlock c at e → has_role is_closing c e ≡ true → IsHeadRed c at (Link e)
  OneLink : (e : ℕ) → IsOfBlock c at e → length (links_of c at.block) ≡ 1 → IsHeadRed c at (Link e)

-- out of a node of a side: it is the router of the side, or goes to a node of the side to which one goes on
abbrev pub IsSideOut : Topology → Certificate → Attachment → Side → ℕ → Out → Type 0
IsSideOut g c at side s out = IsFirstOut g (s ≡ sides.router_of at side) (IsOnward g c at side s) s out

-- x belongs to the block, as a member or as its head
abbrev pub BelongsTo : Certificate → Attachment → ℕ → Type 0
BelongsTo c at x = IsMember c at x ⊎ (x ≡ at.head)

-- where the way from a node enters the block: at the first of the node, its head, the head of that and so on that belongs
-- to the block; if none does, at the head of the block
pub data IsEntry (c : Certificate) (at : Attachment) (s : ℕ) : ℕ → Type 0 where
  First : (steps x : ℕ) → in_chain c steps s ≡ Some x → BelongsTo c at x
      → ((fewer y : ℕ) → fewer < steps → in_chain c fewer s ≡ Some y → ¬ BelongsTo c at y) → IsEntry c at s x
  None : (x : ℕ) → x ≡ at.head → ((steps y : ℕ) → in_chain c steps s ≡ Some y → ¬ BelongsTo c at y)
      → IsEntry c at s x

-- the link of a color of the row of s for t
pub record IsLinkFor (c : Certificate) (color : Color) (s t : ℕ) (out : Out) : Type 0 where
  pub row : Row
  pub row_is : row_of c s t ≡ Some row
  pub out_is : out ≡ Link (link_of_color color row)

-- that for where its way enters the block
pub record IsLinkIn (c : Certificate) (at : Attachment) (color : Color) (s : ℕ) (out : Out) : Type 0 where
  pub entry : ℕ
  pub enters : IsEntry c at s entry
  pub link : IsLinkFor c color s entry out

-- the table, by where node s stands: blue, and red
abbrev pub IsBlue : Standing → Topology → Certificate → Attachment → ℕ → Out → Type 0
IsBlue Head g c at s out = IsHeadBlue g c at out
IsBlue OnLow g c at s out = IsSideOut g c at Low s out
IsBlue OnHigh g c at s out = IsLinkFor c Blue s at.head out
IsBlue Other g c at s out = IsLinkFor c Red s at.head out
IsBlue Outside g c at s out = IsLinkIn c at Blue s out

abbrev pub IsRed : Standing → Topology → Certificate → Attachment → ℕ → Out → Type 0
IsRed Head g c at s out = IsHeadRed c at out
IsRed OnLow g c at s out = IsLinkFor c Red s at.head out
IsRed OnHigh g c at s out = IsSideOut g c at High s out
IsRed Other g c at s out = IsLinkFor c Blue s at.head out
IsRed Outside g c at s out = IsLinkIn c at Red s out

-- the row of node s: by the table
pub record IsProxyRow (g : Topology) (c : Certificate) (at : Attachment) (s : ℕ) (row : ProxyRow) : Type 0 where
  pub standing : Standing
  pub stands : IsStanding g.links c at s standing
  pub blue : IsBlue standing g c at s row.blue
  pub red : IsRed standing g c at s row.red

-- one row per node
pub record AreRowsOf (g : Topology) (c : Certificate) (at : Attachment) (rows : List ProxyRow) : Type 0 where
  pub one_each : length rows ≡ length g.ids
  pub each : (s : ℕ) (row : ProxyRow) → slice_get rows s ≡ Some row → IsProxyRow g c at s row

-- those for a node that is attached to a and b, where the certificate gives the two a common block
pub record AreProxyRows (g : Topology) (c : Certificate) (a b : ℕ) (entries : List ProxyRow) : Type 0 where
  pub at : Attachment
  pub attached : IsAttachment c a b at
  pub rows : AreRowsOf g c at entries
