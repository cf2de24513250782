-- A table of a link for each block, and what links and nodes keep where that is the block's one link or its closing link.
use Rattle.std.specs.Prelude.{◌≡◌, ◌==◌, ◌&&◌, ◌||◌, ◌≤◌, ℕ, Bool, false, List, Option, Some, None, length, slice_get, if◌then◌else◌}
use Rattle.std.specs.Option.{option_and_then, option_map_or}
use Rattle.cert_checker.specs.steps.KeyTable.{has_number}
use Rattle.mrt_graph.specs.declared.cert.CertLink.{CertLink}
use Rattle.mrt_graph.specs.declared.cert.CertNode.{CertNode}
use Rattle.mrt_graph.specs.declared.cert.Role.{Role}
use Rattle.mrt_graph.specs.declared.cert.Role.TheVariants.{Plain, Sole, Closing}
use Rattle.mrt_graph.specs.Certificate.{Certificate}
use Rattle.mrt_graph.specs.HeadsAndBlocks.{closed_block, lone_block}
use Rattle.mrt_graph.specs.Places.{Each}
use Rattle.mrt_graph.specs.Roles.{is_closing, is_plain}

-- the fifth and the sixth rule
pub record BlocksHold (c : Certificate) (root : ℕ) : Type 0 where
  pub lone : Each (lone_block c root) (length c.nodes)
  pub closed : Each (closed_block c root) (length c.nodes)

-- the link that stands for block k
abbrev pub standing : Certificate → List ℕ → ℕ → Option CertLink
standing c table k = option_and_then (slice_get c.links) (slice_get table k)

-- link e stands for its block; or it is plain, and a closing link does
abbrev pub link_fits : Certificate → List ℕ → ℕ → Bool
link_fits c table e =
    option_map_or
    (λ link. has_number table (Some link.block) (Some e)
    || option_map_or (λ other. is_plain link.role && is_closing other.role) (standing c table link.block) false)
    (slice_get c.links e) false

-- the node at the other end of a link of s
abbrev pub across : CertLink → ℕ → Option ℕ
across link s = if link.a == s then Some link.b else (if link.b == s then Some link.a else None)

-- x lies in the block of the node, and has no smaller order
pub record IsOver (c : Certificate) (node : CertNode) (x : ℕ) : Type 0 where
  pub top : CertNode
  pub at : slice_get c.nodes x ≡ Some top
  pub block : top.block ≡ node.block
  pub order : node.order ≤ top.order

-- block k has a link that is not closing
pub record HasOpen (c : Certificate) (k : ℕ) : Type 0 where
  pub number : ℕ
  pub link : CertLink
  pub at : slice_get c.links number ≡ Some link
  pub block : link.block ≡ k
  pub role : is_closing link.role ≡ false

-- where the link that stands for the block of node a has this role, and joins the block's head and x: of a sole link, a is
-- x; of a closing one x is over a, and has another link of the block
abbrev pub FitsRole : Certificate → ℕ → CertNode → ℕ → Role → Type 0
FitsRole c a node x Plain = ⊥
FitsRole c a node x Sole = x ≡ a
FitsRole c a node x Closing = IsOver c node x × (x ≡ a → HasOpen c node.block)

-- the link that stands for the block of node a lies in it, and joins the block's head and a node that suits a
pub record NodeFits (c : Certificate) (table : List ℕ) (a : ℕ) : Type 0 where
  pub node : CertNode
  pub at : slice_get c.nodes a ≡ Some node
  pub link : CertLink
  pub stands : standing c table node.block ≡ Some link
  pub block : link.block ≡ node.block
  pub far : ℕ
  pub joins : across link node.head ≡ Some far
  pub role : FitsRole c a node far link.role
