-- What a certificate says, as functions, and what the rules on orders, heads and blocks make of it.
use Rattle.std.specs.Prelude.{◌≡◌, ◌≢◌, ◌<◌, ◌≤◌, ℕ, List, Option, Some}
use Rattle.mrt_graph.specs.declared.cert.Role.{Role}
use Rattle.mrt_graph.specs.declared.cert.Role.TheVariants.{Sole}
use Rattle.mrt_graph.specs.declared.cert.Tag.{Tag}
use Rattle.mrt_graph.specs.declared.link.Link.{Link}
use Rattle.mrt_graph.specs.Hop.{Hop}
use Rattle.mrt_graph.specs.Leads.{leads}

-- the links, the root and the count of nodes; each node's order, head and block; each link's block (part) and role; the
-- tag of s for t; the hops of each color, by destination and then by node
pub record Words : Type 0 where
  pub links : List Link
  pub root : ℕ
  pub count : ℕ
  pub order : ℕ → ℕ
  pub head : ℕ → ℕ
  pub block : ℕ → ℕ
  pub part : ℕ → ℕ
  pub role : ℕ → Role
  pub tag : ℕ → ℕ → Tag
  pub blue : ℕ → ℕ → Option Hop
  pub red : ℕ → ℕ → Option Hop

-- k is the common block of u and v
pub data Common (w : Words) (u v k : ℕ) : Type 0 where
  Peers : w.block u ≡ w.block v → k ≡ w.block u → Common w u v k
  ToHead : w.head u ≡ v → k ≡ w.block u → Common w u v k
  FromHead : w.head v ≡ u → k ≡ w.block v → Common w u v k

-- u and v have a block in common
pub data Related (w : Words) (u v : ℕ) : Type 0 where
  InOne : w.block u ≡ w.block v → Related w u v
  Under : w.head u ≡ v → Related w u v
  Over : w.head v ≡ u → Related w u v

-- a node that is not the root: it stands for its block, whose head is its head
pub record Member (w : Words) (m : ℕ) : Type 0 where
  pub within : m < w.count
  pub not_root : m ≢ w.root

-- x is in m's block, or is its head
pub data At (w : Words) (m x : ℕ) : Type 0 where
  Inner : x < w.count → w.block x ≡ w.block m → At w m x
  Top : x ≡ w.head m → At w m x

-- what the rules say of orders, heads, blocks and the links of blocks
pub record Blocks (w : Words) : Type 0 where
  pub root_within : w.root < w.count
  pub from_within : (e u v : ℕ) → leads w.links e u ≡ Some v → u < w.count
  pub to_within : (e u v : ℕ) → leads w.links e u ≡ Some v → v < w.count
  pub tied : (e u v : ℕ) → leads w.links e u ≡ Some v → Common w u v (w.part e)
  pub lone : (e u v f x y : ℕ) → leads w.links e u ≡ Some v → u ≢ v → w.role e ≡ Sole → leads w.links f x ≡ Some y
      → w.part e ≡ w.part f → e ≡ f
  pub lone_member : (e u v a b : ℕ) → leads w.links e u ≡ Some v → u ≢ v → w.role e ≡ Sole
      → a < w.count → b < w.count → w.block a ≡ w.part e → w.block b ≡ w.part e → a ≡ b
  pub root_head : w.head w.root ≡ w.root
  pub root_block : w.block w.root ≡ w.root
  pub head_within : (a : ℕ) → a < w.count → w.head a < w.count
  pub head_lower : (a : ℕ) → Member w a → w.order (w.head a) < w.order a
  pub not_roots : (a : ℕ) → Member w a → w.block a ≢ w.root
  pub one_head : (a b : ℕ) → a < w.count → b < w.count → w.block a ≡ w.block b → w.head a ≡ w.head b
  pub most : ℕ
  pub order_within : (a : ℕ) → a < w.count → w.order a ≤ most
  pub one_order : (a b : ℕ) → a < w.count → b < w.count → w.order a ≡ w.order b → a ≡ b

-- the chain of y, that is y, its head, the head of that and so on, meets a member of m's block
pub data Below (w : Words) (m : ℕ) : ℕ → Type 0 where
  Here : (y : ℕ) → w.block y ≡ w.block m → Below w m y
  Up : (y : ℕ) → Below w m (w.head y) → Below w m y
