-- What holds of the order and the directions of each GADAG.
use Rattle.std.specs.Prelude.{◌≡◌, ◌≢◌, ◌<◌, ◌≤◌, ◌⊎◌, ℕ, Some, length}
use Rattle.mrt_graph.specs.declared.cert.Role.TheVariants.{Closing, Sole}
use Rattle.mrt_graph.specs.DirectedLists.{DirectedLists}
use Rattle.mrt_graph.specs.Leads.{leads}
use Rattle.mrt_graph.specs.Topology.{Topology}
use Rattle.link_direction.specs.CommonBlock.{HaveCommonBlock}
use Rattle.link_direction.specs.Directions.{Directions, Says}

-- a link leads from u to v, and lies in this block
pub record IsLinkWithin (g : Topology) (w : Directions) (k e u v : ℕ) : Type 0 where
  pub leads_on : leads g.links e u ≡ Some v
  pub in_block : w.lies_in e ≡ k

-- a link of v's block is directed to v, from a node of lower order
pub record IsEntered (g : Topology) (w : Directions) (v : ℕ) : Type 0 where
  pub from : ℕ
  pub link : ℕ
  pub over : IsLinkWithin g w (w.block v) link from v
  pub away : w.tail link ≡ from
  pub lower : w.order from < w.order v

-- a link of v's block is directed away from v, to a node of greater order
pub record IsLeft (g : Topology) (w : Directions) (v : ℕ) : Type 0 where
  pub to : ℕ
  pub link : ℕ
  pub over : IsLinkWithin g w (w.block v) link v to
  pub away : w.tail link ≡ v
  pub greater : w.order v < w.order to

-- the block of m has one link, which is sole, and m alone is its node
pub record HasSoleLink (g : Topology) (w : Directions) (m : ℕ) : Type 0 where
  pub link : ℕ
  pub within : link < length g.links
  pub in_block : w.lies_in link ≡ w.block m
  pub no_other_link : (e : ℕ) → e < length g.links → w.lies_in e ≡ w.block m → e ≡ link
  pub sole : w.role link ≡ Sole
  pub no_other_node : (v : ℕ) → v < length g.ids → w.block v ≡ w.block m → v ≡ m

-- the block of m has more than one link: none is sole and one is closing, from the block's node of greatest order to
-- its head. Each of its nodes is entered from a lower order, and each but the greatest is left to a greater one
pub record HasClosingLink (g : Topology) (w : Directions) (m : ℕ) : Type 0 where
  pub link : ℕ
  pub greatest : ℕ
  pub over : IsLinkWithin g w (w.block m) link greatest (w.head m)
  pub away : w.tail link ≡ greatest
  pub closing : w.role link ≡ Closing
  pub no_other : (e : ℕ) → e < length g.links → w.lies_in e ≡ w.block m → w.role e ≡ Closing → e ≡ link
  pub none_sole : (e : ℕ) → e < length g.links → w.lies_in e ≡ w.block m → w.role e ≢ Sole
  pub another : ℕ
  pub another_within : another < length g.links
  pub another_in_block : w.lies_in another ≡ w.block m
  pub another_link : another ≢ link
  pub greatest_in_block : w.block greatest ≡ w.block m
  pub none_greater : (v : ℕ) → v < length g.ids → w.block v ≡ w.block m → w.order v ≤ w.order greatest
  pub entered : (v : ℕ) → v < length g.ids → w.block v ≡ w.block m → IsEntered g w v
  pub left : (v : ℕ) → v < length g.ids → w.block v ≡ w.block m → v ≢ greatest → IsLeft g w v

-- of n nodes, the orders are 1 to n, each once, and the root has the first
pub record AreOrders (n root : ℕ) (w : Directions) : Type 0 where
  pub first : w.order root ≡ 1
  pub from_one : (v : ℕ) → v < n → 1 ≤ w.order v
  pub to_n : (v : ℕ) → v < n → w.order v ≤ n
  pub differ : (u v : ℕ) → u < n → v < n → w.order u ≡ w.order v → u ≡ v

-- heads and blocks: the root is alone in its block, and its own head. Every other node has a head of lower order, and
-- nodes of one block have one head
pub record AreHeads (n root : ℕ) (w : Directions) : Type 0 where
  pub head_within : (v : ℕ) → v < n → w.head v < n
  pub block_within : (v : ℕ) → v < n → w.block v < n
  pub root_head : w.head root ≡ root
  pub root_block : w.block root ≡ root
  pub alone : (v : ℕ) → v < n → v ≢ root → w.block v ≢ root
  pub lower : (v : ℕ) → v < n → v ≢ root → w.order (w.head v) < w.order v
  pub one_head : (u v : ℕ) → u < n → v < n → w.block u ≡ w.block v → w.head u ≡ w.head v

-- links: each has a direction, lies in a block that its two nodes have in common, and leads to a greater order unless
-- it is closing
pub record AreLinks (g : Topology) (w : Directions) : Type 0 where
  pub directed : (e : ℕ) → e < length g.links → (v : ℕ) × (leads g.links e (w.tail e) ≡ Some v)
  pub common : (e u v : ℕ) → leads g.links e u ≡ Some v → (h : ℕ) × HaveCommonBlock w u v (w.lies_in e) h
  pub forward : (e u v : ℕ) → leads g.links e u ≡ Some v → w.tail e ≡ u → w.role e ≢ Closing → w.order u < w.order v

-- a GADAG with its order: but for closing links it is without cycles, and each block but the root's has one link, or
-- more and one that closes it
pub record IsOrderedGadag (g : Topology) (root : ℕ) (w : Directions) : Type 0 where
  pub root_within : root < length g.ids
  pub orders : AreOrders (length g.ids) root w
  pub heads : AreHeads (length g.ids) root w
  pub links : AreLinks g w
  pub blocks : (m : ℕ) → m < length g.ids → m ≢ root → HasSoleLink g w m ⊎ HasClosingLink g w m

-- the answer says what holds of a GADAG with its order
pub record SaysOrdered (g : Topology) (root : ℕ) (d : DirectedLists) : Type 0 where
  pub directions : Directions
  pub says : Says g d directions
  pub ordered : IsOrderedGadag g root directions
