-- Ears on their way.
use Rattle.std.specs.Prelude.{◌≡◌, ◌<◌, ◌≤◌, ◌++◌, ◌↔◌, ◌⊎◌, ℕ, Bool, true, false, List, [], ◌∷◌, Some, Contains}
use Rattle.std.specs.Prelude.{length, replicate, reverse, slice_get, slice_set, slice_index_or, vec_capacity}
use Rattle.mrt_graph.specs.declared.cert.Role.TheVariants.{Plain}
use Rattle.mrt_graph.specs.declared.gadag.Mark.{Mark}
use Rattle.mrt_graph.specs.declared.gadag.Place.{Place}
use Rattle.mrt_graph.specs.declared.gadag.Way.TheVariants.{Unset}
use Rattle.mrt_graph.specs.declared.link.End.{End}
use Rattle.mrt_graph.specs.declared.tree.TreeNode.{TreeNode}
use Rattle.mrt_graph.specs.GraphInvariant.{IsTopology}
use Rattle.mrt_graph.specs.Topology.{Topology}
use Rattle.lowpoint_dfs.specs.SearchTree.{IsSearchTree}
use Rattle.lowpoint_dfs.specs.Subtree.{parent_of}
use Rattle.gadag_ears.specs.declared.growing.Growing.{Growing}
use Rattle.gadag_ears.specs.declared.kind.EarKind.{EarKind}
use Rattle.gadag_ears.specs.declared.kind.EarKind.TheVariants.{Child}
use Rattle.gadag_ears.specs.Ear.{Ear, GoesOn, IsBegun}
use Rattle.gadag_ears.specs.EarOrder.{AreEars, IsEarOrder}
use Rattle.gadag_ears.specs.HeadAndBlock.{ArePlaces}
use Rattle.gadag_ears.specs.LinkMarks.{AreDirected, HaveRoles}

-- node v has its mark
abbrev pub IsMarked : List Bool → ℕ → Type 0
IsMarked listed v = slice_index_or listed v false ≡ true

-- exactly these nodes have their mark
abbrev pub AreListed : List Bool → List ℕ → Type 0
AreListed listed nodes = (v : ℕ) → IsMarked listed v ↔ Contains nodes v

-- the way of an ear over these new nodes
pub record IsEarWay (g : Topology) (tree : List TreeNode) (kind : EarKind) (nodes : List ℕ) (first : ℕ)
    (new : List ℕ) (stop : ℕ) : Type 0 where
  pub others : List ℕ
  pub are : new ≡ first ∷ others
  pub onward : GoesOn g tree kind nodes first others stop

-- a graph with its search tree
pub record IsSearched (g : Topology) (root : ℕ) (tree : List TreeNode) : Type 0 where
  pub kept : IsTopology g
  pub within : root < length g.ids
  pub search : IsSearchTree g root tree

-- in the turn of a node, where the listed nodes have their marks, an ear of this kind begins with node `first`
pub record IsLeaving (g : Topology) (tree : List TreeNode) (kind : EarKind) (listed : List Bool) (first : ℕ)
    : Type 0 where
  pub root : ℕ
  pub searched : IsSearched g root tree
  pub one_mark_each : length listed ≡ length g.ids
  pub nodes : List ℕ
  pub are : AreListed listed nodes
  pub x : ℕ
  pub in_list : Contains nodes x
  pub closed : (v p : ℕ) → Contains nodes v → parent_of g tree v ≡ Some p → Contains nodes p
  pub end : End
  pub begun : IsBegun g tree nodes x end kind
  pub to : first ≡ end.to

-- there is room for all nodes
pub record HasRoom (count : ℕ) (growing : Growing) : Type 0 where
  pub order : count ≤ vec_capacity growing.order
  pub waiting : count ≤ vec_capacity growing.waiting
  pub added : count ≤ vec_capacity growing.added

-- the marks of the links of these ears, but for their blocks
pub record AreWaysAndRoles (g : Topology) (tree : List TreeNode) (ears : List Ear) (marks : List Mark) : Type 0 where
  pub one_each : length marks ≡ length g.links
  pub directed : AreDirected g tree ears marks
  pub roles : HaveRoles g tree ears marks

-- in the turn of x
pub record IsEarTurn (g : Topology) (root : ℕ) (tree : List TreeNode) (x : ℕ) (growing : Growing) : Type 0 where
  pub searched : IsSearched g root tree
  pub ears : List Ear
  pub ordered : IsEarOrder g root tree growing.order.items x (reverse growing.waiting.items) ears
  pub one_mark_each : length growing.listed.items ≡ length g.ids
  pub listed : AreListed growing.listed.items (growing.order.items ++ x ∷ reverse growing.waiting.items)
  pub one_place_each : length growing.places.items ≡ length g.ids
  pub placed : ArePlaces root ears growing.places.items
  pub marked : AreWaysAndRoles g tree ears growing.marks.items

-- in the turn of x an ear of this kind begins over this link with node `first`
pub record StartsEar (g : Topology) (tree : List TreeNode) (kind : EarKind) (growing : Growing) (x link first : ℕ)
    : Type 0 where
  pub root : ℕ
  pub turn : IsEarTurn g root tree x growing
  pub end : End
  pub begun : IsBegun g tree (growing.order.items ++ x ∷ reverse growing.waiting.items) x end kind
  pub over : link ≡ end.link
  pub to : first ≡ end.to

-- the place of the new nodes of an ear
pub record IsPlaceOfEar (kind : EarKind) (x first stop : ℕ) (places : List Place) (place : Place) : Type 0 where
  pub of_block : kind ≡ Child → stop ≡ x → (place.head ≡ x) × (place.block ≡ first)
  pub of_stop : ¬ ((kind ≡ Child) × (stop ≡ x)) → slice_get places stop ≡ Some place

-- some nodes have got their mark and this place, and all others are as before
pub record AreEntered (listed : List Bool) (places : List Place) (head block : ℕ) (some : List ℕ) (listed' : List Bool)
    (places' : List Place) : Type 0 where
  pub one_mark_each : length listed' ≡ length listed
  pub one_place_each : length places' ≡ length places
  pub marks : (v : ℕ) → IsMarked listed' v → IsMarked listed v ⊎ Contains some v
  pub kept : (v : ℕ) → IsMarked listed v → IsMarked listed' v
  pub marked : (v : ℕ) → Contains some v → IsMarked listed' v
  pub placed : (v : ℕ) → Contains some v → slice_get places' v ≡ Some (record { head = head; block = block })
  pub others : (v : ℕ) → ¬ Contains some v → slice_get places' v ≡ slice_get places v

-- some of the new nodes, the last ones, have their place, and wait for their turns
pub record HasEntered (before : Growing) (head block : ℕ) (some : List ℕ) (after : Growing) : Type 0 where
  pub order : after.order ≡ before.order
  pub added : after.added ≡ before.added
  pub marks : after.marks ≡ before.marks
  pub waiting : after.waiting.items ≡ before.waiting.items ++ reverse some
  pub room : vec_capacity after.waiting ≡ vec_capacity before.waiting
  pub entered : AreEntered before.listed.items before.places.items head block some after.listed.items after.places.items

-- the search tree of the graph from some root
pub record HasSearch (g : Topology) (tree : List TreeNode) : Type 0 where
  pub root : ℕ
  pub searched : IsSearched g root tree

-- the turn of x, for some root
pub record HasTurn (g : Topology) (tree : List TreeNode) (x : ℕ) (growing : Growing) : Type 0 where
  pub root : ℕ
  pub turn : IsEarTurn g root tree x growing

-- the nodes to which the ends of x lead have their marks
pub record AreAllMarked (g : Topology) (x : ℕ) (listed : List Bool) : Type 0 where
  pub ends : List End
  pub list : slice_get g.ends x ≡ Some ends
  pub marked : (k : ℕ) (end : End) → slice_get ends k ≡ Some end → IsMarked listed end.to

-- all turns are over
pub record IsEnded (g : Topology) (root : ℕ) (tree : List TreeNode) (growing : Growing) : Type 0 where
  pub searched : IsSearched g root tree
  pub ears : List Ear
  pub are_ears : AreEars g root tree growing.order.items ears
  pub one_place_each : length growing.places.items ≡ length g.ids
  pub placed : ArePlaces root ears growing.places.items
  pub marked : AreWaysAndRoles g tree ears growing.marks.items

-- all ends of x before this one have been passed
pub record IsAtEnd (g : Topology) (IsPassed : End → Type 0) (x : ℕ) (end : End) : Type 0 where
  pub ends : List End
  pub list : slice_get g.ends x ≡ Some ends
  pub place : ℕ
  pub there : slice_get ends place ≡ Some end
  pub passed : (k : ℕ) (other : End) → k < place → slice_get ends k ≡ Some other → IsPassed other

-- the root alone
pub record IsBeginning (g : Topology) (root : ℕ) (growing : Growing) : Type 0 where
  pub kept : IsTopology g
  pub order : growing.order.items ≡ []
  pub waiting : growing.waiting.items ≡ []
  pub listed : growing.listed.items ≡ slice_set (replicate (length g.ids) false) root true
  pub places : growing.places.items ≡ replicate (length g.ids) (record { head = root; block = root })
  pub marks : growing.marks.items ≡ replicate (length g.links) (record { way = Unset; role = Plain; block = root })
  pub room : HasRoom (length g.ids) growing
