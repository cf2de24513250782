-- Ears (RFC 7811, sections 4.2 and 5.5).
use Rattle.std.specs.Prelude.{◌≡◌, ℕ, List, [], ◌∷◌, Option, Some, Contains}
use Rattle.std.specs.Option.{option_and_then}
use Rattle.mrt_graph.specs.declared.link.End.{End}
use Rattle.mrt_graph.specs.declared.tree.TreeNode.{TreeNode}
use Rattle.mrt_graph.specs.Leads.{leads}
use Rattle.mrt_graph.specs.Topology.{Topology}
use Rattle.mrt_graph.specs.TreeFields.{low_link, parent_link}
use Rattle.gadag_ears.specs.declared.kind.EarKind.{EarKind}
use Rattle.gadag_ears.specs.declared.kind.EarKind.TheVariants.{Child, Neighbour}
use Rattle.mrt_graph.specs.FirstEnd.{IsFirstEnd}
use Rattle.lowpoint_dfs.specs.Subtree.{parent_of}

-- an ear: its kind, the node where it starts, its first link, its new nodes in the ear's order (the first one and the
-- others), and the node where it stops
pub record Ear : Type 0 where
  pub kind : EarKind
  pub start : ℕ
  pub link : ℕ
  pub first : ℕ
  pub others : List ℕ
  pub stop : ℕ

-- its new nodes
abbrev pub new_nodes : Ear → List ℕ
new_nodes ear = ear.first ∷ ear.others

-- the last one of a node and others
abbrev pub last_node : ℕ → List ℕ → ℕ
last_node v [] = v
last_node v (u ∷ us) = last_node u us

-- the link over which an ear goes on from one of its new nodes: a child ear over the node's lowpoint link, a neighbour ear
-- over its parent link
abbrev pub onward_link : EarKind → List TreeNode → ℕ → Option ℕ
onward_link Child tree v = low_link tree v
onward_link Neighbour tree v = parent_link tree v

-- the node to which an ear goes on from one of its new nodes
abbrev pub next_node : Topology → List TreeNode → EarKind → ℕ → Option ℕ
next_node g tree kind v = option_and_then (λ e. leads g.links e v) (onward_link kind tree v)

-- from node v an ear goes on to these nodes, each outside the list, and stops at the first node inside
abbrev pub GoesOn : Topology → List TreeNode → EarKind → List ℕ → ℕ → List ℕ → ℕ → Type 0
GoesOn g tree kind listed v [] stop = (next_node g tree kind v ≡ Some stop) × Contains listed stop
GoesOn g tree kind listed v (u ∷ us) stop =
    (next_node g tree kind v ≡ Some u) × (¬ Contains listed u) × GoesOn g tree kind listed u us stop

-- an end leads to a child of x outside the list
abbrev pub LeadsToChild : Topology → List TreeNode → List ℕ → ℕ → End → Type 0
LeadsToChild g tree listed x end = (¬ Contains listed end.to) × (parent_of g tree end.to ≡ Some x)

-- over which end of node x an ear begins: as long as ends lead to children of x outside the list, a child ear over the
-- first of them; when all children are in the list, a neighbour ear over the first end that leads outside
pub data IsBegun (g : Topology) (tree : List TreeNode) (listed : List ℕ) (x : ℕ) (end : End) : EarKind → Type 0 where
  ToChild : IsFirstEnd g (LeadsToChild g tree listed x) x end → IsBegun g tree listed x end Child
  ToNeighbour : ((v : ℕ) → parent_of g tree v ≡ Some x → Contains listed v)
      → IsFirstEnd g (λ end. ¬ Contains listed end.to) x end → IsBegun g tree listed x end Neighbour

-- the next ear in the turn of node x
pub record IsNextEar (g : Topology) (tree : List TreeNode) (listed : List ℕ) (x : ℕ) (ear : Ear) : Type 0 where
  pub end : End
  pub begun : IsBegun g tree listed x end ear.kind
  pub from : ear.start ≡ x
  pub over : ear.link ≡ end.link
  pub to : ear.first ≡ end.to
  pub onward : GoesOn g tree ear.kind listed ear.first ear.others ear.stop
