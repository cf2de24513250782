-- What the ears need to know of the search tree.
use Rattle.std.proofs.Common.{◌≡◌, ◌≢◌, ◌⊎◌, ◌<◌, ◌≤◌, ◌∙◌, ℕ, List, Some, length, inl, inr, sym, subst, arith}
use Rattle.std.proofs.lemmas.Option.{same_Some}
use Rattle.mrt_graph.specs.declared.tree.TreeNode.{TreeNode}
use Rattle.mrt_graph.specs.GraphInvariant.{IsTopology}
use Rattle.mrt_graph.specs.Leads.{leads}
use Rattle.mrt_graph.specs.Topology.{Topology}
use Rattle.mrt_graph.specs.TreeFields.{search_number, parent_link, low_of, low_link}
use Rattle.lowpoint_dfs.specs.Subtree.{HasParent, IsInSubtree, Itself, Below, parent_of}
use Rattle.gadag_ears.specs.declared.kind.EarKind.TheVariants.{Child}
use Rattle.gadag_ears.specs.Ear.{next_node}

-- where a node's lowpoint link leads
pub data IsLowWay (g : Topology) (tree : List TreeNode) (v : ℕ) : Type 0 where
  ToParent : low_of tree v ≡ search_number tree v → low_link tree v ≡ parent_link tree v → IsLowWay g tree v
  Down : (c : ℕ) → next_node g tree Child v ≡ Some c → parent_of g tree c ≡ Some v → low_of tree c ≡ low_of tree v
      → low_of tree v < search_number tree v → IsLowWay g tree v
  Up : (a e : ℕ) → next_node g tree Child v ≡ Some a → leads g.links e v ≡ Some a → search_number tree a ≡ low_of tree v
      → low_of tree v < search_number tree v → IsLowWay g tree v

-- the facts
pub record AreFacts (g : Topology) (root : ℕ) (tree : List TreeNode) : Type 0 where
  pub kept : IsTopology g
  pub root_within : root < length g.ids
  pub one_each : length tree ≡ length g.ids
  pub no_parent : (p : ℕ) → parent_of g tree root ≡ Some p → ⊥
  pub parent : (v : ℕ) → v < length g.ids → v ≢ root → HasParent g tree v
  pub falls : (v p : ℕ) → parent_of g tree v ≡ Some p → search_number tree p < search_number tree v
  pub few : (v : ℕ) → v < length g.ids → search_number tree v ≤ length g.ids
  pub differ : (u v : ℕ) → u < length g.ids → v < length g.ids → search_number tree u ≡ search_number tree v → u ≡ v
  pub leads_within : (e u v : ℕ) → leads g.links e u ≡ Some v → (u < length g.ids) × (v < length g.ids)
  pub parent_within : (v p : ℕ) → parent_of g tree v ≡ Some p → (v < length g.ids) × (p < length g.ids)
  pub touches : (v e : ℕ) → parent_link tree v ≡ Some e → (u : ℕ) × (leads g.links e v ≡ Some u)
  pub joins : (e u v : ℕ) → leads g.links e u ≡ Some v → IsInSubtree g tree u v ⊎ IsInSubtree g tree v u
  pub own : (v : ℕ) → v < length g.ids → low_of tree v ≤ search_number tree v
  pub by_child : (v p : ℕ) → parent_of g tree v ≡ Some p → low_of tree p ≤ low_of tree v
  pub by_link : (v w e x : ℕ) → v < length g.ids → IsInSubtree g tree v w → parent_link tree v ≢ Some e
      → leads g.links e w ≡ Some x → low_of tree v ≤ search_number tree x
  pub root_first : search_number tree root ≡ 1
  pub low_from_one : (v : ℕ) → v < length g.ids → 1 ≤ low_of tree v
  pub low_way : (v : ℕ) → v < length g.ids → IsLowWay g tree v
  pub low_free : (v e : ℕ) → v < length g.ids → low_of tree v < search_number tree v → low_link tree v ≡ Some e → parent_link tree v ≢ Some e

pub one_parent : (g : Topology) (tree : List TreeNode) (v p q : ℕ) → parent_of g tree v ≡ Some p → parent_of g tree v ≡ Some q → p ≡ q
one_parent g tree v p q is so = same_Some p q (sym is ∙ so)

-- numbers rise downwards
pub rises : (g : Topology) (root : ℕ) (tree : List TreeNode) (u v : ℕ) → AreFacts g root tree → IsInSubtree g tree u v
    → search_number tree u ≤ search_number tree v
rises g root tree u v facts Itself = omega arith
rises g root tree u v facts (Below x parent is rest) = omega (arith, facts.falls x parent is, rises g root tree u parent facts rest)

-- a node above another one is that node, or above its parent
pub parent_below : (g : Topology) (tree : List TreeNode) (u v p : ℕ) → IsInSubtree g tree u v → parent_of g tree v ≡ Some p
    → (u ≡ v) ⊎ IsInSubtree g tree u p
parent_below g tree u v p Itself is = inl (λ i. v)
parent_below g tree u v p (Below x parent so rest) is =
    inr (subst (λ (q : ℕ). IsInSubtree g tree u q) (one_parent g tree x parent p so is) rest)

-- a node below another one has a parent, unless it is that node
pub record HangsBelow (g : Topology) (tree : List TreeNode) (u v : ℕ) : Type 0 where
  pub parent : ℕ
  pub is : parent_of g tree v ≡ Some parent
  pub below : IsInSubtree g tree u parent

pub hangs_below : (g : Topology) (tree : List TreeNode) (u v : ℕ) → IsInSubtree g tree u v → (u ≡ v) ⊎ HangsBelow g tree u v
hangs_below g tree u v Itself = inl (λ i. v)
hangs_below g tree u v (Below x parent is rest) = inr (record { parent = parent; is = is; below = rest })

-- a list that is closed under parents has all ancestors of its members
pub ancestors_in : (g : Topology) (tree : List TreeNode) (Listed : ℕ → Type 0)
    → ((v p : ℕ) → Listed v → parent_of g tree v ≡ Some p → Listed p)
    → (u v : ℕ) → Listed v → IsInSubtree g tree u v → Listed u
ancestors_in g tree Listed closed u v listed Itself = listed
ancestors_in g tree Listed closed u v listed (Below x parent is rest) =
    ancestors_in g tree Listed closed u parent (closed x parent listed is) rest

-- what a node is above, its parent is above
pub parent_above : (g : Topology) (tree : List TreeNode) (d p v : ℕ) → parent_of g tree d ≡ Some p → IsInSubtree g tree d v
    → IsInSubtree g tree p v
parent_above g tree d p v is Itself = Below v p is Itself
parent_above g tree d p v is (Below y q so more) = Below y q so (parent_above g tree d p q is more)
