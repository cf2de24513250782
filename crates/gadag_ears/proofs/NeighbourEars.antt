-- A neighbour ear goes up by parents from its first node, and stops strictly below the node where it starts.
use Rattle.std.proofs.Common.{◌≡◌, ◌≢◌, ◌⊎◌, ◌<◌, ◌≤◌, ◌∙◌, ℕ, List, [], ◌∷◌, Some, inl, inr, sym, ap, subst, arith}
use Rattle.std.specs.Prelude.{Contains}
use Rattle.std.proofs.lemmas.Option.{same_Some}
use Rattle.mrt_graph.specs.declared.tree.TreeNode.{TreeNode}
use Rattle.mrt_graph.specs.Leads.{leads}
use Rattle.mrt_graph.specs.Topology.{Topology}
use Rattle.mrt_graph.specs.TreeFields.{search_number, parent_link, low_of}
use Rattle.mrt_graph.proofs.Hops.{lead_back, same_ends}
use Rattle.mrt_graph.proofs.Members.{contains_cases, contains_first, contains_later, contains_none}
use Rattle.lowpoint_dfs.specs.Subtree.{IsInSubtree, parent_of}
use Rattle.gadag_ears.specs.declared.kind.EarKind.TheVariants.{Neighbour}
use Rattle.gadag_ears.specs.Ear.{GoesOn}
use Rattle.gadag_ears.proofs.Once.{one_alone, one_more, times}
use Rattle.gadag_ears.proofs.SearchFacts.{AreFacts, hangs_below, one_parent, parent_above, rises}

-- of a neighbour ear from x over its neighbour `first`, outside a list that is closed under parents and has x's children
pub record IsNeighbourStart (g : Topology) (tree : List TreeNode) (listed : List ℕ) (x first link : ℕ) : Type 0 where
  pub in_list : Contains listed x
  pub closed : (v p : ℕ) → Contains listed v → parent_of g tree v ≡ Some p → Contains listed p
  pub children : (v : ℕ) → parent_of g tree v ≡ Some x → Contains listed v
  pub outside : ¬ Contains listed first
  pub touches : leads g.links link x ≡ Some first

-- a new node of the ear: its parent is strictly below x, and its lowpoint at most x's number
pub record IsHigher (g : Topology) (tree : List TreeNode) (x d : ℕ) : Type 0 where
  pub parent : ℕ
  pub is : parent_of g tree d ≡ Some parent
  pub below : IsInSubtree g tree x parent
  pub not_x : parent ≢ x
  pub low : low_of tree d < search_number tree parent

-- a node on its way
pub record IsClimbing (g : Topology) (tree : List TreeNode) (listed : List ℕ) (x first d : ℕ) : Type 0 where
  pub outside : ¬ Contains listed d
  pub below : IsInSubtree g tree x d
  pub above : IsInSubtree g tree d first

pub strictly : (g : Topology) (root : ℕ) (tree : List TreeNode) (u v : ℕ) → AreFacts g root tree → IsInSubtree g tree u v → v ≢ u
    → search_number tree u < search_number tree v
strictly g root tree u v facts below other = elim (hangs_below g tree u v below) [
  | inl same ↦ absurd (other (sym same))
  | inr it ↦ omega (arith, facts.falls v it.parent it.is, rises g root tree u it.parent facts it.below)
]

-- the ear's first link is no parent link of a node on its way
not_over : (g : Topology) (tree : List TreeNode) (listed : List ℕ) (x first link d p : ℕ) → IsNeighbourStart g tree listed x first link
    → IsClimbing g tree listed x first d → parent_of g tree d ≡ Some p → parent_link tree d ≢ Some link
not_over g tree listed x first link d p start way is over =
    let onward : leads g.links link d ≡ Some p = rw over at is in
    elim (same_ends g.links link x first d p start.touches onward) [
      | inl at_x ↦ way.outside (subst (λ (w : ℕ). Contains listed w) (sym at_x) start.in_list)
      | inr at_first ↦
          let back : leads g.links link d ≡ Some x = subst (λ (w : ℕ). leads g.links link w ≡ Some x) (sym at_first) (lead_back g.links link x first start.touches) in
          way.outside (start.children d (is ∙ ap (λ (w : ℕ). Some w) (same_Some p x (sym onward ∙ back))))
    ]

pub climbs : (g : Topology) (root : ℕ) (tree : List TreeNode) (listed : List ℕ) (x first link d : ℕ) → AreFacts g root tree
    → IsNeighbourStart g tree listed x first link → IsClimbing g tree listed x first d → IsHigher g tree x d
climbs g root tree listed x first link d facts start way = elim (hangs_below g tree x d way.below) [
  | inl same ↦ absurd (way.outside (subst (λ (w : ℕ). Contains listed w) same start.in_list))
  | inr it ↦
      let not_x : it.parent ≢ x = λ same. way.outside (start.children d (it.is ∙ ap (λ (w : ℕ). Some w) same)) in
      let low : low_of tree d ≤ search_number tree x = facts.by_link d first link x (facts.parent_within d it.parent it.is).0 way.above
      (not_over g tree listed x first link d it.parent start way it.is) (lead_back g.links link x first start.touches) in
      record {
        parent = it.parent;
        is = it.is;
        below = it.below;
        not_x = not_x;
        low = omega (arith, low, strictly g root tree x it.parent facts it.below not_x);
      }
]

-- a new node after v: it hangs from another new node or from where the ear stops, and its number is below v's
pub record IsUpper (g : Topology) (tree : List TreeNode) (v : ℕ) (us : List ℕ) (stop u : ℕ) : Type 0 where
  pub parent : ℕ
  pub is : parent_of g tree u ≡ Some parent
  pub new : Contains us parent ⊎ (parent ≡ stop)
  pub low : low_of tree u < search_number tree parent

pub record IsNeighbourWay (g : Topology) (tree : List TreeNode) (x v : ℕ) (us : List ℕ) (stop : ℕ) : Type 0 where
  pub nodes : (u : ℕ) → Contains (v ∷ us) u → IsUpper g tree v us stop u
  pub once : (w : ℕ) → times w (v ∷ us) ≤ 1
  pub fall : (u : ℕ) → Contains us u → search_number tree u < search_number tree v
  pub stop_below : IsInSubtree g tree x stop
  pub stop_not_x : stop ≢ x

pub neighbour_way : (g : Topology) (root : ℕ) (tree : List TreeNode) (listed : List ℕ) (x first link v : ℕ) (us : List ℕ) (stop : ℕ) → AreFacts g root tree
    → IsNeighbourStart g tree listed x first link → IsClimbing g tree listed x first v → GoesOn g tree Neighbour listed v us stop
    → IsNeighbourWay g tree x v us stop
neighbour_way g root tree listed x first link v [] stop facts start way goes =
    let up = climbs g root tree listed x first link v facts start way in
    let same : up.parent ≡ stop = one_parent g tree v up.parent stop up.is goes.0 in
    record {
      nodes = λ u inside. elim (contains_cases v u [] inside) [
        | inr none ↦ absurd (contains_none u none)
        | inl it ↦ subst (λ (w : ℕ). IsUpper g tree v [] stop w) (sym it) (record { parent = up.parent; is = up.is; new = inr same; low = up.low })
      ];
      once = one_alone v;
      fall = λ u none. absurd (contains_none u none);
      stop_below = subst (λ (w : ℕ). IsInSubtree g tree x w) same up.below;
      stop_not_x = λ is. up.not_x (same ∙ is);
    }
neighbour_way g root tree listed x first link v (w ∷ ws) stop facts start way goes =
    let up = climbs g root tree listed x first link v facts start way in
    let same : up.parent ≡ w = one_parent g tree v up.parent w up.is goes.0 in
    let next : IsClimbing g tree listed x first w = record {
      outside = goes.1;
      below = subst (λ (y : ℕ). IsInSubtree g tree x y) same up.below;
      above = parent_above g tree v w first goes.0 way.above;
    } in
    let rest = neighbour_way g root tree listed x first link w ws stop facts start next goes.2 in
    record {
      nodes = λ u inside. elim (contains_cases v u (w ∷ ws) inside) [
        | inl it ↦ subst (λ (y : ℕ). IsUpper g tree v (w ∷ ws) stop y) (sym it)
            (record { parent = up.parent; is = up.is; new = inl (subst (λ (y : ℕ). Contains (w ∷ ws) y) (sym same) (contains_first w ws)); low = up.low })
        | inr later ↦
            let it = rest.nodes u later in
            record {
              parent = it.parent;
              is = it.is;
              new = elim it.new [ inl new ↦ inl (contains_later w it.parent ws new) | inr at_stop ↦ inr at_stop ];
              low = it.low;
            }
      ];
      once = λ y. one_more v y (w ∷ ws) (below rest) (rest.once y);
      fall = λ u inside. elim (contains_cases w u ws inside) [
        | inl it ↦ subst (λ (y : ℕ). search_number tree y < search_number tree v) (sym it) (facts.falls v w goes.0)
        | inr later ↦ omega (arith, rest.fall u later, facts.falls v w goes.0)
      ];
      stop_below = rest.stop_below;
      stop_not_x = rest.stop_not_x;
    }
  where
    below : IsNeighbourWay g tree x w ws stop → Contains (w ∷ ws) v → ⊥
    below rest inside = elim (contains_cases w v ws inside) [
      | inl same ↦ omega (arith, facts.falls v w goes.0, ap (λ (y : ℕ). search_number tree y) same)
      | inr later ↦ omega (arith, facts.falls v w goes.0, rest.fall v later)
    ]
