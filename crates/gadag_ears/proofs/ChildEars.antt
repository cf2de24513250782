-- A child ear goes down from its first node, one lowpoint all the way, and stops where that lowpoint is.
use Rattle.std.proofs.Common.{◌≡◌, ◌⊎◌, ◌<◌, ◌≤◌, ◌∙◌, ℕ, List, [], ◌∷◌, Some, length, inl, inr, refl, sym, ap, subst, arith}
use Rattle.std.specs.Option.{option_and_then}
use Rattle.std.specs.Prelude.{Contains}
use Rattle.std.proofs.lemmas.Option.{same_Some}
use Rattle.mrt_graph.specs.declared.tree.TreeNode.{TreeNode}
use Rattle.mrt_graph.specs.Leads.{leads}
use Rattle.mrt_graph.specs.Topology.{Topology}
use Rattle.mrt_graph.specs.TreeFields.{search_number, parent_link, low_of, low_link}
use Rattle.mrt_graph.proofs.Members.{contains_cases, contains_first, contains_later, contains_none}
use Rattle.lowpoint_dfs.specs.Subtree.{IsInSubtree, Below, parent_of}
use Rattle.gadag_ears.specs.declared.kind.EarKind.TheVariants.{Child}
use Rattle.gadag_ears.specs.Ear.{GoesOn, next_node}
use Rattle.gadag_ears.proofs.Once.{one_alone, one_more, times}
use Rattle.lowpoint_dfs.proofs.Ancestors.{one_up}
use Rattle.gadag_ears.proofs.SearchFacts.{AreFacts, IsLowWay, ToParent, Down, Up, ancestors_in, parent_below, rises}

-- of a child ear from x over its child `first`, outside a list that is closed under parents
pub record IsChildStart (g : Topology) (tree : List TreeNode) (listed : List ℕ) (x first : ℕ) : Type 0 where
  pub in_list : Contains listed x
  pub closed : (v p : ℕ) → Contains listed v → parent_of g tree v ≡ Some p → Contains listed p
  pub outside : ¬ Contains listed first
  pub child : parent_of g tree first ≡ Some x

-- a node on its way
pub record IsOnWay (g : Topology) (tree : List TreeNode) (listed : List ℕ) (first v : ℕ) : Type 0 where
  pub within : v < length g.ids
  pub outside : ¬ Contains listed v
  pub below : IsInSubtree g tree first v
  pub low : low_of tree v ≡ low_of tree first
  pub lower : (v ≡ first) ⊎ (low_of tree first < search_number tree first)

-- a new node after v: it hangs from v or from another new node, and its number is above v's
pub record IsLower (g : Topology) (tree : List TreeNode) (first v : ℕ) (us : List ℕ) (u : ℕ) : Type 0 where
  pub parent : ℕ
  pub is : parent_of g tree u ≡ Some parent
  pub new : Contains (v ∷ us) parent
  pub low : low_of tree u < search_number tree parent
  pub rises : search_number tree v < search_number tree u
  pub within : u < length g.ids

-- where it stops: at x, back over the parent link of its one new node; or where its lowpoint is
pub data IsChildStop (g : Topology) (tree : List TreeNode) (x first v : ℕ) (us : List ℕ) (stop : ℕ) : Type 0 where
  Back : stop ≡ x → us ≡ [] → v ≡ first → low_of tree first ≡ search_number tree first → low_link tree first ≡ parent_link tree first
      → IsChildStop g tree x first v us stop
  AtLow : search_number tree stop ≡ low_of tree first → low_of tree first < search_number tree first → IsInSubtree g tree stop x
      → IsChildStop g tree x first v us stop

pub record IsChildWay (g : Topology) (tree : List TreeNode) (x first v : ℕ) (us : List ℕ) (stop : ℕ) : Type 0 where
  pub nodes : (u : ℕ) → Contains us u → IsLower g tree first v us u
  pub once : (w : ℕ) → times w (v ∷ us) ≤ 1
  pub stops : IsChildStop g tree x first v us stop

-- where one step is known, the ear's is that one
pub steps_in : (g : Topology) (tree : List TreeNode) (listed : List ℕ) (v a : ℕ) (us : List ℕ) (stop : ℕ)
    → GoesOn g tree Child listed v us stop → next_node g tree Child v ≡ Some a → Contains listed a → (us ≡ []) × (stop ≡ a)
steps_in g tree listed v a [] stop goes is inside = (refl, same_Some stop a (sym goes.0 ∙ is))
steps_in g tree listed v a (u ∷ us) stop goes is inside =
    absurd (goes.1 (subst (λ (w : ℕ). Contains listed w) (sym (same_Some u a (sym goes.0 ∙ is))) inside))

alone : (v : ℕ) (us : List ℕ) → us ≡ [] → (w : ℕ) → times w (v ∷ us) ≤ 1
alone v us none w = subst (λ (xs : List ℕ). times w (v ∷ xs) ≤ 1) (sym none) (one_alone v w)

no_more : (us : List ℕ) (u : ℕ) → us ≡ [] → Contains us u → ⊥
no_more us u none c = contains_none u (subst (λ (xs : List ℕ). Contains xs u) none c)

-- the lowpoint's node is x or above x, so that it is in the list
pub low_above : (g : Topology) (root : ℕ) (tree : List TreeNode) (listed : List ℕ) (x first v a e : ℕ) → AreFacts g root tree
    → IsChildStart g tree listed x first → IsOnWay g tree listed first v → leads g.links e v ≡ Some a
    → search_number tree a ≡ low_of tree v → low_of tree v < search_number tree v → low_of tree first < search_number tree first → IsInSubtree g tree a x
low_above g root tree listed x first v a e facts start way onward number low lower =
    let above : IsInSubtree g tree a v = elim (facts.joins e v a onward) [
      | inl below ↦ absurd (omega (arith, rises g root tree v a facts below, number, low))
      | inr above ↦ above
    ] in
    elim (one_up g tree a first v above way.below) [
      | inr below ↦ absurd (omega (arith, rises g root tree first a facts below, number, way.low, lower))
      | inl up ↦ elim (parent_below g tree a first x up start.child) [
        | inl same ↦ absurd (omega (arith, ap (λ (w : ℕ). search_number tree w) same, number, way.low, lower))
        | inr further ↦ further
      ]
    ]

pub way_lower : (g : Topology) (tree : List TreeNode) (listed : List ℕ) (first v : ℕ) → IsOnWay g tree listed first v → low_of tree v < search_number tree v
    → low_of tree first < search_number tree first
way_lower g tree listed first v way low = elim way.lower [
  | inl same ↦ subst (λ (w : ℕ). low_of tree w < search_number tree w) same low
  | inr lower ↦ lower
]

-- a step down
pub down_on_way : (g : Topology) (root : ℕ) (tree : List TreeNode) (listed : List ℕ) (x first v c : ℕ) → AreFacts g root tree
    → IsChildStart g tree listed x first → IsOnWay g tree listed first v → parent_of g tree c ≡ Some v → low_of tree c ≡ low_of tree v
    → low_of tree v < search_number tree v → IsOnWay g tree listed first c
down_on_way g root tree listed x first v c facts start way child low lower = record {
  within = (facts.parent_within c v child).0;
  outside = λ inside. way.outside (start.closed c v inside child);
  below = Below c v child way.below;
  low = low ∙ way.low;
  lower = inr (way_lower g tree listed first v way lower);
}

step_down : (g : Topology) (root : ℕ) (tree : List TreeNode) (listed : List ℕ) (x first v c : ℕ) (us : List ℕ) (stop : ℕ) → AreFacts g root tree
    → IsOnWay g tree listed first v → low_of tree v < search_number tree v → IsOnWay g tree listed first c → parent_of g tree c ≡ Some v
    → IsChildWay g tree x first c us stop → IsChildWay g tree x first v (c ∷ us) stop
step_down g root tree listed x first v c us stop facts way low next child rest = record {
  nodes = λ u inside. elim (contains_cases c u us inside) [
    | inl same ↦ subst (λ (w : ℕ). IsLower g tree first v (c ∷ us) w) (sym same) (record {
      parent = v;
      is = child;
      new = contains_first v (c ∷ us);
      low = omega (arith, next.low, way.low, low);
      rises = facts.falls c v child;
      within = next.within;
    })
    | inr later ↦
        let it = rest.nodes u later in
        record {
          parent = it.parent;
          is = it.is;
          new = contains_later v it.parent (c ∷ us) it.new;
          low = it.low;
          rises = omega (arith, facts.falls c v child, it.rises);
          within = it.within;
        }
  ];
  once = λ w. one_more v w (c ∷ us) above (rest.once w);
  stops = onward rest.stops;
}
  where
    above : Contains (c ∷ us) v → ⊥
    above inside = elim (contains_cases c v us inside) [
      | inl same ↦ omega (arith, facts.falls c v child, ap (λ (w : ℕ). search_number tree w) same)
      | inr later ↦ omega (arith, facts.falls c v child, (rest.nodes v later).rises)
    ]

    onward : IsChildStop g tree x first c us stop → IsChildStop g tree x first v (c ∷ us) stop
    onward (Back at_x none same own link) =
        let lower = way_lower g tree listed first v way low in absurd (omega (arith, own, lower))
    onward (AtLow number lower above) = AtLow number lower above

-- it ends at v over a link to the lowpoint's node
ends_up : (g : Topology) (root : ℕ) (tree : List TreeNode) (listed : List ℕ) (x first v a e : ℕ) (us : List ℕ) (stop : ℕ) → AreFacts g root tree
    → IsChildStart g tree listed x first → IsOnWay g tree listed first v → GoesOn g tree Child listed v us stop
    → next_node g tree Child v ≡ Some a → leads g.links e v ≡ Some a → search_number tree a ≡ low_of tree v → low_of tree v < search_number tree v
    → IsChildWay g tree x first v us stop
ends_up g root tree listed x first v a e us stop facts start way goes is onward number low =
    let lower = way_lower g tree listed first v way low in
    let above = low_above g root tree listed x first v a e facts start way onward number low lower in
    let inside : Contains listed a = ancestors_in g tree (Contains listed) start.closed a x start.in_list above in
    let both = steps_in g tree listed v a us stop goes is inside in
    record {
      nodes = λ u c. absurd (no_more us u both.0 c);
      once = alone v us both.0;
      stops = AtLow (ap (λ (w : ℕ). search_number tree w) both.1 ∙ number ∙ way.low) lower (subst (λ (w : ℕ). IsInSubtree g tree w x) (sym both.1) above);
    }

-- it ends at v over v's parent link, where v is the first node
goes_back : (g : Topology) (root : ℕ) (tree : List TreeNode) (listed : List ℕ) (x first v : ℕ) (us : List ℕ) (stop : ℕ) → AreFacts g root tree
    → IsChildStart g tree listed x first → IsOnWay g tree listed first v → GoesOn g tree Child listed v us stop
    → low_of tree v ≡ search_number tree v → low_link tree v ≡ parent_link tree v → IsChildWay g tree x first v us stop
goes_back g root tree listed x first v us stop facts start way goes own link = elim way.lower [
  | inr lower ↦ absurd (omega (arith, way.low, own, lower, rises g root tree first v facts way.below))
  | inl same ↦
      let own' : low_of tree first ≡ search_number tree first = subst (λ (w : ℕ). low_of tree w ≡ search_number tree w) same own in
      let link' : low_link tree first ≡ parent_link tree first = subst (λ (w : ℕ). low_link tree w ≡ parent_link tree w) same link in
      let is : next_node g tree Child v ≡ Some x =
      ap (λ o. option_and_then (λ e. leads g.links e v) o) link ∙ subst (λ (w : ℕ). parent_of g tree w ≡ Some x) (sym same) start.child in
      let both = steps_in g tree listed v x us stop goes is start.in_list in
      record { nodes = λ u c. absurd (no_more us u both.0 c); once = alone v us both.0; stops = Back both.1 both.0 same own' link' }
]

way_ends : (g : Topology) (root : ℕ) (tree : List TreeNode) (listed : List ℕ) (x first v stop : ℕ) → AreFacts g root tree
    → IsChildStart g tree listed x first → IsOnWay g tree listed first v → GoesOn g tree Child listed v [] stop → IsLowWay g tree v
    → IsChildWay g tree x first v [] stop
way_ends g root tree listed x first v stop facts start way goes (ToParent own link) =
    goes_back g root tree listed x first v [] stop facts start way goes own link
way_ends g root tree listed x first v stop facts start way goes (Up a e is onward number low) =
    ends_up g root tree listed x first v a e [] stop facts start way goes is onward number low
way_ends g root tree listed x first v stop facts start way goes (Down c is child low lower) =
    let next = down_on_way g root tree listed x first v c facts start way child low lower in
    absurd (next.outside (subst (λ (w : ℕ). Contains listed w) (same_Some stop c (sym goes.0 ∙ is)) goes.1))

way_on : (g : Topology) (root : ℕ) (tree : List TreeNode) (listed : List ℕ) (x first v w : ℕ) (ws : List ℕ) (stop : ℕ) → AreFacts g root tree
    → IsChildStart g tree listed x first → IsOnWay g tree listed first v → GoesOn g tree Child listed v (w ∷ ws) stop
    → (IsOnWay g tree listed first w → IsChildWay g tree x first w ws stop) → IsLowWay g tree v → IsChildWay g tree x first v (w ∷ ws) stop
way_on g root tree listed x first v w ws stop facts start way goes rest (ToParent own link) =
    goes_back g root tree listed x first v (w ∷ ws) stop facts start way goes own link
way_on g root tree listed x first v w ws stop facts start way goes rest (Up a e is onward number low) =
    ends_up g root tree listed x first v a e (w ∷ ws) stop facts start way goes is onward number low
way_on g root tree listed x first v w ws stop facts start way goes rest (Down c is child low lower) =
    let same : c ≡ w = same_Some c w (sym is ∙ goes.0) in
    let next = down_on_way g root tree listed x first v c facts start way child low lower in
    let next_w = subst (λ (d : ℕ). IsOnWay g tree listed first d) same next in
    step_down g root tree listed x first v w ws stop facts way lower next_w (subst (λ (d : ℕ). parent_of g tree d ≡ Some v) same child) (rest next_w)

pub child_way : (g : Topology) (root : ℕ) (tree : List TreeNode) (listed : List ℕ) (x first v : ℕ) (us : List ℕ) (stop : ℕ) → AreFacts g root tree
    → IsChildStart g tree listed x first → IsOnWay g tree listed first v → GoesOn g tree Child listed v us stop
    → IsChildWay g tree x first v us stop
child_way g root tree listed x first v [] stop facts start way goes =
    way_ends g root tree listed x first v stop facts start way goes (facts.low_way v way.within)
child_way g root tree listed x first v (w ∷ ws) stop facts start way goes =
    way_on g root tree listed x first v w ws stop facts start way goes
    (λ next. child_way g root tree listed x first w ws stop facts start next goes.2) (facts.low_way v way.within)
