-- An ear's way exists, and comes to an end.
use Rattle.std.proofs.Common.{◌≡◌, ◌<◌, ◌≤◌, ◌+◌, ◌-◌, ◌++◌, ◌∙◌, ℕ, Bool, true, false, List, [], ◌∷◌, Some, length, slice_index_or, inl, inr, refl, sym, ap, subst, arith, append_assoc}
use Rattle.std.specs.Option.{option_and_then}
use Rattle.std.specs.Prelude.{Contains, IsSome}
use Rattle.std.proofs.lemmas.Option.{same_Some}
use Rattle.mrt_graph.specs.declared.link.End.{End}
use Rattle.mrt_graph.specs.declared.tree.TreeNode.{TreeNode}
use Rattle.mrt_graph.specs.Leads.{leads}
use Rattle.mrt_graph.specs.Topology.{Topology}
use Rattle.mrt_graph.specs.TreeFields.{search_number}
use Rattle.mrt_graph.proofs.EndsAt.{end_leads}
use Rattle.mrt_graph.specs.FirstEnd.{IsFirstEnd}
use Rattle.lowpoint_dfs.specs.Subtree.{IsInSubtree, Itself, parent_of}
use Rattle.gadag_ears.specs.declared.kind.EarKind.{EarKind}
use Rattle.gadag_ears.specs.declared.kind.EarKind.TheVariants.{Child, Neighbour}
use Rattle.gadag_ears.specs.Ear.{GoesOn, IsBegun, ToChild, ToNeighbour, next_node}
use Rattle.gadag_ears.specs.steps.Growing.{AreListed, IsLeaving, IsEarWay}
use Rattle.gadag_ears.proofs.ChildEars.{IsChildStart, IsOnWay, down_on_way, low_above, way_lower}
use Rattle.gadag_ears.proofs.FromSearch.{facts_of}
use Rattle.gadag_ears.proofs.NeighbourEars.{IsClimbing, IsNeighbourStart, climbs}
use Rattle.gadag_ears.proofs.TurnsKept.{link_of_next}
use Rattle.gadag_ears.proofs.SearchFacts.{AreFacts, Down, IsLowWay, ToParent, Up, ancestors_in, hangs_below, one_parent, parent_above, rises}

-- an ear from x at a node on its way, with k new nodes before it
pub data IsGoing (g : Topology) (tree : List TreeNode) (nodes : List ℕ) (x first link here k : ℕ) : EarKind → Type 0 where
  GoesDown : IsChildStart g tree nodes x first → IsOnWay g tree nodes first here → k + search_number tree first ≤ search_number tree here
      → IsGoing g tree nodes x first link here k Child
  Climbs : IsNeighbourStart g tree nodes x first link → IsClimbing g tree nodes x first here → k + search_number tree here ≤ search_number tree first
      → IsGoing g tree nodes x first link here k Neighbour

-- the same for the code, which holds marks
pub record IsWalking (g : Topology) (tree : List TreeNode) (kind : EarKind) (listed : List Bool) (first here k : ℕ) : Type 0 where
  pub root : ℕ
  pub facts : AreFacts g root tree
  pub one_mark_each : length listed ≡ length g.ids
  pub nodes : List ℕ
  pub are : AreListed listed nodes
  pub x : ℕ
  pub link : ℕ
  pub going : IsGoing g tree nodes x first link here k kind

-- how far it is to the end
abbrev pub rank : Topology → List TreeNode → EarKind → ℕ → ℕ
rank g tree Child v = length g.ids - search_number tree v
rank g tree Neighbour v = search_number tree v

-- a child of x, or a node below it, has a parent
below_child : (g : Topology) (tree : List TreeNode) (nodes : List ℕ) (x first here : ℕ) → IsChildStart g tree nodes x first → IsOnWay g tree nodes first here
    → (p : ℕ) × (parent_of g tree here ≡ Some p)
below_child g tree nodes x first here start way = elim (hangs_below g tree first here way.below) [
  | inl same ↦ (x, subst (λ (w : ℕ). parent_of g tree w ≡ Some x) same start.child)
  | inr it ↦ (it.parent, it.is)
]

down_next : (g : Topology) (tree : List TreeNode) (here p : ℕ) → parent_of g tree here ≡ Some p → IsLowWay g tree here
    → (w : ℕ) × (next_node g tree Child here ≡ Some w)
down_next g tree here p parent (ToParent own link) = (p, ap (λ o. option_and_then (λ e. leads g.links e here) o) link ∙ parent)
down_next g tree here p parent (Down c is child low lower) = (c, is)
down_next g tree here p parent (Up a e is onward number low) = (a, is)

pub next_there : (g : Topology) (root : ℕ) (tree : List TreeNode) (nodes : List ℕ) (x first link here k : ℕ) (kind : EarKind) → AreFacts g root tree
    → IsGoing g tree nodes x first link here k kind → (w : ℕ) × (next_node g tree kind here ≡ Some w)
next_there g root tree nodes x first link here k kind facts (GoesDown start way count) =
    let up = below_child g tree nodes x first here start way in
    down_next g tree here up.0 up.1 (facts.low_way here way.within)
next_there g root tree nodes x first link here k kind facts (Climbs start way count) =
    let up = climbs g root tree nodes x first link here facts start way in (up.parent, up.is)

-- a step to a node outside
down_on : (g : Topology) (root : ℕ) (tree : List TreeNode) (nodes : List ℕ) (x first link here k w : ℕ) → AreFacts g root tree
    → IsChildStart g tree nodes x first → IsOnWay g tree nodes first here → k + search_number tree first ≤ search_number tree here
    → next_node g tree Child here ≡ Some w → ¬ Contains nodes w → IsLowWay g tree here
    → IsGoing g tree nodes x first link w (k + 1) Child × (search_number tree here < search_number tree w)
down_on g root tree nodes x first link here k w facts start way count is outside (ToParent own link') = elim way.lower [
  | inr lower ↦ absurd (omega (arith, way.low, own, lower, rises g root tree first here facts way.below))
  | inl same ↦
      let back : next_node g tree Child here ≡ Some x =
      ap (λ o. option_and_then (λ e. leads g.links e here) o) link' ∙ subst (λ (v : ℕ). parent_of g tree v ≡ Some x) (sym same) start.child in
      absurd (outside (subst (λ (v : ℕ). Contains nodes v) (same_Some x w (sym back ∙ is)) start.in_list))
]
down_on g root tree nodes x first link here k w facts start way count is outside (Up a e up onward number low) =
    let lower = way_lower g tree nodes first here way low in
    let above = low_above g root tree nodes x first here a e facts start way onward number low lower in
    let inside : Contains nodes a = ancestors_in g tree (Contains nodes) start.closed a x start.in_list above in
    absurd (outside (subst (λ (v : ℕ). Contains nodes v) (same_Some a w (sym up ∙ is)) inside))
down_on g root tree nodes x first link here k w facts start way count is outside (Down c down child low lower) =
    let same : c ≡ w = same_Some c w (sym down ∙ is) in
    let next = down_on_way g root tree nodes x first here c facts start way child low lower in
    subst (λ (v : ℕ). IsGoing g tree nodes x first link v (k + 1) Child × (search_number tree here < search_number tree v)) same
    (GoesDown start next (omega (arith, count, facts.falls c here child)), facts.falls c here child)

-- how far it was and is
pub record GoesNearer (g : Topology) (tree : List TreeNode) (nodes : List ℕ) (x first link here k w : ℕ) (kind : EarKind) : Type 0 where
  pub going : IsGoing g tree nodes x first link w (k + 1) kind
  pub nearer : rank g tree kind w < rank g tree kind here

pub goes_nearer : (g : Topology) (root : ℕ) (tree : List TreeNode) (nodes : List ℕ) (x first link here k w : ℕ) (kind : EarKind) → AreFacts g root tree
    → IsGoing g tree nodes x first link here k kind → next_node g tree kind here ≡ Some w → w < length g.ids → ¬ Contains nodes w
    → GoesNearer g tree nodes x first link here k w kind
goes_nearer g root tree nodes x first link here k w kind facts (GoesDown start way count) is within outside =
    let next = down_on g root tree nodes x first link here k w facts start way count is outside (facts.low_way here way.within) in
    record { going = next.0; nearer = omega (arith, next.1, facts.few w within) }
goes_nearer g root tree nodes x first link here k w kind facts (Climbs start way count) is within outside =
    let up = climbs g root tree nodes x first link here facts start way in
    let same : up.parent ≡ w = one_parent g tree here up.parent w up.is is in
    let next : IsClimbing g tree nodes x first w = record {
      outside = outside;
      below = subst (λ (y : ℕ). IsInSubtree g tree x y) same up.below;
      above = parent_above g tree here w first is way.above;
    } in
    record { going = Climbs start next (omega (arith, count, facts.falls here w is)); nearer = facts.falls here w is }

-- the new nodes before it are fewer than the graph's nodes
pub few_before : (g : Topology) (root : ℕ) (tree : List TreeNode) (nodes : List ℕ) (x first link here k : ℕ) (kind : EarKind) → AreFacts g root tree
    → IsGoing g tree nodes x first link here k kind → (here < length g.ids) × (k < length g.ids)
few_before g root tree nodes x first link here k kind facts (GoesDown start way count) =
    (way.within, omega (arith, count, facts.falls first x start.child, facts.few here way.within))
few_before g root tree nodes x first link here k kind facts (Climbs start way count) =
    let up = climbs g root tree nodes x first link here facts start way in (
      (facts.parent_within here up.parent up.is).0,
      omega (arith, count, facts.falls here up.parent up.is, facts.few first (facts.leads_within link x first start.touches).1),
    )

-- where an ear begins
first_over : (g : Topology) (root : ℕ) (tree : List TreeNode) (x first : ℕ) (Asked : End → Type 0) (end : End) → AreFacts g root tree
    → IsFirstEnd g Asked x end → first ≡ end.to → leads g.links end.link x ≡ Some first
first_over g root tree x first Asked end facts is to =
    end_leads g x is.place is.ends end facts.kept is.list is.there ∙ ap (λ (w : ℕ). Some w) (sym to)

pub begins : (g : Topology) (root : ℕ) (tree : List TreeNode) (kind : EarKind) (nodes : List ℕ) (x first : ℕ) (end : End) → AreFacts g root tree
    → Contains nodes x → ((v p : ℕ) → Contains nodes v → parent_of g tree v ≡ Some p → Contains nodes p)
    → IsBegun g tree nodes x end kind → first ≡ end.to → IsGoing g tree nodes x first end.link first 0 kind
begins g root tree kind nodes x first end facts inside closed (ToChild is) to =
    let out : ¬ Contains nodes first = λ c. is.asked.0 (subst (λ (w : ℕ). Contains nodes w) to c) in
    let child : parent_of g tree first ≡ Some x = ap (λ (w : ℕ). parent_of g tree w) to ∙ is.asked.1 in
    GoesDown (record { in_list = inside; closed = closed; outside = out; child = child })
    (record { within = (facts.parent_within first x child).0; outside = out; below = Itself; low = refl; lower = inl refl })
    (omega arith)
begins g root tree kind nodes x first end facts inside closed (ToNeighbour children is) to =
    let out : ¬ Contains nodes first = λ c. is.asked (subst (λ (w : ℕ). Contains nodes w) to c) in
    let touches = first_over g root tree x first (λ end. ¬ Contains nodes end.to) end facts is to in
    let below : IsInSubtree g tree x first = elim (facts.joins end.link x first touches) [
      | inl below ↦ below
      | inr above ↦ absurd (out (ancestors_in g tree (Contains nodes) closed first x inside above))
    ] in
    Climbs (record { in_list = inside; closed = closed; children = children; outside = out; touches = touches })
    (record { outside = out; below = below; above = Itself }) (omega arith)

pub walk_begins : (g : Topology) (tree : List TreeNode) (kind : EarKind) (listed : List Bool) (first : ℕ) → IsLeaving g tree kind listed first
    → IsWalking g tree kind listed first first 0
walk_begins g tree kind listed first leaving = record {
  root = leaving.root;
  facts = facts_of g leaving.root tree leaving.searched;
  one_mark_each = leaving.one_mark_each;
  nodes = leaving.nodes;
  are = leaving.are;
  x = leaving.x;
  link = leaving.end.link;
  going = begins g leaving.root tree kind leaving.nodes leaving.x first leaving.end (facts_of g leaving.root tree leaving.searched)
      leaving.in_list leaving.closed leaving.begun leaving.to;
}

pub walk_has_next : (g : Topology) (tree : List TreeNode) (kind : EarKind) (listed : List Bool) (first here k : ℕ) → IsWalking g tree kind listed first here k
    → IsSome (next_node g tree kind here)
walk_has_next g tree kind listed first here k walking =
    let next = next_there g walking.root tree walking.nodes walking.x first walking.link here k kind walking.facts walking.going in
    rw next.1 refl

pub walk_within : (g : Topology) (tree : List TreeNode) (kind : EarKind) (listed : List Bool) (first here k : ℕ) → IsWalking g tree kind listed first here k
    → (here < length tree) × (k < length g.ids)
walk_within g tree kind listed first here k walking =
    let both = few_before g walking.root tree walking.nodes walking.x first walking.link here k kind walking.facts walking.going in
    (omega (arith, both.0, walking.facts.one_each), both.1)

pub next_within : (g : Topology) (root : ℕ) (tree : List TreeNode) (kind : EarKind) (here w : ℕ) → AreFacts g root tree → next_node g tree kind here ≡ Some w
    → w < length g.ids
next_within g root tree kind here w facts is =
    let over = link_of_next g tree kind here w is in (facts.leads_within over.0 here w over.2).1

pub walk_next_within : (g : Topology) (tree : List TreeNode) (kind : EarKind) (listed : List Bool) (first here k w : ℕ) → IsWalking g tree kind listed first here k
    → next_node g tree kind here ≡ Some w → w < length listed
walk_next_within g tree kind listed first here k w walking is =
    omega (arith, next_within g walking.root tree kind here w walking.facts is, walking.one_mark_each)

-- the walk goes on to a node without a mark
pub record WalksNearer (g : Topology) (tree : List TreeNode) (kind : EarKind) (listed : List Bool) (first here k w : ℕ) : Type 0 where
  pub walking : IsWalking g tree kind listed first w (k + 1)
  pub nearer : rank g tree kind w < rank g tree kind here

pub walks_nearer : (g : Topology) (tree : List TreeNode) (kind : EarKind) (listed : List Bool) (first here k w : ℕ) → IsWalking g tree kind listed first here k
    → next_node g tree kind here ≡ Some w → slice_index_or listed w false ≡ false → WalksNearer g tree kind listed first here k w
walks_nearer g tree kind listed first here k w walking is none =
    let outside : ¬ Contains walking.nodes w = λ c. let both : true ≡ false = sym ((walking.are w).1 c) ∙ none in cc in
    let next = goes_nearer g walking.root tree walking.nodes walking.x first walking.link here k w kind walking.facts walking.going is
    (next_within g walking.root tree kind here w walking.facts is) outside in
    record {
      walking = record {
        root = walking.root;
        facts = walking.facts;
        one_mark_each = walking.one_mark_each;
        nodes = walking.nodes;
        are = walking.are;
        x = walking.x;
        link = walking.link;
        going = next.going;
      };
      nearer = next.nearer;
    }

-- what is left of the way goes on
abbrev pub SoFar : Topology → List TreeNode → EarKind → List Bool → ℕ → List ℕ → ℕ → Type 0
SoFar g tree kind listed first new here = (nodes us : List ℕ) (stop : ℕ) → AreListed listed nodes → GoesOn g tree kind nodes here us stop
    → IsEarWay g tree kind nodes first (new ++ here ∷ us) stop

pub so_far_begins : (g : Topology) (tree : List TreeNode) (kind : EarKind) (listed : List Bool) (first : ℕ) (new : List ℕ) → new ≡ []
    → SoFar g tree kind listed first new first
so_far_begins g tree kind listed first new none nodes us stop are goes =
    record { others = us; are = ap (λ (xs : List ℕ). xs ++ first ∷ us) none; onward = goes }

pub so_far_on : (g : Topology) (tree : List TreeNode) (kind : EarKind) (listed : List Bool) (first : ℕ) (new new' : List ℕ) (here next : ℕ)
    → SoFar g tree kind listed first new here → new' ≡ new ++ here ∷ [] → next_node g tree kind here ≡ Some next
    → slice_index_or listed next false ≡ false → SoFar g tree kind listed first new' next
so_far_on g tree kind listed first new new' here next before grows is none nodes us stop are goes =
    let outside : ¬ Contains nodes next = λ c. let both : true ≡ false = sym ((are next).1 c) ∙ none in cc in
    let way = before nodes (next ∷ us) stop are (is, outside, goes) in
    let same : new' ++ next ∷ us ≡ new ++ here ∷ next ∷ us =
    ap (λ (xs : List ℕ). xs ++ next ∷ us) grows ∙ append_assoc new (here ∷ []) (next ∷ us) in
    record { others = way.others; are = same ∙ way.are; onward = way.onward }
