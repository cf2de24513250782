-- What an ear brings: how each of its new nodes hangs in the search tree, and where it stops.
use Rattle.std.proofs.Common.{◌≡◌, ◌≢◌, ◌<◌, ◌≤◌, ◌==◌, ◌∙◌, ℕ, List, [], ◌∷◌, Some, inl, inr, refl, sym, ap, subst, arith}
use Rattle.std.specs.Prelude.{Contains}
use Rattle.std.proofs.lemmas.Bool.{cases_eq}
use Rattle.mrt_graph.specs.declared.link.End.{End}
use Rattle.mrt_graph.specs.declared.tree.TreeNode.{TreeNode}
use Rattle.mrt_graph.specs.Leads.{leads}
use Rattle.mrt_graph.specs.Topology.{Topology}
use Rattle.mrt_graph.specs.TreeFields.{search_number, low_of}
use Rattle.mrt_graph.proofs.EndsAt.{end_leads}
use Rattle.mrt_graph.proofs.Members.{contains_cases, contains_later, contains_none}
use Rattle.mrt_graph.proofs.Tallies.{tally}
use Rattle.mrt_graph.specs.FirstEnd.{IsFirstEnd}
use Rattle.lowpoint_dfs.specs.Subtree.{IsInSubtree, Itself, parent_of}
use Rattle.gadag_ears.specs.declared.kind.EarKind.{EarKind}
use Rattle.gadag_ears.specs.declared.kind.EarKind.TheVariants.{Child, Neighbour}
use Rattle.gadag_ears.specs.Ear.{Ear, GoesOn, IsBegun, IsNextEar, LeadsToChild, ToChild, ToNeighbour, new_nodes}
use Rattle.gadag_ears.proofs.ChildEars.{AtLow, Back, IsChildStart, IsChildStop, IsOnWay, child_way}
use Rattle.gadag_ears.proofs.NeighbourEars.{IsClimbing, IsNeighbourStart, neighbour_way}
use Rattle.gadag_ears.proofs.SearchFacts.{AreFacts, ancestors_in}

-- how a new node hangs: from another new node; from the node where the ear stops, which is not its start; from the start,
-- where the ear stops further up; or from the start, where the ear stops and so begins a block
pub data IsHung (g : Topology) (tree : List TreeNode) (ear : Ear) (v : ℕ) : Type 0 where
  FromNew : (p : ℕ) → parent_of g tree v ≡ Some p → Contains (new_nodes ear) p → low_of tree v < search_number tree p → IsHung g tree ear v
  FromStop : parent_of g tree v ≡ Some ear.stop → ear.stop ≢ ear.start → low_of tree v < search_number tree ear.stop → IsHung g tree ear v
  FromStart : parent_of g tree v ≡ Some ear.start → ear.stop ≢ ear.start → low_of tree v ≡ search_number tree ear.stop
      → IsInSubtree g tree ear.stop ear.start → IsHung g tree ear v
  Heads : v ≡ ear.first → parent_of g tree v ≡ Some ear.start → ear.kind ≡ Child → ear.stop ≡ ear.start
      → search_number tree ear.start ≤ low_of tree v → IsHung g tree ear v

pub record IsBrought (g : Topology) (tree : List TreeNode) (listed : List ℕ) (ear : Ear) : Type 0 where
  pub hung : (v : ℕ) → Contains (new_nodes ear) v → IsHung g tree ear v
  pub outside : (v : ℕ) → Contains (new_nodes ear) v → ¬ Contains listed v
  pub once : (v : ℕ) → tally (λ u. u == v) (new_nodes ear) ≤ 1
  pub stop_in : Contains listed ear.stop
  pub touches : leads g.links ear.link ear.start ≡ Some ear.first

-- the list before an ear
pub record IsClosedUp (g : Topology) (tree : List TreeNode) (listed : List ℕ) (x : ℕ) : Type 0 where
  pub in_list : Contains listed x
  pub closed : (v p : ℕ) → Contains listed v → parent_of g tree v ≡ Some p → Contains listed p

-- an ear's new nodes are outside, and where it stops is inside
pub new_outside : (g : Topology) (tree : List TreeNode) (kind : EarKind) (listed : List ℕ) (v : ℕ) (us : List ℕ) (stop : ℕ)
    → GoesOn g tree kind listed v us stop → (u : ℕ) → Contains us u → ¬ Contains listed u
new_outside g tree kind listed v [] stop goes u inside = absurd (contains_none u inside)
new_outside g tree kind listed v (w ∷ ws) stop goes u inside = elim (contains_cases w u ws inside) [
  | inl same ↦ λ c. goes.1 (subst (λ (y : ℕ). Contains listed y) same c)
  | inr later ↦ new_outside g tree kind listed w ws stop goes.2 u later
]

pub stops_inside : (g : Topology) (tree : List TreeNode) (kind : EarKind) (listed : List ℕ) (v : ℕ) (us : List ℕ) (stop : ℕ)
    → GoesOn g tree kind listed v us stop → Contains listed stop
stops_inside g tree kind listed v [] stop goes = goes.1
stops_inside g tree kind listed v (w ∷ ws) stop goes = stops_inside g tree kind listed w ws stop goes.2

-- a child ear's first node
child_stops : (g : Topology) (tree : List TreeNode) (ear : Ear) (us : List ℕ) → ear.kind ≡ Child
    → parent_of g tree ear.first ≡ Some ear.start → search_number tree ear.start < search_number tree ear.first
    → IsChildStop g tree ear.start ear.first ear.first us ear.stop → IsHung g tree ear ear.first
child_stops g tree ear us kind child rise (Back at_x none same own link) = Heads refl child kind at_x (omega (arith, own, rise))
child_stops g tree ear us kind child rise (AtLow number lower above) = elim (cases_eq ear.stop ear.start) [
  | inl same ↦ Heads refl child kind same (omega (arith, number, ap (λ (w : ℕ). search_number tree w) same))
  | inr other ↦ FromStart child other (sym number) above
]

child_brings : (g : Topology) (root : ℕ) (tree : List TreeNode) (listed : List ℕ) (ear : Ear) → AreFacts g root tree → IsClosedUp g tree listed ear.start
    → ear.kind ≡ Child → leads g.links ear.link ear.start ≡ Some ear.first → ¬ Contains listed ear.first → parent_of g tree ear.first ≡ Some ear.start
    → GoesOn g tree Child listed ear.first ear.others ear.stop → IsBrought g tree listed ear
child_brings g root tree listed ear facts ready kind touches out child goes =
    let start : IsChildStart g tree listed ear.start ear.first = record { in_list = ready.in_list; closed = ready.closed; outside = out; child = child } in
    let begun : IsOnWay g tree listed ear.first ear.first = record {
      within = (facts.parent_within ear.first ear.start child).0;
      outside = out;
      below = Itself;
      low = refl;
      lower = inl refl;
    } in
    let way = child_way g root tree listed ear.start ear.first ear.first ear.others ear.stop facts start begun goes in
    record {
      hung = λ v inside. elim (contains_cases ear.first v ear.others inside) [
        | inl same ↦ subst (λ (w : ℕ). IsHung g tree ear w) (sym same)
            (child_stops g tree ear ear.others kind child (facts.falls ear.first ear.start child) way.stops)
        | inr later ↦ let it = way.nodes v later in FromNew it.parent it.is it.new it.low
      ];
      outside = λ v inside. elim (contains_cases ear.first v ear.others inside) [
        | inl same ↦ λ c. out (subst (λ (w : ℕ). Contains listed w) same c)
        | inr later ↦ new_outside g tree Child listed ear.first ear.others ear.stop goes v later
      ];
      once = way.once;
      stop_in = stops_inside g tree Child listed ear.first ear.others ear.stop goes;
      touches = touches;
    }

-- a neighbour ear
neighbour_brings : (g : Topology) (root : ℕ) (tree : List TreeNode) (listed : List ℕ) (ear : Ear) → AreFacts g root tree → IsClosedUp g tree listed ear.start
    → leads g.links ear.link ear.start ≡ Some ear.first → ¬ Contains listed ear.first → ((v : ℕ) → parent_of g tree v ≡ Some ear.start → Contains listed v)
    → GoesOn g tree Neighbour listed ear.first ear.others ear.stop → IsBrought g tree listed ear
neighbour_brings g root tree listed ear facts ready touches out children goes =
    let start : IsNeighbourStart g tree listed ear.start ear.first ear.link =
    record { in_list = ready.in_list; closed = ready.closed; children = children; outside = out; touches = touches } in
    let below : IsInSubtree g tree ear.start ear.first = elim (facts.joins ear.link ear.start ear.first touches) [
      | inl below ↦ below
      | inr above ↦ absurd (out (ancestors_in g tree (Contains listed) ready.closed ear.first ear.start ready.in_list above))
    ] in
    let begun : IsClimbing g tree listed ear.start ear.first ear.first = record { outside = out; below = below; above = Itself } in
    let way = neighbour_way g root tree listed ear.start ear.first ear.link ear.first ear.others ear.stop facts start begun goes in
    record {
      hung = λ v inside. let it = way.nodes v inside in elim it.new [
        | inl new ↦ FromNew it.parent it.is (contains_later ear.first it.parent ear.others new) it.low
        | inr at_stop ↦ FromStop (it.is ∙ ap (λ (w : ℕ). Some w) at_stop) way.stop_not_x
            (omega (arith, it.low, ap (λ (w : ℕ). search_number tree w) at_stop))
      ];
      outside = λ v inside. elim (contains_cases ear.first v ear.others inside) [
        | inl same ↦ λ c. out (subst (λ (w : ℕ). Contains listed w) same c)
        | inr later ↦ new_outside g tree Neighbour listed ear.first ear.others ear.stop goes v later
      ];
      once = way.once;
      stop_in = stops_inside g tree Neighbour listed ear.first ear.others ear.stop goes;
      touches = touches;
    }

-- an ear's first link leads from its start to its first node
first_leads : (g : Topology) (root : ℕ) (tree : List TreeNode) (x : ℕ) (ear : Ear) (Asked : End → Type 0) (end : End) → AreFacts g root tree
    → IsFirstEnd g Asked x end → ear.start ≡ x → ear.link ≡ end.link → ear.first ≡ end.to → leads g.links ear.link ear.start ≡ Some ear.first
first_leads g root tree x ear Asked end facts first from over to =
    ap (λ (e : ℕ). leads g.links e ear.start) over ∙ ap (λ (w : ℕ). leads g.links end.link w) from
    ∙ end_leads g x first.place first.ends end facts.kept first.list first.there ∙ ap (λ (w : ℕ). Some w) (sym to)

by_kind : (g : Topology) (root : ℕ) (tree : List TreeNode) (listed : List ℕ) (x : ℕ) (ear : Ear) (end : End) (kind : EarKind) → AreFacts g root tree
    → IsClosedUp g tree listed x → ear.kind ≡ kind → IsBegun g tree listed x end kind → ear.start ≡ x → ear.link ≡ end.link → ear.first ≡ end.to
    → GoesOn g tree kind listed ear.first ear.others ear.stop → IsBrought g tree listed ear
by_kind g root tree listed x ear end kind facts ready is (ToChild first) from over to goes =
    child_brings g root tree listed ear facts (subst (λ (w : ℕ). IsClosedUp g tree listed w) (sym from) ready) is
    (first_leads g root tree x ear (LeadsToChild g tree listed x) end facts first from over to)
    (λ c. first.asked.0 (subst (λ (w : ℕ). Contains listed w) to c))
    (ap (λ (w : ℕ). parent_of g tree w) to ∙ first.asked.1 ∙ ap (λ (w : ℕ). Some w) (sym from)) goes
by_kind g root tree listed x ear end kind facts ready is (ToNeighbour children first) from over to goes =
    neighbour_brings g root tree listed ear facts (subst (λ (w : ℕ). IsClosedUp g tree listed w) (sym from) ready)
    (first_leads g root tree x ear (λ end. ¬ Contains listed end.to) end facts first from over to)
    (λ c. first.asked (subst (λ (w : ℕ). Contains listed w) to c))
    (λ v parent. children v (parent ∙ ap (λ (w : ℕ). Some w) from)) goes

pub brought : (g : Topology) (root : ℕ) (tree : List TreeNode) (listed : List ℕ) (x : ℕ) (ear : Ear) → AreFacts g root tree
    → IsClosedUp g tree listed x → IsNextEar g tree listed x ear → IsBrought g tree listed ear
brought g root tree listed x ear facts ready next =
    by_kind g root tree listed x ear next.end ear.kind facts ready refl next.begun next.from next.over next.to next.onward
