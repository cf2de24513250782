-- A graph has a search tree from its root.
use Rattle.std.proofs.Common.{◌≡◌, ◌⊎◌, ◌<◌, ◌≤◌, ◌+◌, ◌++◌, ◌∙◌, ℕ, zero, suc, List, [], ◌∷◌, Option, Some, None, length, set, replicate, slice_get, inl, inr, refl, sym, ap, subst, arith, length-append}
use Rattle.std.specs.Option.{option_and_then, option_map_or}
use Rattle.std.specs.Prelude.{Contains}
use Rattle.std.proofs.lemmas.Bool.{cases_eq, cases_lt}
use Rattle.std.proofs.lemmas.List.{length-set}
use Rattle.std.proofs.lemmas.Option.{same_Some, slice_get_within}
use Rattle.mrt_graph.specs.declared.link.End.{End}
use Rattle.mrt_graph.specs.declared.tree.TreeNode.{TreeNode}
use Rattle.mrt_graph.specs.GraphInvariant.{IsEnd, IsTopology}
use Rattle.mrt_graph.specs.Topology.{Topology}
use Rattle.mrt_graph.specs.TreeFields.{search_number, parent_link}
use Rattle.mrt_graph.proofs.EndsAt.{list_of_ends}
use Rattle.mrt_graph.proofs.ListPlaces.{contains_at, place_of, set_there, set_elsewhere}
use Rattle.mrt_graph.proofs.ListTests.{all_at, there}
use Rattle.mrt_graph.proofs.Members.{listed_or_not}
use Rattle.lowpoint_dfs.specs.declared.lowpoints.Lowest.{Lowest}
use Rattle.lowpoint_dfs.specs.steps.Finding.{IsFinished, IsSearching, LeadToFound, found_node}
use Rattle.lowpoint_dfs.specs.steps.Lowering.{AreNumbered, IsGiven, IsLowest, Own, lowered}
use Rattle.lowpoint_dfs.specs.Lowpoint.{offer}
use Rattle.lowpoint_dfs.specs.SearchOrder.{IsDone}
use Rattle.lowpoint_dfs.specs.SearchTree.{IsSearchTree}
use Rattle.lowpoint_dfs.proofs.FoundInTurn.{listed_within, number_at}
use Rattle.lowpoint_dfs.proofs.LowestSoFar.{lowest_more}
use Rattle.lowpoint_dfs.proofs.LowpointsGiven.{AreGiven, one_more}
use Rattle.lowpoint_dfs.proofs.SearchGoesOn.{beginning, comes_to, finding, room_left}
use Rattle.lowpoint_dfs.proofs.WholeTree.{numbered, whole_tree}

-- the ends of a list lead inside, or a first one leads outside
record IsOpenAt (listed : List ℕ) (ends : List End) : Type 0 where
  place : ℕ
  end : End
  at : slice_get ends place ≡ Some end
  outside : Contains listed end.to → ⊥
  before : (k : ℕ) (one : End) → k < place → slice_get ends k ≡ Some one → Contains listed one.to

open_or_not : (listed : List ℕ) (ends : List End) → ((k : ℕ) (end : End) → slice_get ends k ≡ Some end → Contains listed end.to) ⊎ IsOpenAt listed ends
open_or_not listed [] = inl (λ k end at. cc)
open_or_not listed (end ∷ ends) = elim (listed_or_not listed end.to) [
  | inr outside ↦ inr (record { place = 0; end = end; at = refl; outside = outside; before = λ k one early at. absurd (omega (arith, early)) })
  | inl inside ↦ elim (open_or_not listed ends) [
    | inl all ↦ inl (all_inside end ends inside all)
    | inr later ↦ inr (record { place = suc later.place; end = later.end; at = later.at; outside = later.outside; before = before end ends inside later })
  ]
]
  where
    first_is : (a b : End) → Some a ≡ Some b → Contains listed a.to → Contains listed b.to
    first_is a b same c = subst (λ (e : End). Contains listed e.to) (same_Some a b same) c

    all_inside : (first : End) (rest : List End) → Contains listed first.to → ((k : ℕ) (end : End) → slice_get rest k ≡ Some end → Contains listed end.to)
        → (k : ℕ) (end : End) → slice_get (first ∷ rest) k ≡ Some end → Contains listed end.to
    all_inside first rest inside all zero one at = first_is first one at inside
    all_inside first rest inside all (suc k) one at = all k one at

    before : (first : End) (rest : List End) → Contains listed first.to → (later : IsOpenAt listed rest)
        → (k : ℕ) (one : End) → k < suc later.place → slice_get (first ∷ rest) k ≡ Some one → Contains listed one.to
    before first rest inside later zero one early at = first_is first one at inside
    before first rest inside later (suc k) one early at = later.before k one (omega (arith, early)) at

-- all listed nodes are done, or there is a latest one that is not
record IsOpen (g : Topology) (listed : List ℕ) : Type 0 where
  place : ℕ
  at : ℕ
  there : slice_get listed place ≡ Some at
  ends : List End
  list : slice_get g.ends at ≡ Some ends
  open_at : IsOpenAt listed ends
  latest : (k v : ℕ) → place < k → slice_get listed k ≡ Some v → IsDone g listed v

-- where each node after place k is done, the node at place k is done too, or it is the latest that is not
one_back : (k x : ℕ) (ends : List End) (g : Topology) (listed : List ℕ) → slice_get listed k ≡ Some x → slice_get g.ends x ≡ Some ends
    → ((j v : ℕ) → suc k ≤ j → slice_get listed j ≡ Some v → IsDone g listed v) → ((j v : ℕ) → k ≤ j → slice_get listed j ≡ Some v → IsDone g listed v) ⊎ IsOpen g listed
one_back k x ends g listed at list after = elim (open_or_not listed ends) [
  | inr it ↦ inr (record { place = k; at = x; there = at; ends = ends; list = list; open_at = it; latest = λ j v later v_at. after j v (omega (arith, later)) v_at })
  | inl all ↦ inl (λ j v from v_at. elim (cases_lt k j) [
    | inl later ↦ after j v (omega (arith, later)) v_at
    | inr now ↦
        let same : x ≡ v = same_Some x v (sym at ∙ subst (λ (i : ℕ). slice_get listed i ≡ Some v) (omega (arith, from, now)) v_at) in
        subst (λ (w : ℕ). IsDone g listed w) same (record { ends = ends; list = list; all_inside = all })
  ])
]

done_or_open : (left : ℕ) (g : Topology) (listed : List ℕ) → ((k v : ℕ) → slice_get listed k ≡ Some v → (ends : List End) × (slice_get g.ends v ≡ Some ends))
    → ((k v : ℕ) → left ≤ k → slice_get listed k ≡ Some v → IsDone g listed v) → ((k v : ℕ) → slice_get listed k ≡ Some v → IsDone g listed v) ⊎ IsOpen g listed
done_or_open zero g listed lists after = inl (λ k v at. after k v (omega arith) at)
done_or_open (suc left) g listed lists after = elim (cases_lt left (length listed)) [
  | inr past ↦ done_or_open left g listed lists (λ k v from at. absurd (omega (arith, from, past, slice_get_within listed k v at)))
  | inl within ↦
      let x = there listed left within in
      let ends = lists left x.0 x.1 in
      elim (one_back left x.0 ends.0 g listed x.1 ends.1 after) [
        | inl more ↦ done_or_open left g listed lists more
        | inr it ↦ inr it
      ]
]

record HasFinished (g : Topology) (root : ℕ) : Type 0 where
  nodes : List TreeNode
  order : List ℕ
  is : IsFinished g root nodes order

-- a search with one more listed node
record IsLonger (g : Topology) (root : ℕ) (order : List ℕ) : Type 0 where
  room : length order < length g.ids
  nodes : List TreeNode
  longer : List ℕ
  here : ℕ
  searching : IsSearching g root nodes longer (replicate (length g.ids) 0) here
  more : length longer ≡ length order + 1

lengthened : (g : Topology) (root : ℕ) (nodes : List TreeNode) (order : List ℕ) (here : ℕ) → IsTopology g
    → IsSearching g root nodes order (replicate (length g.ids) 0) here → IsOpen g order → IsLonger g root order
lengthened g root nodes order here kept s it = record {
  room = room_left g root nodes order passed it.at end.to moved new within;
  nodes = set nodes end.to (found_node (length order + 1) (Some end.link));
  longer = order ++ end.to ∷ [];
  here = end.to;
  searching = finding g root nodes order passed it.at it.open_at.place it.ends end moved it.list it.open_at.at found new within;
  more = length-append order (end.to ∷ []);
}
  where
    passed : List ℕ
    passed = replicate (length g.ids) 0

    end : End
    end = it.open_at.end

    moved : IsSearching g root nodes order passed it.at
    moved =
        comes_to g root nodes order passed _ it.at s (contains_at order it.place it.at it.there)
        (λ k v late at. it.latest k v (omega (arith, late, number_at g root nodes order s.searched it.place it.at it.there)) at)

    found : LeadToFound nodes it.ends 0 it.open_at.place
    found k one from early at =
        let place = place_of order one.to (it.open_at.before k one early at) in omega (arith, number_at g root nodes order s.searched place.0 one.to place.1)

    new : search_number nodes end.to ≡ 0
    new = elim (cases_lt 0 (search_number nodes end.to)) [
      | inl some ↦ absurd (it.open_at.outside (s.listed end.to (omega (arith, some))))
      | inr none ↦ omega (arith, none)
    ]

    within : end.to < length g.ids
    within = (all_at (IsEnd (length g.ids) g.links it.at) it.ends it.open_at.place end (kept.ends_kept it.at it.ends it.list).kept it.open_at.at).to

ended_or_longer : (g : Topology) (root : ℕ) (nodes : List TreeNode) (order : List ℕ) (here : ℕ) → IsTopology g → root < length g.ids
    → IsSearching g root nodes order (replicate (length g.ids) 0) here → HasFinished g root ⊎ IsLonger g root order
ended_or_longer g root nodes order here kept within s =
    let lists : (k v : ℕ) → slice_get order k ≡ Some v → (ends : List End) × (slice_get g.ends v ≡ Some ends) =
    λ k v at. list_of_ends g v kept (listed_within g root nodes order kept within s.searched k v at) in
    elim (done_or_open (length order) g order lists (λ k v from at. absurd (omega (arith, from, slice_get_within order k v at)))) [
      | inl ended ↦ inl (record { nodes = nodes; order = order; is = record { searched = s.searched; one_each = s.one_each; ended = ended } })
      | inr it ↦ inr (lengthened g root nodes order here kept s it)
    ]

-- a search that has some nodes to find comes to its end
goes_on : (left : ℕ) (g : Topology) (root : ℕ) (nodes : List TreeNode) (order : List ℕ) (here : ℕ) → IsTopology g → root < length g.ids
    → IsSearching g root nodes order (replicate (length g.ids) 0) here → length g.ids ≤ length order + left → HasFinished g root
goes_on zero g root nodes order here kept within s fits = elim (ended_or_longer g root nodes order here kept within s) [
  | inl ended ↦ ended
  | inr it ↦ absurd (omega (arith, it.room, fits))
]
goes_on (suc left) g root nodes order here kept within s fits = elim (ended_or_longer g root nodes order here kept within s) [
  | inl ended ↦ ended
  | inr it ↦ goes_on left g root it.nodes it.longer it.here kept within it.searching (omega (arith, it.more, fits))
]

-- each node has the least of its number and of what its ends offer
lowest_of : (tree : List TreeNode) (v : ℕ) (ends : List End) (k : ℕ) → k ≤ length ends → (lowest : Lowest) × IsLowest tree v ends k lowest
lowest_of tree v ends zero few = (
  record { low = search_number tree v; link = parent_link tree v },
  record { own = omega arith; least = λ j n end early at offers. absurd (omega (arith, early)); from = Own refl refl },
)
lowest_of tree v ends (suc k) few =
    let before = lowest_of tree v ends k (omega (arith, few)) in
    let end = there ends k (omega (arith, few)) in
    let next = lowest_more tree v k ends end.0 before.0 before.1 end.1 in (
      lowered before.0 (offer tree v end.0) end.0.link,
      subst (λ (n : ℕ). IsLowest tree v ends n (lowered before.0 (offer tree v end.0) end.0.link)) (omega arith) next,
    )

given_lowest : (tree : List TreeNode) (v : ℕ) (ends : List End) → v < length tree → (other : List TreeNode) × IsGiven tree v ends other
given_lowest tree v ends within =
    let lowest = lowest_of tree v ends (length ends) (omega arith) in
    let x = there tree v within in
    let node : TreeNode = record { number = x.0.number; parent = x.0.parent; low = lowest.0.low; low_link = lowest.0.link } in
    (set tree v node, given_at tree v ends within lowest.0 lowest.1 x.0 node x.1 refl refl refl refl)
  where
    given_at : (tree : List TreeNode) (v : ℕ) (ends : List End) → v < length tree → (lowest : Lowest) → IsLowest tree v ends (length ends) lowest → (x node : TreeNode)
        → slice_get tree v ≡ Some x → node.number ≡ x.number → node.parent ≡ x.parent → node.low ≡ lowest.low → node.low_link ≡ lowest.link → IsGiven tree v ends (set tree v node)
    given_at tree v ends within lowest is x node at number parent low link =
        let now = set_there tree v node within in
        record {
          one_each = length-set tree v node;
          alike = record {
            numbers = λ u. elim (cases_eq u v) [
              | inl same ↦ subst (λ (w : ℕ). search_number (set tree v node) w ≡ search_number tree w) (sym same)
                  (ap (λ (o : Option TreeNode). option_map_or (λ z. z.number) o 0) now ∙ number ∙ sym (ap (λ (o : Option TreeNode). option_map_or (λ z. z.number) o 0) at))
              | inr other ↦ ap (λ (o : Option TreeNode). option_map_or (λ z. z.number) o 0) (set_elsewhere tree v u node other)
            ];
            parents = λ u. elim (cases_eq u v) [
              | inl same ↦ subst (λ (w : ℕ). parent_link (set tree v node) w ≡ parent_link tree w) (sym same)
                  (ap (λ (o : Option TreeNode). option_and_then (λ z. z.parent) o) now ∙ parent ∙ sym (ap (λ (o : Option TreeNode). option_and_then (λ z. z.parent) o) at))
              | inr other ↦ ap (λ (o : Option TreeNode). option_and_then (λ z. z.parent) o) (set_elsewhere tree v u node other)
            ];
          };
          lows = λ u other. ap (λ (o : Option TreeNode). option_map_or (λ z. z.low) o 0) (set_elsewhere tree v u node other);
          low_links = λ u other. ap (λ (o : Option TreeNode). option_and_then (λ z. z.low_link) o) (set_elsewhere tree v u node other);
          lowest = lowest;
          is_lowest = is;
          low = ap (λ (o : Option TreeNode). option_map_or (λ z. z.low) o 0) now ∙ low;
          link = ap (λ (o : Option TreeNode). option_and_then (λ z. z.low_link) o) now ∙ link;
        }

all_given : (place : ℕ) (g : Topology) (start nodes : List TreeNode) (order : List ℕ) → IsTopology g → AreNumbered g start order → place ≤ length order
    → AreGiven g start nodes order place → (tree : List TreeNode) × AreGiven g start tree order 0
all_given zero g start nodes order kept numbered few are = (nodes, are)
all_given (suc place) g start nodes order kept numbered few are =
    let v = there order place (omega (arith, few)) in
    let within = numbered.within place v.0 v.1 in
    let list = list_of_ends g v.0 kept within in
    let next = given_lowest nodes v.0 list.0 (omega (arith, within, are.one_each)) in
    let from : AreGiven g start nodes order (place + 1) = subst (λ (n : ℕ). AreGiven g start nodes order n) (omega arith) are in
    all_given place g start next.0 order kept numbered (omega (arith, few)) (one_more g start nodes next.0 order place v.0 list.0 kept numbered from v.1 list.1 next.1)

-- a graph has a search tree from each of its nodes
pub some_search : (g : Topology) (root : ℕ) → IsTopology g → root < length g.ids → (tree : List TreeNode) × IsSearchTree g root tree
some_search g root kept within =
    let blank : TreeNode = record { number = 0; parent = None; low = 0; low_link = None } in
    let end = goes_on (length g.ids) g root _ (root ∷ []) root kept within (beginning g root blank within refl) (omega arith) in
    let numbers = numbered g root end.nodes end.order kept within end.is in
    let start : AreGiven g end.nodes end.nodes end.order (length end.order) = record {
      one_each = end.is.one_each;
      alike = record { numbers = λ v. refl; parents = λ v. refl };
      done = λ k v from at. absurd (omega (arith, from, slice_get_within end.order k v at));
    } in
    let all = all_given (length end.order) g end.nodes end.nodes end.order kept numbers (omega arith) start in (
      all.0,
      whole_tree g root end.nodes all.0 end.order kept within end.is (all.1.one_each ∙ sym end.is.one_each) all.1.alike
          (λ v listed. let at = place_of end.order v listed in all.1.done at.0 v (omega arith) at.1),
    )
