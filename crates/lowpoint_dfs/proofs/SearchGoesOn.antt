-- What each step of a search keeps.
use Rattle.std.proofs.Common.{◌≡◌, ◌≢◌, ◌<◌, ◌≤◌, ◌+◌, ◌*◌, ◌++◌, ◌==◌, ◌∙◌, ℕ, zero, suc, List, [], ◌∷◌, Option, Some, None, length, get_or, set, replicate, slice_get, inl, inr, refl, sym, ap, subst, arith}
use Rattle.std.specs.Prelude.{Contains}
use Rattle.std.specs.List.{AllByRecursion}
use Rattle.std.specs.Option.{option_and_then, option_map_or}
use Rattle.std.proofs.lemmas.Bool.{cases_eq, cases_lt, eq-eqb, ne_eqb}
use Rattle.std.proofs.lemmas.List.{get_or-set_same, get_or-set_other, length-set, length-append, length-replicate}
use Rattle.std.proofs.lemmas.List.Elements.{Contains-append_left, Contains-push}
use Rattle.std.proofs.Math.Nat.{suc-mul}
use Rattle.std.proofs.lemmas.List.Folds.{sum_by-replicate}
use Rattle.std.proofs.lemmas.List.Sums.{sum_by-set}
use Rattle.std.proofs.lemmas.Option.{same_Some, slice_get_read, slice_get_within, get_or_from_slice_get}
use Rattle.mrt_graph.specs.declared.link.End.{End}
use Rattle.mrt_graph.specs.declared.tree.TreeNode.{TreeNode}
use Rattle.mrt_graph.specs.GraphInvariant.{AreEnds, IsEnd, IsTopology}
use Rattle.mrt_graph.specs.Topology.{Topology}
use Rattle.mrt_graph.specs.TreeFields.{search_number, parent_link}
use Rattle.mrt_graph.proofs.Hops.{lead_back}
use Rattle.mrt_graph.proofs.ListPlaces.{contains_at, place_of, set_there, set_elsewhere}
use Rattle.mrt_graph.proofs.ListTests.{all_at, there}
use Rattle.mrt_graph.proofs.Members.{all_weaker}
use Rattle.mrt_graph.proofs.Tallies.{one_if}
use Rattle.lowpoint_dfs.specs.steps.Finding.{IsFinished, IsSearching, LeadToFound, found_node, left_at, unfound}
use Rattle.lowpoint_dfs.specs.SearchOrder.{IsDone, IsFoundNext, IsSearchOrder, Begun, Found}
use Rattle.lowpoint_dfs.specs.Subtree.{HasParent, parent_of}
use Rattle.lowpoint_dfs.proofs.Ancestors.{found_over}
use Rattle.lowpoint_dfs.proofs.FoundInTurn.{IsFoundAt, found_at, listed_within, number_at, root_first}
use Rattle.lowpoint_dfs.proofs.ParentsFirst.{found_has_parent, parent_over}

same_lists : (xs ys : List End) → Some xs ≡ Some ys → ys ≡ xs
same_lists xs ys same = cc

-- a search order is one in each tree with the same numbers and parent links of the listed nodes
pub order_kept : (g : Topology) (root : ℕ) (tree other : List TreeNode) (order : List ℕ) → IsSearchOrder g root tree order
    → ((v : ℕ) → Contains order v → search_number other v ≡ search_number tree v) → ((v : ℕ) → Contains order v → parent_link other v ≡ parent_link tree v)
    → IsSearchOrder g root other order
order_kept g root tree other order (Begun number parent) numbers parents =
    Begun (numbers root (Contains-push [] root) ∙ number) (parents root (Contains-push [] root) ∙ parent)
order_kept g root tree other order (Found listed node link earlier next number parent) numbers parents =
    Found listed node link
    (order_kept g root tree other listed earlier
    (λ v c. numbers v (Contains-append_left listed (node ∷ []) v c)) (λ v c. parents v (Contains-append_left listed (node ∷ []) v c)))
    next (numbers node (Contains-push listed node) ∙ number) (parents node (Contains-push listed node) ∙ parent)

-- listed nodes have numbers
listed_found : (g : Topology) (root : ℕ) (nodes : List TreeNode) (order : List ℕ) (v : ℕ) → IsSearchOrder g root nodes order → Contains order v → 1 ≤ search_number nodes v
listed_found g root nodes order v searched listed =
    let place = place_of order v listed in omega (arith, number_at g root nodes order searched place.0 v place.1)

-- ends are passed
pub passing : (g : Topology) (root : ℕ) (nodes : List TreeNode) (order passed : List ℕ) (here place : ℕ) (ends : List End)
    → IsSearching g root nodes order passed here → here < length g.ids → slice_get g.ends here ≡ Some ends → LeadToFound nodes ends (get_or passed here 0) place
    → IsSearching g root nodes order (set passed here place) here
passing g root nodes order passed here place ends s within list found = record {
  searched = s.searched;
  one_each = s.one_each;
  one_place_each = length-set passed here place ∙ s.one_place_each;
  left = s.left;
  listed = s.listed;
  passed_ends = λ v others other_list k end from to at. elim (cases_eq v here) [
    | inl same ↦
        let one : others ≡ ends = same_lists ends others (sym list ∙ subst (λ (w : ℕ). slice_get g.ends w ≡ Some others) same other_list) in
        let now : slice_get ends k ≡ Some end = subst (λ (xs : List End). slice_get xs k ≡ Some end) one at in
        let before : k < place = subst (λ (n : ℕ). k < n) (get_or-set_same passed here place 0 (omega (arith, within, s.one_place_each)))
        (subst (λ (w : ℕ). k < get_or (set passed here place) w 0) same to) in
        elim (cases_lt k (get_or passed here 0)) [
          | inl early ↦ s.passed_ends here ends list k end from early now
          | inr later ↦ found k end later before now
        ]
    | inr other ↦ s.passed_ends v others other_list k end from (subst (λ (n : ℕ). k < n) (get_or-set_other passed here v place 0 other) to) at
  ];
  here_listed = s.here_listed;
  later_done = s.later_done;
}

-- one node less is to be found
less_unfound : (nodes : List TreeNode) (v n : ℕ) (node : TreeNode) → v < length nodes → search_number nodes v ≡ 0 → node.number ≡ n → 1 ≤ n → unfound (set nodes v node) + 1 ≡ unfound nodes
less_unfound nodes v n node within new is some =
    let at = there nodes v within in
    let old : at.0.number ≡ 0 = rw at.1 at new in
    let read : get_or nodes v at.0 ≡ at.0 = get_or_from_slice_get nodes v at.0 at.0 at.1 in
    let before : (get_or nodes v at.0).number ≡ 0 = ap (λ (x : TreeNode). x.number) read ∙ old in
    let one : one_if ((get_or nodes v at.0).number == 0) ≡ 1 = ap one_if (eq-eqb (get_or nodes v at.0).number 0 before) in
    let none : one_if (node.number == 0) ≡ 0 = ap one_if (ne_eqb node.number 0 (λ same. omega (arith, same, is, some))) in
    let sums = sum_by-set (λ (x : TreeNode). one_if (x.number == 0)) nodes v node at.0 within in
    omega (arith, sums, one, none)

-- a node is found
pub finding : (g : Topology) (root : ℕ) (nodes : List TreeNode) (order passed : List ℕ) (here place : ℕ) (ends : List End) (end : End)
    → IsSearching g root nodes order passed here → slice_get g.ends here ≡ Some ends → slice_get ends place ≡ Some end → LeadToFound nodes ends 0 place
    → search_number nodes end.to ≡ 0 → end.to < length g.ids
    → IsSearching g root (set nodes end.to (found_node (length order + 1) (Some end.link))) (order ++ end.to ∷ []) passed end.to
finding g root nodes order passed here place ends end s list at found new within =
    record {
      searched = Found order end.to end.link (order_kept g root nodes nodes' order s.searched numbers parents) next
          (ap (λ (o : Option TreeNode). option_map_or (λ x. x.number) o 0) now) (ap (λ (o : Option TreeNode). option_and_then (λ x. x.parent) o) now);
      one_each = length-set nodes end.to node ∙ s.one_each;
      one_place_each = s.one_place_each;
      left = omega (
        arith,
        s.left,
        length-set nodes end.to node,
        length-append order (end.to ∷ []),
        less_unfound nodes end.to (length order + 1) node inside new refl (omega arith),
      );
      listed = λ v some. elim (cases_eq v end.to) [
        | inl same ↦ subst (λ (w : ℕ). Contains (order ++ end.to ∷ []) w) (sym same) (Contains-push order end.to)
        | inr other ↦ Contains-append_left order (end.to ∷ []) v (s.listed v (omega (arith, some, number_elsewhere v other)))
      ];
      passed_ends = λ v rows rows_list k one from to row_at. still one.to (s.passed_ends v rows rows_list k one from to row_at);
      here_listed = Contains-push order end.to;
      later_done = λ k v late v_at.
          absurd (omega (
            arith,
            late,
            ap (λ (o : Option TreeNode). option_map_or (λ x. x.number) o 0) now,
            slice_get_within (order ++ end.to ∷ []) k v v_at,
            length-append order (end.to ∷ []),
          ));
    }
  where
    node : TreeNode
    node = found_node (length order + 1) (Some end.link)

    nodes' : List TreeNode
    nodes' = set nodes end.to node

    inside : end.to < length nodes
    inside = omega (arith, within, s.one_each)

    now : slice_get nodes' end.to ≡ Some node
    now = set_there nodes end.to node inside

    not_listed : Contains order end.to → ⊥
    not_listed c = omega (arith, listed_found g root nodes order end.to s.searched c, new)

    number_elsewhere : (v : ℕ) → v ≢ end.to → search_number nodes' v ≡ search_number nodes v
    number_elsewhere v other = ap (λ (o : Option TreeNode). option_map_or (λ x. x.number) o 0) (set_elsewhere nodes end.to v node other)

    numbers : (v : ℕ) → Contains order v → search_number nodes' v ≡ search_number nodes v
    numbers v c = number_elsewhere v (λ same. not_listed (subst (λ (w : ℕ). Contains order w) same c))

    parents : (v : ℕ) → Contains order v → parent_link nodes' v ≡ parent_link nodes v
    parents v c = ap (λ (o : Option TreeNode). option_and_then (λ x. x.parent) o)
        (set_elsewhere nodes end.to v node (λ same. not_listed (subst (λ (w : ℕ). Contains order w) same c)))

    still : (v : ℕ) → 1 ≤ search_number nodes v → 1 ≤ search_number nodes' v
    still v some = elim (cases_eq v end.to) [
      | inl same ↦ absurd (omega (arith, some, new, ap (λ (w : ℕ). search_number nodes w) same))
      | inr other ↦ omega (arith, some, number_elsewhere v other)
    ]

    next : IsFoundNext g order end.to end.link
    next =
        let here_at = place_of order here s.here_listed in
        record {
          place = here_at.0;
          at = here;
          there = here_at.1;
          latest = λ later v after v_at. s.later_done later v (omega (arith, after, number_at g root nodes order s.searched here_at.0 here here_at.1)) v_at;
          end = end;
          first = record {
            ends = ends;
            list = list;
            place = place;
            there = at;
            asked = not_listed;
            none_before = λ k one early one_at outside. outside (s.listed one.to (found k one (omega arith) early one_at));
          };
          over = refl;
          to = refl;
        }

-- where all ends lead to found nodes, the node is done
done_here : (g : Topology) (root : ℕ) (nodes : List TreeNode) (order passed : List ℕ) (here place : ℕ) (ends : List End)
    → IsSearching g root nodes order passed here → slice_get g.ends here ≡ Some ends → LeadToFound nodes ends 0 place → length ends ≤ place → IsDone g order here
done_here g root nodes order passed here place ends s list found all = record {
  ends = ends;
  list = list;
  all_inside = λ k end at. s.listed end.to (found k end (omega arith) (omega (arith, slice_get_within ends k end at, all)) at);
}

-- the search has come back to the root
pub finishing : (g : Topology) (root : ℕ) (nodes : List TreeNode) (order passed : List ℕ) (place : ℕ) (ends : List End)
    → IsSearching g root nodes order passed root → slice_get g.ends root ≡ Some ends → LeadToFound nodes ends 0 place → length ends ≤ place → IsFinished g root nodes order
finishing g root nodes order passed place ends s list found all =
    let first = root_first g root nodes order s.searched in
    record {
      searched = s.searched;
      one_each = s.one_each;
      ended = λ k v at. elim (cases_lt 0 k) [
        | inl later ↦ s.later_done k v (omega (arith, first.number, later)) at
        | inr now ↦
            let zero_at : slice_get order 0 ≡ Some v = subst (λ (i : ℕ). slice_get order i ≡ Some v) (omega (arith, now)) at in
            subst (λ (w : ℕ). IsDone g order w) (same_Some root v (sym first.first ∙ zero_at)) (done_here g root nodes order passed root place ends s list found all)
      ];
    }

done_still : (g : Topology) (order order' : List ℕ) (v : ℕ) → ((w : ℕ) → Contains order w → Contains order' w) → IsDone g order v → IsDone g order' v
done_still g order order' v more done = record { ends = done.ends; list = done.list; all_inside = λ k end at. more end.to (done.all_inside k end at) }

-- the parent of a node other than the root
pub parent_here : (g : Topology) (root : ℕ) (nodes : List TreeNode) (order passed : List ℕ) (here : ℕ) → IsTopology g
    → IsSearching g root nodes order passed here → here ≢ root → HasParent g nodes here
parent_here g root nodes order passed here kept s other =
    let here_at = place_of order here s.here_listed in
    elim (found_at g root nodes order s.searched here_at.0 here here_at.1) [
      | inl first ↦ absurd (other first.1)
      | inr it ↦ found_has_parent g root nodes order here_at.0 here kept s.searched here_at.1 it
    ]

-- the search goes on at another node that is listed
pub comes_to : (g : Topology) (root : ℕ) (nodes : List TreeNode) (order passed : List ℕ) (here there : ℕ) → IsSearching g root nodes order passed here
    → Contains order there → ((k v : ℕ) → search_number nodes there ≤ k → slice_get order k ≡ Some v → IsDone g order v)
    → IsSearching g root nodes order passed there
comes_to g root nodes order passed here there s is_listed done = record {
  searched = s.searched;
  one_each = s.one_each;
  one_place_each = s.one_place_each;
  left = s.left;
  listed = s.listed;
  passed_ends = s.passed_ends;
  here_listed = is_listed;
  later_done = done;
}

-- the search goes back
pub going_back : (g : Topology) (root : ℕ) (nodes : List TreeNode) (order passed : List ℕ) (here place up : ℕ) (ends : List End) → IsTopology g
    → IsSearching g root nodes order passed here → slice_get g.ends here ≡ Some ends → LeadToFound nodes ends 0 place → length ends ≤ place → here ≢ root
    → parent_of g nodes here ≡ Some up → IsSearching g root nodes order passed up
going_back g root nodes order passed here place up ends kept s list found all other is =
    let here_at = place_of order here s.here_listed in
    elim (found_at g root nodes order s.searched here_at.0 here here_at.1) [
      | inl first ↦ absurd (other first.1)
      | inr it ↦
          let parent : parent_of g nodes here ≡ Some it.next.at =
          parent_over g nodes here it.link it.next.at it.parent (lead_back g.links it.link it.next.at here (found_over g it.before here it.link kept it.next)) in
          back here_at.0 here_at.1 it (same_Some it.next.at up (sym parent ∙ is))
    ]
  where
    back : (k : ℕ) → slice_get order k ≡ Some here → (it : IsFoundAt g root nodes order k here) → it.next.at ≡ up → IsSearching g root nodes order passed up
    back k here_at it same =
        let up_at : slice_get order it.next.place ≡ Some up =
        subst (λ (w : ℕ). slice_get order it.next.place ≡ Some w) same (it.stays it.next.place it.next.at it.next.there) in
        comes_to g root nodes order passed here up s (contains_at order it.next.place up up_at)
        (λ j v late v_at.
        let after : it.next.place < j = omega (arith, late, number_at g root nodes order s.searched it.next.place up up_at) in
        elim (cases_lt j k) [
          | inl early ↦
              let w = there it.before j (omega (arith, early, it.count)) in
              let one : w.0 ≡ v = same_Some w.0 v (sym (it.stays j w.0 w.1) ∙ v_at) in
              done_still g it.before order v
              (λ x c. let x_at = place_of it.before x c in contains_at order x_at.0 x (it.stays x_at.0 x x_at.1))
              (it.next.latest j v after (subst (λ (x : ℕ). slice_get it.before j ≡ Some x) one w.1))
          | inr later ↦ elim (cases_lt k j) [
            | inl past ↦ s.later_done j v (omega (arith, past, number_at g root nodes order s.searched k here here_at)) v_at
            | inr now ↦
                let v_here : slice_get order k ≡ Some v = subst (λ (i : ℕ). slice_get order i ≡ Some v) (omega (arith, later, now)) v_at in
                subst (λ (w : ℕ). IsDone g order w) (same_Some here v (sym here_at ∙ v_here)) (done_here g root nodes order passed here place ends s list found all)
          ]
        ])

-- where the search is, is a node of the graph
pub here_within : (g : Topology) (root : ℕ) (nodes : List TreeNode) (order passed : List ℕ) (here : ℕ) → IsTopology g → root < length g.ids
    → IsSearching g root nodes order passed here → here < length g.ids
here_within g root nodes order passed here kept within s =
    let place = place_of order here s.here_listed in listed_within g root nodes order kept within s.searched place.0 here place.1

-- ends lead to nodes of the graph
pub ends_within : (g : Topology) (n : ℕ) (nodes : List TreeNode) (ends : List End) → length nodes ≡ length g.ids → AreEnds (length g.ids) g.links n ends
    → AllByRecursion (λ end. end.to < length nodes) ends
ends_within g n nodes ends one_each are =
    all_weaker (IsEnd (length g.ids) g.links n) (λ end. end.to < length nodes) (λ end is. omega (arith, one_each, is.to)) ends are.kept

-- a search that has looked on at a node, up to a place
pub record HasLooked (g : Topology) (root : ℕ) (nodes : List TreeNode) (order passed : List ℕ) (here place : ℕ) (ends : List End) : Type 0 where
  pub searching : IsSearching g root nodes order passed here
  pub found : LeadToFound nodes ends 0 place

pub looking : (g : Topology) (root : ℕ) (nodes seen : List TreeNode) (order passed passed' : List ℕ) (here place : ℕ) (ends : List End) → IsTopology g → root < length g.ids
    → IsSearching g root nodes order passed here → slice_get g.ends here ≡ Some ends → seen ≡ nodes → LeadToFound seen ends (get_or passed here 0) place
    → passed' ≡ set passed here place → HasLooked g root nodes order passed' here place ends
looking g root nodes seen order passed passed' here place ends kept within s list same found is =
    let inside : here < length g.ids = here_within g root nodes order passed here kept within s in
    let on : LeadToFound nodes ends (get_or passed here 0) place = subst (λ (ns : List TreeNode). LeadToFound ns ends (get_or passed here 0) place) same found in
    let next : IsSearching g root nodes order passed' here = subst (λ (ps : List ℕ). IsSearching g root nodes order ps here) (sym is)
    (passing g root nodes order passed here place ends s inside list on) in
    let now : get_or passed' here 0 ≡ place = ap (λ (ps : List ℕ). get_or ps here 0) is ∙ get_or-set_same passed here place 0 (omega (arith, inside, s.one_place_each)) in
    record { searching = next; found = subst (λ (n : ℕ). LeadToFound nodes ends 0 n) now (next.passed_ends here ends list) }

some_unfound : (nodes : List TreeNode) (v : ℕ) → v < length nodes → search_number nodes v ≡ 0 → unfound (set nodes v (found_node 1 None)) + 1 ≡ unfound nodes
some_unfound nodes v within new = less_unfound nodes v 1 (found_node 1 None) within new refl (omega arith)

-- where a node is to be found, the list is not full
pub room_left : (g : Topology) (root : ℕ) (nodes : List TreeNode) (order passed : List ℕ) (here v : ℕ) → IsSearching g root nodes order passed here
    → search_number nodes v ≡ 0 → v < length g.ids → length order < length g.ids
room_left g root nodes order passed here v s new within =
    omega (arith, s.left, s.one_each, some_unfound nodes v (omega (arith, within, s.one_each)) new)

less_of : (u n a b : ℕ) → a ≤ n → u * (n + 1) + a < (u + 1) * (n + 1) + b
less_of u n a b few =
    let more : (u + 1) * (n + 1) ≡ u * (n + 1) + (n + 1) = subst (λ (k : ℕ). k * (n + 1) ≡ u * (n + 1) + (n + 1)) (next_is u) (suc-mul u (n + 1)) in
    omega (arith, more, few)
  where
    next_is : (w : ℕ) → suc w ≡ w + 1
    next_is w = omega arith

-- less is left to do when a node is found, and when the search goes back
pub found_less : (g : Topology) (root : ℕ) (nodes : List TreeNode) (order passed : List ℕ) (here v : ℕ) (link : Option ℕ) → IsSearching g root nodes order passed here
    → search_number nodes v ≡ 0 → v < length g.ids → left_at (set nodes v (found_node (length order + 1) link)) v < left_at nodes here
found_less g root nodes order passed here v link s new within =
    let node : TreeNode = found_node (length order + 1) link in
    let inside : v < length nodes = omega (arith, within, s.one_each) in
    let less : unfound (set nodes v node) + 1 ≡ unfound nodes = less_unfound nodes v (length order + 1) node inside new refl (omega arith) in
    let number : search_number (set nodes v node) v ≡ length order + 1 = ap (λ (o : Option TreeNode). option_map_or (λ x. x.number) o 0) (set_there nodes v node inside) in
    let lower = less_of (unfound (set nodes v node)) (length nodes) (length order + 1) (search_number nodes here) (omega (arith, s.left, less)) in
    rw (length-set nodes v node, number, sym less) lower

pub back_less : (nodes : List TreeNode) (up here : ℕ) → search_number nodes up < search_number nodes here → left_at nodes up < left_at nodes here
back_less nodes up here lower = omega (arith, lower)

-- an end that leads to a node that is not found
pub record IsNewEnd (g : Topology) (nodes : List TreeNode) (ends : List End) (place : ℕ) (end : End) : Type 0 where
  pub at : slice_get ends place ≡ Some end
  pub new : search_number nodes end.to ≡ 0
  pub within : end.to < length g.ids

pub new_end : (g : Topology) (n : ℕ) (nodes seen : List TreeNode) (ends : List End) (place : ℕ) (end : End) → AreEnds (length g.ids) g.links n ends
    → seen ≡ nodes → place < length ends → end ≡ get_or ends place end → ((e : End) → slice_get ends place ≡ Some e → search_number seen e.to ≡ 0)
    → IsNewEnd g nodes ends place end
new_end g n nodes seen ends place end are same inside read outside =
    let at : slice_get ends place ≡ Some end = slice_get_read ends (length ends) place end refl inside read in
    record {
      at = at;
      new = subst (λ (ns : List TreeNode). search_number ns end.to ≡ 0) same (outside end at);
      within = (all_at (IsEnd (length g.ids) g.links n) ends place end are.kept at).to;
    }

-- a search begins
number_blank : (n v : ℕ) (blank : TreeNode) → blank.number ≡ 0 → search_number (replicate n blank) v ≡ 0
number_blank zero v blank none = refl
number_blank (suc n) zero blank none = none
number_blank (suc n) (suc v) blank none = number_blank n v blank none

none_passed : (n v z : ℕ) → get_or (replicate n z) v z ≡ z
none_passed zero v z = refl
none_passed (suc n) zero z = refl
none_passed (suc n) (suc v) z = none_passed n v z

all_blank : (n : ℕ) (blank : TreeNode) → blank.number ≡ 0 → unfound (replicate n blank) ≡ n
all_blank n blank none =
    let one : one_if (blank.number == 0) ≡ 1 = ap one_if (eq-eqb blank.number 0 none) in
    let sums = sum_by-replicate (λ (x : TreeNode). one_if (x.number == 0)) n blank in
    sums ∙ ap (λ (m : ℕ). n * m) one ∙ times_one n
  where
    times_one : (m : ℕ) → m * 1 ≡ m
    times_one m = omega arith

pub beginning : (g : Topology) (root : ℕ) (blank : TreeNode) → root < length g.ids → blank.number ≡ 0
    → IsSearching g root (set (replicate (length g.ids) blank) root (found_node 1 None)) (root ∷ []) (replicate (length g.ids) 0) root
beginning g root blank within none =
    record {
      searched = Begun number (ap (λ (o : Option TreeNode). option_and_then (λ x. x.parent) o) now);
      one_each = length-set (replicate n blank) root node ∙ length-replicate n blank;
      one_place_each = length-replicate n 0;
      left = omega (
        arith,
        less_unfound (replicate n blank) root 1 node inside (number_blank n root blank none) refl (omega arith),
        all_blank n blank none,
        length-set (replicate n blank) root node,
        length-replicate n blank,
      );
      listed = λ v some. elim (cases_eq v root) [
        | inl same ↦ subst (λ (w : ℕ). Contains (root ∷ []) w) (sym same) (Contains-push [] root)
        | inr other ↦ absurd (omega (
          arith,
          some,
          number_blank n v blank none,
          ap (λ (o : Option TreeNode). option_map_or (λ x. x.number) o 0) (set_elsewhere (replicate n blank) root v node other),
        ))
      ];
      passed_ends = λ v ends list k end from to at. absurd (omega (arith, to, none_passed n v 0));
      here_listed = Contains-push [] root;
      later_done = λ k v late at. absurd (omega (arith, late, number, slice_get_within (root ∷ []) k v at));
    }
  where
    n : ℕ
    n = length g.ids

    node : TreeNode
    node = found_node 1 None

    inside : root < length (replicate n blank)
    inside = omega (arith, within, length-replicate n blank)

    now : slice_get (set (replicate n blank) root node) root ≡ Some node
    now = set_there (replicate n blank) root node inside

    number : search_number (set (replicate n blank) root node) root ≡ 1
    number = ap (λ (o : Option TreeNode). option_map_or (λ x. x.number) o 0) now

pub begun : (g : Topology) (root : ℕ) (blank : TreeNode) (nodes nodes' : List TreeNode) (order passed : List ℕ) (count : ℕ) (link : Option ℕ) → root < length g.ids → blank.number ≡ 0
    → count ≡ length g.ids → nodes ≡ replicate count blank → nodes' ≡ set nodes root (found_node 1 link) → link ≡ None → order ≡ root ∷ [] → passed ≡ replicate count 0
    → IsSearching g root nodes' order passed root
begun g root blank nodes nodes' order passed count link within none same fresh set_root no_link listed unpassed =
    let one : nodes' ≡ set (replicate (length g.ids) blank) root (found_node 1 None) =
    set_root ∙ ap (λ (ns : List TreeNode). set ns root (found_node 1 link)) (fresh ∙ ap (λ (n : ℕ). replicate n blank) same)
    ∙ ap (λ (o : Option ℕ). set (replicate (length g.ids) blank) root (found_node 1 o)) no_link in
    rw (one, listed, unpassed, same) (beginning g root blank within none)

-- a finished search
pub finished : (g : Topology) (root here : ℕ) (nodes : List TreeNode) (order passed : List ℕ) (place : ℕ) (ends : List End)
    → here ≡ root → HasLooked g root nodes order passed here place ends → slice_get g.ends here ≡ Some ends → length ends ≤ place → IsFinished g root nodes order
finished g root here nodes order passed place ends same looked list all =
    finishing g root nodes order passed place ends (subst (λ (h : ℕ). IsSearching g root nodes order passed h) same looked.searching)
    (subst (λ (h : ℕ). slice_get g.ends h ≡ Some ends) same list) looked.found all
