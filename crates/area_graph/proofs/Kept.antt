-- What an area of entries keeps.
use Rattle.std.proofs.Common.{◌≡◌, ◌∙◌, ◌<◌, ◌≤◌, ◌++◌, ℕ, zero, suc, Bool, true, false, cond, List, [], ◌∷◌, Option, Some, None, length, map, slice_get, refl, sym, ap, subst, arith}
use Rattle.std.specs.declared.cmp.Ordering.{Ordering}
use Rattle.std.specs.List.{AllByRecursion, filter}
use Rattle.std.specs.List.Sorted.{IsSorted, IsStrictlySortedBy}
use Rattle.std.specs.Ordering.{is_lt, nat_cmp, ordering_then}
use Rattle.std.proofs.lemmas.List.{map-append, length-map}
use Rattle.std.proofs.lemmas.Option.{same_Some}
use Rattle.mrt_graph.specs.NodeOrder.{node_id_cmp}
use Rattle.mrt_graph.specs.declared.node_id.NodeId.{NodeId}
use Rattle.mrt_graph.specs.InOrder.{in_order}
use Rattle.mrt_graph.proofs.InOrder.{Rises, in_order_rises, is_before, length-in_order, sorted_from_rises}
use Rattle.mrt_graph.proofs.Members.{all_from_has, all_has, all_map, has_at, has_filter}
use Rattle.mrt_graph.proofs.Filters.{rises_filter}
use Rattle.mrt_graph.proofs.Ties.{first_not_lt}
use Rattle.area_graph.specs.declared.area_types.Bond.{Bond}
use Rattle.area_graph.specs.declared.entry.NumberedEntry.{NumberedEntry as Entry}
use Rattle.area_graph.specs.steps.NumberedArcs.{arc_cmp, pairing_cmp, is_arc, arcs_among}
use Rattle.area_graph.specs.AreaInvariant.{by_tail_cmp, by_nodes_cmp, IsArea}
use Rattle.area_graph.specs.steps.NumberedArea.{numbered, bond_by, bond_from, arcs_of, bonds_of}
use Rattle.area_graph.specs.steps.NumberedBonds.{partner, tells_pair, is_single, pairs, singles}
use Rattle.area_graph.specs.steps.Listed.{IsEntry, AreEntries}
use Rattle.area_graph.proofs.Apart.{arc_total, arcs_apart, once_from_apart, pairing_total}
use Rattle.area_graph.proofs.OneBond.{single, tells}
use Rattle.area_graph.proofs.OrderedMembers.{has_in_order}
use Rattle.area_graph.proofs.KeptBonds.{AllEntries, arcs_kept, bonds_kept, bonds_have_arcs}

-- a list rises as another one does, if each of its elements stands for one of the other's
rises_map : {X Y : Type 0} (cmp : X → X → Ordering) (other : Y → Y → Ordering) (f : X → Y)
    → ((x y : X) → is_before cmp y x ≡ false → is_before other (f y) (f x) ≡ false) → (xs : List X) → Rises cmp xs → Rises other (map f xs)
rises_map cmp other f kept [] rises = tt
rises_map cmp other f kept (x ∷ xs) rises = (
  all_map (λ y. is_before other y (f x) ≡ false) f xs
      (all_from_has (λ y. is_before other (f y) (f x) ≡ false) xs (λ y has. kept x y (all_has (λ z. is_before cmp z x ≡ false) xs y rises.0 has))),
  rises_map cmp other f kept xs rises.1,
)

-- arcs by tail
by_tail : (arcs : List Entry) (x y : Entry) → is_before arc_cmp y x ≡ false → is_before by_tail_cmp (numbered arcs y) (numbered arcs x) ≡ false
by_tail arcs x y h = first_not_lt (by_tail_cmp (numbered arcs y) (numbered arcs x)) (nat_cmp y.place x.place) h

arcs_ascend : (arcs : List Entry) → IsSorted by_tail_cmp (arcs_of arcs)
arcs_ascend arcs =
    sorted_from_rises by_tail_cmp (arcs_of arcs)
    (rises_map arc_cmp by_tail_cmp (numbered arcs) (by_tail arcs) (in_order arc_cmp arcs) (in_order_rises arc_cmp arc_total arcs))

-- pairs by their nodes
by_nodes : (x y : Entry) → is_before pairing_cmp y x ≡ false → is_lt (ordering_then (nat_cmp y.tail x.tail) (nat_cmp y.far x.far)) ≡ false
by_nodes x y h =
    let two = ordering_then (nat_cmp y.tail x.tail) (nat_cmp y.far x.far) in
    first_not_lt two (nat_cmp y.link_data x.link_data) (first_not_lt (ordering_then two (nat_cmp y.link_data x.link_data)) (nat_cmp y.place x.place) h)

ends_by : (one : Entry) (o : Option Entry) → ((bond_by one o).a ≡ one.tail) × ((bond_by one o).b ≡ one.far)
ends_by one None = (refl, refl)
ends_by one (Some back) = (refl, refl)

by_ends : (arcs : List Entry) (x y : Entry) → is_before pairing_cmp y x ≡ false → is_before by_nodes_cmp (bond_from arcs y) (bond_from arcs x) ≡ false
by_ends arcs x y h =
    let at_x = ends_by x (partner arcs x) in
    let at_y = ends_by y (partner arcs y) in
    rw (at_x.0, at_x.1, at_y.0, at_y.1) (by_nodes x y h)

-- pairs before single arcs
abbrev AllPaired : List Bond → Type 0
AllPaired bonds = AllByRecursion (λ bond. bond.paired ≡ true) bonds

abbrev AllSingle : List Bond → Type 0
AllSingle bonds = AllByRecursion (λ bond. bond.paired ≡ false) bonds

pairs_first : (xs ys : List Bond) → AllPaired xs → AllSingle ys → (j k : ℕ) (one other : Bond) → j < k
    → slice_get (xs ++ ys) j ≡ Some one → slice_get (xs ++ ys) k ≡ Some other → other.paired ≡ true → one.paired ≡ true
pairs_first [] ys paired single j k one other before at_j at_k is =
    let never = all_has (λ (bond : Bond). bond.paired ≡ false) ys other single (has_at ys k other at_k) in absurd cc
pairs_first (x ∷ xs) ys paired single zero k one other before at_j at_k is =
    subst (λ (bond : Bond). bond.paired ≡ true) (same_Some x one at_j) paired.0
pairs_first (x ∷ xs) ys paired single (suc j) zero one other before at_j at_k is = absurd (omega (arith, before))
pairs_first (x ∷ xs) ys paired single (suc j) (suc k) one other before at_j at_k is =
    pairs_first xs ys paired.1 single j k one other (omega (arith, before)) at_j at_k is

filter_single : (ys : List Bond) → AllSingle ys → filter (λ bond. bond.paired) ys ≡ []
filter_single [] single = refl
filter_single (y ∷ ys) single = rw single.0 (filter_single ys single.1)

filter_pairs : (xs ys : List Bond) → AllPaired xs → AllSingle ys → filter (λ bond. bond.paired) (xs ++ ys) ≡ xs
filter_pairs [] ys paired single = filter_single ys single
filter_pairs (x ∷ xs) ys paired single =
    let rest = filter (λ (bond : Bond). bond.paired) (xs ++ ys) in
    ap (λ (b : Bool). cond b (x ∷ rest) rest) paired.0 ∙ ap (λ (bonds : List Bond). x ∷ bonds) (filter_pairs xs ys paired.1 single)

bonds_of_pairs : (arcs : List Entry) → AllPaired (map (bond_from arcs) (pairs arcs))
bonds_of_pairs arcs =
    all_map (λ bond. bond.paired ≡ true) (bond_from arcs) (pairs arcs) (all_from_has (λ one. (bond_from arcs one).paired ≡ true) (pairs arcs) (λ one has.
    ap (λ (o : Option Entry). (bond_by one o).paired) (tells arcs one (has_filter (tells_pair arcs) arcs one has).1).partners))

bonds_of_singles : (arcs : List Entry) → AllSingle (map (bond_from arcs) (singles arcs))
bonds_of_singles arcs =
    all_map (λ bond. bond.paired ≡ false) (bond_from arcs) (singles arcs) (all_from_has (λ one. (bond_from arcs one).paired ≡ false) (singles arcs) (λ one has.
    ap (λ (o : Option Entry). (bond_by one o).paired) (single arcs one (has_filter (is_single arcs) (in_order arc_cmp arcs) one has).1)))

-- arcs that rise as they are paired
module _ (arcs : List Entry) where
  abbrev of_pairs : List Bond
  of_pairs = map (bond_from arcs) (pairs arcs)

  abbrev of_singles : List Bond
  of_singles = map (bond_from arcs) (singles arcs)

  bonds_are : bonds_of arcs ≡ of_pairs ++ of_singles
  bonds_are = map-append (bond_from arcs) (pairs arcs) (singles arcs)

  bonds_ascend : Rises pairing_cmp arcs → IsSorted by_nodes_cmp (filter (λ bond. bond.paired) (bonds_of arcs))
  bonds_ascend rises =
      let kept : filter (λ bond. bond.paired) (bonds_of arcs) ≡ of_pairs =
      ap (filter (λ bond. bond.paired)) bonds_are ∙ filter_pairs of_pairs of_singles (bonds_of_pairs arcs) (bonds_of_singles arcs) in
      let ascend = sorted_from_rises by_nodes_cmp of_pairs
      (rises_map pairing_cmp by_nodes_cmp (bond_from arcs) (by_ends arcs) (pairs arcs) (rises_filter pairing_cmp (tells_pair arcs) arcs rises)) in
      subst (IsSorted by_nodes_cmp) (sym kept) ascend

  bonds_first : (j k : ℕ) (one other : Bond) → j < k → slice_get (bonds_of arcs) j ≡ Some one → slice_get (bonds_of arcs) k ≡ Some other
      → other.paired ≡ true → one.paired ≡ true
  bonds_first j k one other before at_j at_k is =
      pairs_first of_pairs of_singles (bonds_of_pairs arcs) (bonds_of_singles arcs) j k one other before
      (sym (ap (λ bonds. slice_get bonds j) bonds_are) ∙ at_j) (sym (ap (λ bonds. slice_get bonds k) bonds_are) ∙ at_k) is

-- the arcs among entries are entries of which no two are one
among_entries : (ids : List NodeId) (all : List Entry) → AreEntries ids all → AllEntries ids (arcs_among all)
among_entries ids all entries = λ arc has.
    let kept = has_filter (is_arc all) all arc (has_in_order pairing_cmp (filter (is_arc all) all) arc has) in
    all_has (IsEntry ids) all arc entries.kept kept.0

-- the area of entries
pub area_kept : (ids : List NodeId) (all : List Entry) → AreEntries ids all → IsStrictlySortedBy node_id_cmp ids → length ids ≤ 4096 → length (arcs_among all) ≤ 32768
    → IsArea (record { ids = ids; arcs = arcs_of (arcs_among all); bonds = bonds_of (arcs_among all) })
area_kept ids all entries ascend few_ids few_among =
    let arcs = arcs_among all in
    let kept = among_entries ids all entries in
    let once = once_from_apart arcs (arcs_apart all entries.apart) in
    let rises = in_order_rises pairing_cmp pairing_total (filter (is_arc all) all) in
    record {
      few_nodes = few_ids;
      few_arcs = omega (arith, few_among, length-map (in_order arc_cmp arcs) (numbered arcs), length-in_order arc_cmp arcs);
      ids_ascend = ascend;
      arcs_ascend = arcs_ascend arcs;
      arcs_kept = arcs_kept ids arcs kept once;
      bonds_kept = bonds_kept ids arcs kept;
      pairs_first = bonds_first arcs;
      pairs_ascend = bonds_ascend arcs rises;
      arcs_of_bonds = bonds_have_arcs ids arcs kept once;
    }
