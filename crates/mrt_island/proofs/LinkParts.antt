-- The links of an island are links between its nodes, in order.
use Rattle.std.proofs.Common.{◌≡◌, ◌⊎◌, ◌<◌, ◌≤◌, ◌+◌, ◌∙◌, ℕ, Bool, true, false, cond, List, [], ◌∷◌, length, get_or, map, Some, refl, sym, ap, subst, inl, inr, arith}
use Rattle.std.specs.Prelude.{◌&&◌, slice_get}
use Rattle.std.specs.List.{All, AllByRecursion, filter}
use Rattle.std.specs.List.Sorted.{IsSorted}
use Rattle.std.specs.Option.{option_map}
use Rattle.std.specs.Cmp.{IsTotalOrder, nat_cmp_is}
use Rattle.std.specs.Ordering.{is_lt, nat_cmp, ordering_then}
use Rattle.std.specs.declared.cmp.Ordering.{Ordering}
use Rattle.std.specs.declared.cmp.Ordering.TheVariants.{Less, Equal, Greater}
use Rattle.std.proofs.lemmas.Cmp.{nat_cmp_total, on_total, then_total}
use Rattle.std.proofs.lemmas.Map.Keys.{ge_from_not_lt}
use Rattle.std.proofs.lemmas.Bool.{and_parts, cases_order}
use Rattle.std.proofs.lemmas.List.{get_or-map, length-map}
use Rattle.std.proofs.lemmas.List.Elements.{filter_passes}
use Rattle.std.proofs.lemmas.List.Kept.{IsSortedBy-filter}
use Rattle.std.proofs.lemmas.List.Sorted.{ranks_by}
use Rattle.std.proofs.lemmas.Option.{slice_get-get_or}
use Rattle.mrt_graph.specs.declared.node_id.Kind.TheVariants as kinds
use Rattle.mrt_graph.specs.declared.node_id.NodeId.{NodeId}
use Rattle.mrt_graph.specs.EndsOfLinks.{pair_of}
use Rattle.mrt_graph.specs.GraphInvariant.{IsLink, IsNetwork}
use Rattle.mrt_graph.specs.NewGraph.{pair_cmp}
use Rattle.mrt_graph.specs.Search.{IsMarked}
use Rattle.area_graph.specs.AreaInvariant.{IsBond, by_nodes_cmp}
use Rattle.area_graph.specs.declared.area_types.Bond.{Bond}
use Rattle.mrt_island.specs.Policy.{Policy}
use Rattle.mrt_island.specs.Eligible.{is_eligible}
use Rattle.mrt_island.specs.Numbering.{flagged, is_inside, is_link, link_by, number_inside}
use Rattle.mrt_island.proofs.Counting.{flagged_at, length_flagged, number_keeps, number_rises, number_within}
use Rattle.mrt_island.proofs.Pairing.{eligible_paired}

-- what a link of an island is
pub record IsChosen (policy : Policy) (ids : List NodeId) (inside : List Bool) (bond : Bond) : Type 0 where
  pub eligible : is_eligible policy ids bond ≡ true
  pub paired : bond.paired ≡ true
  pub a : IsMarked inside bond.a
  pub b : IsMarked inside bond.b

pub is_chosen : (policy : Policy) (ids : List NodeId) (inside : List Bool) (bond : Bond) → is_link policy ids inside bond ≡ true → IsChosen policy ids inside bond
is_chosen policy ids inside bond link =
    let parts = and_parts (is_eligible policy ids bond) (is_inside inside bond.a && is_inside inside bond.b) link in
    let nodes = and_parts (is_inside inside bond.a) (is_inside inside bond.b) parts.1 in
    record { eligible = parts.0; paired = eligible_paired policy ids bond parts.0; a = nodes.0; b = nodes.1 }

-- what stands past the end
abbrev no_node : NodeId
no_node = record { kind = kinds.Router; number = 0 }

-- a node has its identifier in the island
pub same_id : (ids : List NodeId) (inside : List Bool) (s : ℕ) → s < length ids → IsMarked inside s → slice_get (flagged inside ids) (number_inside inside s) ≡ slice_get ids s
same_id ids inside s within set =
    let there : slice_get ids s ≡ Some (get_or ids s no_node) = slice_get-get_or ids s no_node within in
    flagged_at inside ids s (get_or ids s no_node) there set ∙ sym there

still_network : (ids : List NodeId) (inside : List Bool) (s : ℕ) → s < length ids → IsMarked inside s → IsNetwork (flagged inside ids) (number_inside inside s) → IsNetwork ids s
still_network ids inside s within set network = ap (option_map (λ id. id.kind)) (sym (same_id ids inside s within set)) ∙ network

-- a link of an island is a link between two of its nodes
link_between : (policy : Policy) (ids : List NodeId) (inside : List Bool) (bond : Bond) → length inside ≡ length ids → IsBond ids bond → IsChosen policy ids inside bond
    → IsLink (flagged inside ids) (pair_of (link_by inside bond))
link_between policy ids inside bond count kept chosen = record {
  ascending = number_rises inside bond.a bond.b (kept.ascending chosen.paired) chosen.a;
  upper = omega (arith, length_flagged inside ids count, number_within inside bond.b chosen.b);
  not_both_networks = λ first second.
      kept.not_both_networks (still_network ids inside bond.a kept.a chosen.a first) (still_network ids inside bond.b kept.b chosen.b second);
}

-- what is made of the elements that pass a test
next_made : {X Y : Type 0} (P : X → Type 0) (Q : Y → Type 0) (p : X → Bool) (f : X → Y) → ((x : X) → P x → p x ≡ true → Q (f x)) → (x : X) (xs : List X) (b : Bool) → p x ≡ b → P x
    → AllByRecursion Q (map f (filter p xs)) → AllByRecursion Q (map f (filter p (x ∷ xs)))
next_made {X} {Y} P Q p f made x xs true holds here later = rw holds (made x here holds, later)
next_made {X} {Y} P Q p f made x xs false fails here later = rw fails later

all_made : {X Y : Type 0} (P : X → Type 0) (Q : Y → Type 0) (p : X → Bool) (f : X → Y) → ((x : X) → P x → p x ≡ true → Q (f x)) → (xs : List X) → AllByRecursion P xs → AllByRecursion Q (map f (filter p xs))
all_made {X} {Y} P Q p f made [] all = tt
all_made {X} {Y} P Q p f made (x ∷ xs) all = next_made P Q p f made x xs (p x) refl all.0 (all_made P Q p f made xs all.1)

all_mapped : {X Y : Type 0} (Q : Y → Type 0) (f : X → Y) (xs : List X) → AllByRecursion (λ x. Q (f x)) xs → AllByRecursion Q (map f xs)
all_mapped {X} {Y} Q f [] all = tt
all_mapped {X} {Y} Q f (x ∷ xs) all = (all.0, all_mapped Q f xs all.1)

pub links_between : (policy : Policy) (ids : List NodeId) (inside : List Bool) (bonds : List Bond) → length inside ≡ length ids → AllByRecursion (IsBond ids) bonds
    → AllByRecursion (IsLink (flagged inside ids)) (map pair_of (map (link_by inside) (filter (is_link policy ids inside) bonds)))
links_between policy ids inside bonds count kept =
    all_mapped (IsLink (flagged inside ids)) pair_of (map (link_by inside) (filter (is_link policy ids inside) bonds))
    (all_made (IsBond ids) (λ link. IsLink (flagged inside ids) (pair_of link)) (is_link policy ids inside) (link_by inside)
    (λ bond here holds. link_between policy ids inside bond count here (is_chosen policy ids inside bond holds)) bonds kept)

-- a filter after a weaker one
next_filtered : {X : Type 0} (p q : X → Bool) → ((x : X) → p x ≡ true → q x ≡ true) → (x : X) (xs : List X) (b c : Bool) → p x ≡ b → q x ≡ c → filter p (filter q xs) ≡ filter p xs → filter p (filter q (x ∷ xs)) ≡ filter p (x ∷ xs)
next_filtered {X} p q weaker x xs b true ours theirs later = rw (theirs, ours) (both b)
  where
    both : (a : Bool) → cond a (x ∷ filter p (filter q xs)) (filter p (filter q xs)) ≡ cond a (x ∷ filter p xs) (filter p xs)
    both true = ap (λ (rest : List X). x ∷ rest) later
    both false = later
next_filtered {X} p q weaker x xs true false ours theirs later = absurd (let passes : q x ≡ true = weaker x ours in cc)
next_filtered {X} p q weaker x xs false false ours theirs later = rw (theirs, ours) later

pub filter_filter : {X : Type 0} (p q : X → Bool) → ((x : X) → p x ≡ true → q x ≡ true) → (xs : List X) → filter p (filter q xs) ≡ filter p xs
filter_filter {X} p q weaker [] = refl
filter_filter {X} p q weaker (x ∷ xs) = next_filtered p q weaker x xs (p x) (q x) refl refl (filter_filter p q weaker xs)

-- what an order by two numbers says, where one pair is not before another
not_before : (a b c d : ℕ) → is_lt (ordering_then (nat_cmp a c) (nat_cmp b d)) ≡ false → (c < a) ⊎ ((c ≡ a) × (d ≤ b))
not_before a b c d not_lt = elim (cases_order a c) [
  | inl same ↦
      let tie : Equal ≡ nat_cmp a c = nat_cmp_is a c Equal same in
      let second : is_lt (nat_cmp b d) ≡ false = subst (λ (o : Ordering). is_lt (ordering_then o (nat_cmp b d)) ≡ false) (sym tie) not_lt in
      inr (sym same, ge_from_not_lt b d second)
  | inr apart ↦ elim apart [
    | inl below ↦
        let less : Less ≡ nat_cmp a c = nat_cmp_is a c Less below in
        let first : true ≡ false = subst (λ (o : Ordering). is_lt (ordering_then o (nat_cmp b d)) ≡ false) (sym less) not_lt in
        absurd cc
    | inr above ↦ inl above
  ]
]

not_lt : (b d : ℕ) → d ≤ b → is_lt (nat_cmp b d) ≡ false
not_lt b d ge = elim (cases_order b d) [
  | inl same ↦ ap is_lt (sym (nat_cmp_is b d Equal same))
  | inr apart ↦ elim apart [
    | inl below ↦ absurd (omega (arith, ge, below))
    | inr above ↦ ap is_lt (sym (nat_cmp_is b d Greater above))
  ]
]

still_not_before : (a b c d : ℕ) → (c < a) ⊎ ((c ≡ a) × (d ≤ b)) → is_lt (ordering_then (nat_cmp a c) (nat_cmp b d)) ≡ false
still_not_before a b c d (inl above) = ap (λ (o : Ordering). is_lt (ordering_then o (nat_cmp b d))) (sym (nat_cmp_is a c Greater above))
still_not_before a b c d (inr tie) = ap (λ (o : Ordering). is_lt (ordering_then o (nat_cmp b d))) (sym (nat_cmp_is a c Equal (sym tie.0))) ∙ not_lt b d tie.1

-- two pairs of nodes are in order by their numbers in the island, as they are by those in the area
pairs_keep : (inside : List Bool) (x y : Bond) → IsMarked inside x.a → is_lt (by_nodes_cmp y x) ≡ false → is_lt (pair_cmp (pair_of (link_by inside y)) (pair_of (link_by inside x))) ≡ false
pairs_keep inside x y set not_lt =
    still_not_before (number_inside inside y.a) (number_inside inside y.b) (number_inside inside x.a) (number_inside inside x.b)
    (by_number (not_before y.a y.b x.a x.b not_lt))
  where
    by_number : (x.a < y.a) ⊎ ((x.a ≡ y.a) × (x.b ≤ y.b)) → (number_inside inside x.a < number_inside inside y.a) ⊎ ((number_inside inside x.a ≡ number_inside inside y.a) × (number_inside inside x.b ≤ number_inside inside y.b))
    by_number (inl below) = inl (number_rises inside x.a y.a below set)
    by_number (inr tie) = inr (ap (number_inside inside) tie.0, number_keeps inside x.b y.b tie.1)

-- the order of pairs is total
by_nodes_total : IsTotalOrder by_nodes_cmp
by_nodes_total = then_total (on_total (λ bond. bond.a) nat_cmp_total) (on_total (λ bond. bond.b) nat_cmp_total)

no_bond : Bond
no_bond = record { a = 0; b = 0; paired = false; data_a = 0; data_b = 0; metric_a = 0; metric_b = 0 }

-- bonds in order, of which each is a link, are links in order
mapped_ascend : (inside : List Bool) (bonds : List Bond) → All (λ bond. IsMarked inside bond.a) bonds → IsSorted by_nodes_cmp bonds → IsSorted pair_cmp (map pair_of (map (link_by inside) bonds))
mapped_ascend inside bonds marked up = λ k d low within.
    let count : length (map pair_of (map (link_by inside) bonds)) ≡ length bonds = length-map (map (link_by inside) bonds) pair_of ∙ length-map bonds (link_by inside) in
    let links : length (map (link_by inside) bonds) ≡ length bonds = length-map bonds (link_by inside) in
    let bond : Bond = no_bond in
    let after = get_or-map pair_of (map (link_by inside) bonds) (k + 1) (link_by inside bond) d (omega (arith, within, count, links)) in
    let before = get_or-map pair_of (map (link_by inside) bonds) k (link_by inside bond) d (omega (arith, within, count, links)) in
    let after_bond = get_or-map (link_by inside) bonds (k + 1) bond (link_by inside bond) (omega (arith, within, count)) in
    let before_bond = get_or-map (link_by inside) bonds k bond (link_by inside bond) (omega (arith, within, count)) in
    rw (after, before, after_bond, before_bond)
    (pairs_keep inside (get_or bonds k bond) (get_or bonds (k + 1) bond) (marked k bond (omega (arith, within, count))) (up k bond low (omega (arith, within, count))))

pub links_ascend : (policy : Policy) (ids : List NodeId) (inside : List Bool) (bonds : List Bond) → IsSorted by_nodes_cmp (filter (λ bond. bond.paired) bonds)
    → IsSorted pair_cmp (map pair_of (map (link_by inside) (filter (is_link policy ids inside) bonds)))
links_ascend policy ids inside bonds up =
    let weaker : (bond : Bond) → is_link policy ids inside bond ≡ true → bond.paired ≡ true = λ bond holds. (is_chosen policy ids inside bond holds).paired in
    let sorted : IsSorted by_nodes_cmp (filter (is_link policy ids inside) (filter (λ bond. bond.paired) bonds)) =
    IsSortedBy-filter (λ x y. is_lt (by_nodes_cmp x y)) (ranks_by by_nodes_total (λ bond. bond)) (is_link policy ids inside) (filter (λ bond. bond.paired) bonds) up in
    mapped_ascend inside (filter (is_link policy ids inside) bonds)
    (λ k d within. (is_chosen policy ids inside (get_or (filter (is_link policy ids inside) bonds) k d) (filter_passes (is_link policy ids inside) bonds k d within)).a)
    (subst (λ (l : List Bond). IsSorted by_nodes_cmp l) (filter_filter (is_link policy ids inside) (λ bond. bond.paired) weaker bonds) sorted)
