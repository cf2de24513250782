-- Entries by identifiers and entries by numbers are filtered, ordered, paired and numbered alike.
use Rattle.std.proofs.Common.{◌≡◌, ◌∙◌, ◌<◌, ◌&&◌, ◌||◌, ◌==◌, ℕ, Bool, true, false, cond, List, [], ◌∷◌, Option, Some, None, length, map, get_or, slice_get, inl, inr, refl, sym, ap, subst, arith}
use Rattle.std.specs.Prelude.{nat_lt}
use Rattle.std.specs.Cmp.{nat_cmp_is}
use Rattle.std.specs.List.{AllByRecursion, AllZip, filter, list_any, position}
use Rattle.std.specs.List.Sorted.{IsStrictlySortedBy}
use Rattle.std.specs.Option.{is_none, is_some, option_map_or, unwrap_or}
use Rattle.std.specs.Ordering.{is_lt, nat_cmp, ordering_then, ordering_reverse}
use Rattle.std.specs.declared.cmp.Ordering.{Ordering}
use Rattle.std.specs.declared.cmp.Ordering.TheVariants.{Less, Equal, Greater}
use Rattle.std.proofs.lemmas.Bool.{and_parts, cases_order, or_cases}
use Rattle.std.proofs.lemmas.Bool.Decides.{eqb_tells, nat_tests}
use Rattle.std.proofs.lemmas.Cmp.{tied_itself}
use Rattle.std.proofs.lemmas.Map.Keys.{Less-from_sorted}
use Rattle.std.proofs.lemmas.Option.{same_Some, get_or_from_slice_get}
use Rattle.mrt_graph.specs.NodeOrder.{node_id_cmp}
use Rattle.mrt_graph.specs.declared.node_id.NodeId.{NodeId}
use Rattle.mrt_graph.specs.InOrder.{in_order}
use Rattle.mrt_graph.specs.SameGraph.{same_id}
use Rattle.mrt_graph.proofs.Filters.{all_filter, filter_agree_in}
use Rattle.mrt_graph.proofs.Members.{all_weaker}
use Rattle.mrt_graph.proofs.NodeIds.{node_id_total}
use Rattle.area_graph.specs.declared.entry.NumberedEntry.{NumberedEntry}
use Rattle.area_graph.specs.AreaOf.{arc_from, area_with, bond_by, bond_from, place_among}
use Rattle.area_graph.specs.Arcs.{answers, arc_cmp, arcs_among, is_arc, pairing_cmp, parallel_cmp}
use Rattle.area_graph.specs.Bonds.{are_partners, bond_of, bonds, is_of, pairs, parallels, partner, same_entry, singles, tells_pair, turn_of}
use Rattle.area_graph.specs.Entries.{Entry}
use Rattle.mrt_graph.specs.NodeIds.{number_of}
use Rattle.area_graph.specs.steps.NumberedArcs.{answers as n_answers, arc_cmp as n_arc_cmp, arcs_among as n_arcs_among, is_arc as n_is_arc, pairing_cmp as n_pairing_cmp}
use Rattle.area_graph.specs.steps.NumberedArea.{arcs_of, bond_by as n_bond_by, bond_from as n_bond_from, bonds_of, numbered}
use Rattle.area_graph.specs.steps.NumberedBonds.{are_partners as n_are_partners, bond_of as n_bond_of, bonds as n_bonds, is_of as n_is_of, is_single, pairs as n_pairs, partner as n_partner, same_entry as n_same_entry, same_way, singles as n_singles, tells_pair as n_tells_pair, turn_of as n_turn_of}
use Rattle.area_graph.proofs.Alongside.{AreBoth, length_zip, zip_any, zip_append, zip_filter, zip_find, zip_in_order, zip_map, zip_place, zip_position}
use Rattle.mrt_graph.proofs.IdPlaces.{number_found, number_within}
use Rattle.mrt_graph.proofs.SameIds.{not_one_node, one_node, same_itself}

-- an entry by identifiers and an entry by numbers are one entry
pub record IsNumbered (ids : List NodeId) (entry : Entry) (numbered : NumberedEntry) : Type 0 where
  pub from : number_of ids entry.from ≡ Some numbered.tail
  pub to : number_of ids entry.to ≡ Some numbered.far
  pub metric : entry.metric ≡ numbered.metric
  pub link_data : entry.link_data ≡ numbered.link_data
  pub place : entry.place ≡ numbered.place

-- whether the node that an entry leads to is there
abbrev pub leads_on : List NodeId → Entry → Bool
leads_on ids entry = is_some (number_of ids entry.to)

-- an entry of a node that is there
abbrev pub IsOfNode : List NodeId → Entry → Type 0
IsOfNode ids entry = is_some (number_of ids entry.from) ≡ true

and_alike : (a b c d : Bool) → a ≡ c → b ≡ d → (a && b) ≡ (c && d)
and_alike a b c d one other = ap (λ t. t && b) one ∙ ap (λ t. c && t) other

then_alike : (o p q r : Ordering) → o ≡ q → p ≡ r → ordering_then o p ≡ ordering_then q r
then_alike o p q r one other = ap (λ t. ordering_then t p) one ∙ ap (λ t. ordering_then q t) other

nat_alike : (a b c d : ℕ) → a ≡ c → b ≡ d → nat_cmp a b ≡ nat_cmp c d
nat_alike a b c d one other = ap (λ t. nat_cmp t b) one ∙ ap (λ t. nat_cmp c t) other

eq_alike : (a b c d : ℕ) → a ≡ c → b ≡ d → (a == b) ≡ (c == d)
eq_alike a b c d one other = ap (λ t. t == b) one ∙ ap (λ t. c == t) other

then_regrouped : (o p q : Ordering) → ordering_then o (ordering_then p q) ≡ ordering_then (ordering_then o p) q
then_regrouped Less p q = refl
then_regrouped Equal p q = refl
then_regrouped Greater p q = refl

-- ---- filters

-- what one test passes another one passes too
filter_through_by : {X : Type 0} (p q : X → Bool) (x : X) (xs : List X) (s t : Bool) → p x ≡ s → q x ≡ t → (s ≡ true → t ≡ true) → filter p xs ≡ filter p (filter q xs)
    → cond s (x ∷ filter p xs) (filter p xs) ≡ filter p (cond t (x ∷ filter q xs) (filter q xs))
filter_through_by p q x xs true true is is' through rest = rw is (ap (λ ys. x ∷ ys) rest)
filter_through_by p q x xs true false is is' through rest = let never = through refl in absurd cc
filter_through_by p q x xs false true is is' through rest = rw is rest
filter_through_by p q x xs false false is is' through rest = rest

pub filter_through : {X : Type 0} (p q : X → Bool) → ((x : X) → p x ≡ true → q x ≡ true) → (xs : List X) → filter p xs ≡ filter p (filter q xs)
filter_through p q through [] = refl
filter_through p q through (x ∷ xs) = filter_through_by p q x xs (p x) (q x) refl refl (through x) (filter_through p q through xs)

any_through_by : {X : Type 0} (p q : X → Bool) (x : X) (xs : List X) (s t : Bool) → p x ≡ s → (s ≡ true → t ≡ true) → list_any p xs ≡ list_any p (filter q xs)
    → (s || list_any p xs) ≡ list_any p (cond t (x ∷ filter q xs) (filter q xs))
any_through_by p q x xs true true is through rest = rw is refl
any_through_by p q x xs true false is through rest = let never = through refl in absurd cc
any_through_by p q x xs false true is through rest = rw is rest
any_through_by p q x xs false false is through rest = rest

any_through : {X : Type 0} (p q : X → Bool) → ((x : X) → p x ≡ true → q x ≡ true) → (xs : List X) → list_any p xs ≡ list_any p (filter q xs)
any_through p q through [] = refl
any_through p q through (x ∷ xs) = any_through_by p q x xs (p x) (q x) refl (through x) (any_through p q through xs)

any_gives : {X : Type 0} (p : X → Bool) (P : Type 0) (xs : List X) → AllByRecursion (λ x. p x ≡ true → P) xs → list_any p xs ≡ true → P
any_gives p P [] all some = absurd cc
any_gives p P (x ∷ xs) all some = elim (or_cases (p x) (list_any p xs) some) [ inl here ↦ all.0 here | inr later ↦ any_gives p P xs all.1 later ]

module _ (ids : List NodeId) (ascend : IsStrictlySortedBy node_id_cmp ids) where
  abbrev R : Entry → NumberedEntry → Type 0
  R entry n = IsNumbered ids entry n

  -- ---- nodes and their numbers

  same_numbers : (a b : NodeId) (i j : ℕ) → number_of ids a ≡ Some i → number_of ids b ≡ Some j → same_id a b ≡ (i == j)
  same_numbers a b i j at_a at_b = elim (eqb_tells i j) [
    | inl same ↦
        let is : a ≡ b = same_Some a b (sym (number_found ids a i at_a) ∙ ap (slice_get ids) same.1 ∙ number_found ids b j at_b) in
        ap (same_id a) (sym is) ∙ same_itself a ∙ sym same.0
    | inr other ↦ not_one_node a b (λ same. other.1 (same_Some i j (sym at_a ∙ ap (number_of ids) same ∙ at_b))) ∙ sym other.0
  ]

  below_by : (a b : NodeId) (i j : ℕ) → number_of ids a ≡ Some i → number_of ids b ≡ Some j → i < j → node_id_cmp a b ≡ Less
  below_by a b i j at_a at_b below =
      let is_a : get_or ids i a ≡ a = get_or_from_slice_get ids i a a (number_found ids a i at_a) in
      let is_b : get_or ids j a ≡ b = get_or_from_slice_get ids j b a (number_found ids b j at_b) in
      ap (λ (x : NodeId). node_id_cmp x b) (sym is_a) ∙ ap (node_id_cmp (get_or ids i a)) (sym is_b)
      ∙ Less-from_sorted node_id_cmp ids i j a ascend below (number_within ids b j at_b)

  same_order : (a b : NodeId) (i j : ℕ) → number_of ids a ≡ Some i → number_of ids b ≡ Some j → node_id_cmp a b ≡ nat_cmp i j
  same_order a b i j at_a at_b = elim (cases_order i j) [
    | inl same ↦
        let is : a ≡ b = same_Some a b (sym (number_found ids a i at_a) ∙ ap (slice_get ids) same ∙ number_found ids b j at_b) in
        ap (node_id_cmp a) (sym is) ∙ tied_itself node_id_total a ∙ nat_cmp_is i j Equal same
    | inr (inl below) ↦ below_by a b i j at_a at_b below ∙ nat_cmp_is i j Less below
    | inr (inr above) ↦ node_id_total.antisymm a b ∙ ap ordering_reverse (below_by b a j i at_b at_a above) ∙ nat_cmp_is i j Greater above
  ]

  answers_alike : (entry back : Entry) (n m : NumberedEntry) → R entry n → R back m → answers entry back ≡ n_answers n m
  answers_alike entry back n m r s =
      and_alike (same_id back.from entry.to) (same_id back.to entry.from) (m.tail == n.far) (m.far == n.tail)
      (same_numbers back.from entry.to m.tail n.far s.from r.to) (same_numbers back.to entry.from m.far n.tail s.to r.from)

  direction_alike : (arc other : Entry) (n m : NumberedEntry) → R arc n → R other m
      → (same_id other.from arc.from && same_id other.to arc.to) ≡ same_way n m
  direction_alike arc other n m r s =
      and_alike (same_id other.from arc.from) (same_id other.to arc.to) (m.tail == n.tail) (m.far == n.far)
      (same_numbers other.from arc.from m.tail n.tail s.from r.from) (same_numbers other.to arc.to m.far n.far s.to r.to)

  entry_alike : (entry other : Entry) (n m : NumberedEntry) → R entry n → R other m → same_entry entry other ≡ n_same_entry n m
  entry_alike entry other n m r s =
      and_alike (same_id other.from entry.from) (other.place == entry.place) (m.tail == n.tail) (m.place == n.place)
      (same_numbers other.from entry.from m.tail n.tail s.from r.from) (eq_alike other.place entry.place m.place n.place s.place r.place)

  lower_alike : (arc : Entry) (n : NumberedEntry) → R arc n → is_lt (node_id_cmp arc.from arc.to) ≡ nat_lt n.tail n.far
  lower_alike arc n r = ap is_lt (same_order arc.from arc.to n.tail n.far r.from r.to) ∙ lt_is n.tail n.far
    where
      lt_is : (a b : ℕ) → is_lt (nat_cmp a b) ≡ nat_lt a b
      lt_is a b = grind (arith, nat_tests)

  parallel_alike : (arc other : Entry) (n m : NumberedEntry) → R arc n → R other m
      → parallel_cmp arc other ≡ ordering_then (nat_cmp n.link_data m.link_data) (nat_cmp n.place m.place)
  parallel_alike arc other n m r s =
      then_alike (nat_cmp arc.link_data other.link_data) (nat_cmp arc.place other.place) (nat_cmp n.link_data m.link_data) (nat_cmp n.place m.place)
      (nat_alike arc.link_data other.link_data n.link_data m.link_data r.link_data s.link_data) (nat_alike arc.place other.place n.place m.place r.place s.place)

  pairing_alike : (arc other : Entry) (n m : NumberedEntry) → R arc n → R other m → pairing_cmp arc other ≡ n_pairing_cmp n m
  pairing_alike arc other n m r s =
      let tails = nat_cmp n.tail m.tail in
      let fars = nat_cmp n.far m.far in
      let ways : ordering_then (node_id_cmp arc.from other.from) (node_id_cmp arc.to other.to) ≡ ordering_then tails fars =
      then_alike (node_id_cmp arc.from other.from) (node_id_cmp arc.to other.to) tails fars
      (same_order arc.from other.from n.tail m.tail r.from s.from) (same_order arc.to other.to n.far m.far r.to s.to) in
      then_alike (ordering_then (node_id_cmp arc.from other.from) (node_id_cmp arc.to other.to)) (parallel_cmp arc other) (ordering_then tails fars)
      (ordering_then (nat_cmp n.link_data m.link_data) (nat_cmp n.place m.place)) ways (parallel_alike arc other n m r s)
      ∙ then_regrouped (ordering_then tails fars) (nat_cmp n.link_data m.link_data) (nat_cmp n.place m.place)

  arc_alike : (arc other : Entry) (n m : NumberedEntry) → R arc n → R other m → arc_cmp arc other ≡ n_arc_cmp n m
  arc_alike arc other n m r s =
      let first = ordering_then (nat_cmp n.tail m.tail) (nat_cmp n.metric m.metric) in
      let far = nat_cmp n.far m.far in
      let last = ordering_then (nat_cmp n.link_data m.link_data) (nat_cmp n.place m.place) in
      then_alike _ _ first (ordering_then far last)
      (then_alike _ _ _ _ (same_order arc.from other.from n.tail m.tail r.from s.from) (nat_alike arc.metric other.metric n.metric m.metric r.metric s.metric))
      (then_alike _ _ far last (same_order arc.to other.to n.far m.far r.to s.to) (parallel_alike arc other n m r s))
      ∙ then_regrouped first far last ∙ then_regrouped (ordering_then first far) (nat_cmp n.link_data m.link_data) (nat_cmp n.place m.place)

  -- ---- arcs

  -- an entry that another one answers leads to a node that is there
  arc_leads : (all : List Entry) → AllByRecursion (IsOfNode ids) all → (entry : Entry) → is_arc all entry ≡ true → leads_on ids entry ≡ true
  arc_leads all of_nodes entry is =
      any_gives (answers entry) (leads_on ids entry ≡ true) all
      (all_weaker (IsOfNode ids) (λ back. answers entry back ≡ true → leads_on ids entry ≡ true)
      (λ back of_node passes.
      let parts = and_parts (same_id back.from entry.to) (same_id back.to entry.from) passes in
      subst (λ (id : NodeId). is_some (number_of ids id) ≡ true) (one_node back.from entry.to parts.0) of_node) all of_nodes)
      is

  -- what answers an entry of a node that is there leads to that node
  answer_leads : (entry : Entry) → IsOfNode ids entry → (back : Entry) → answers entry back ≡ true → leads_on ids back ≡ true
  answer_leads entry of_node back passes =
      let parts = and_parts (same_id back.from entry.to) (same_id back.to entry.from) passes in
      subst (λ (id : NodeId). is_some (number_of ids id) ≡ true) (sym (one_node back.to entry.from parts.1)) of_node

  -- entries to nodes that are not there drop out by themselves
  arcs_that_lead : (all : List Entry) → AllByRecursion (IsOfNode ids) all
      → filter (is_arc all) all ≡ filter (is_arc (filter (leads_on ids) all)) (filter (leads_on ids) all)
  arcs_that_lead all of_nodes =
      let kept = filter (leads_on ids) all in
      filter_through (is_arc all) (leads_on ids) (arc_leads all of_nodes) all
      ∙ filter_agree_in (is_arc all) (is_arc kept) kept
      (all_weaker (IsOfNode ids) (λ entry. is_arc all entry ≡ is_arc kept entry)
      (λ entry of_node. any_through (answers entry) (leads_on ids) (answer_leads entry of_node) all) kept (all_filter (leads_on ids) (IsOfNode ids) all of_nodes))

  pub arcs_alike : (all : List Entry) (nums : List NumberedEntry) → AllByRecursion (IsOfNode ids) all → AllZip R (filter (leads_on ids) all) nums
      → AllZip R (arcs_among all) (n_arcs_among nums)
  arcs_alike all nums of_nodes zip =
      let kept = filter (leads_on ids) all in
      subst (λ (xs : List Entry). AllZip R (in_order pairing_cmp xs) (n_arcs_among nums)) (sym (arcs_that_lead all of_nodes))
      (zip_in_order R pairing_cmp n_pairing_cmp (λ arc other n m r s. pairing_alike arc other n m r s) (filter (is_arc kept) kept) (filter (n_is_arc nums) nums)
      (zip_filter R (is_arc kept) (n_is_arc nums)
      (λ entry n r. zip_any R (answers entry) (n_answers n) (λ back m s. answers_alike entry back n m r s) kept nums zip) kept nums zip))

  -- ---- partners

  module _ (arcs : List Entry) (nums : List NumberedEntry) (zip : AllZip R arcs nums) where
    turn_alike : (arc : Entry) (n : NumberedEntry) → R arc n → turn_of arcs arc ≡ n_turn_of nums n
    turn_alike arc n r =
        zip_place R (same_entry arc) (n_same_entry n) (λ one m s. entry_alike arc one n m r s) (parallels arcs arc.from arc.to) (filter (same_way n) nums)
        (zip_filter R (λ other. same_id other.from arc.from && same_id other.to arc.to) (same_way n) (λ other m s. direction_alike arc other n m r s) arcs nums zip)

    partners_alike : (arc back : Entry) (n m : NumberedEntry) → R arc n → R back m → are_partners arcs arc back ≡ n_are_partners nums n m
    partners_alike arc back n m r s =
        and_alike (answers arc back) (turn_of arcs back == turn_of arcs arc) (n_answers n m) (n_turn_of nums m == n_turn_of nums n) (answers_alike arc back n m r s)
        (eq_alike (turn_of arcs back) (turn_of arcs arc) (n_turn_of nums m) (n_turn_of nums n) (turn_alike back m s) (turn_alike arc n r))

    partner_alike : (arc : Entry) (n : NumberedEntry) → R arc n → AreBoth R (partner arcs arc) (n_partner nums n)
    partner_alike arc n r = zip_find R (are_partners arcs arc) (n_are_partners nums n) (λ back m s. partners_alike arc back n m r s) arcs nums zip

    -- ---- bonds

    some_alike : (o : Option Entry) (p : Option NumberedEntry) → AreBoth R o p → is_some o ≡ is_some p
    some_alike None None both = refl
    some_alike None (Some m) both = absurd both
    some_alike (Some back) None both = absurd both
    some_alike (Some back) (Some m) both = refl

    none_alike : (o : Option Entry) (p : Option NumberedEntry) → AreBoth R o p → is_none o ≡ is_none p
    none_alike None None both = refl
    none_alike None (Some m) both = absurd both
    none_alike (Some back) None both = absurd both
    none_alike (Some back) (Some m) both = refl

    tells_alike : (arc : Entry) (n : NumberedEntry) → R arc n → tells_pair arcs arc ≡ n_tells_pair nums n
    tells_alike arc n r =
        and_alike (is_lt (node_id_cmp arc.from arc.to)) (is_some (partner arcs arc)) (nat_lt n.tail n.far) (is_some (n_partner nums n)) (lower_alike arc n r)
        (some_alike (partner arcs arc) (n_partner nums n) (partner_alike arc n r))

    ordered_alike : AllZip R (in_order arc_cmp arcs) (in_order n_arc_cmp nums)
    ordered_alike = zip_in_order R arc_cmp n_arc_cmp (λ arc other n m r s. arc_alike arc other n m r s) arcs nums zip

    bonds_alike : AllZip R (bonds arcs) (n_bonds nums)
    bonds_alike =
        zip_append R (pairs arcs) (singles arcs) (n_pairs nums) (n_singles nums)
        (zip_filter R (tells_pair arcs) (n_tells_pair nums) (λ arc n r. tells_alike arc n r) arcs nums zip)
        (zip_filter R (λ arc. is_none (partner arcs arc)) (is_single nums) (λ arc n r. none_alike (partner arcs arc) (n_partner nums n) (partner_alike arc n r))
        (in_order arc_cmp arcs) (in_order n_arc_cmp nums) ordered_alike)

    of_other : (arc : Entry) (n : NumberedEntry) (o : Option Entry) (p : Option NumberedEntry) → R arc n → AreBoth R o p
        → option_map_or (same_entry arc) o false ≡ option_map_or (n_same_entry n) p false
    of_other arc n None None r both = refl
    of_other arc n None (Some m) r both = absurd both
    of_other arc n (Some back) None r both = absurd both
    of_other arc n (Some back) (Some m) r both = entry_alike arc back n m r both

    of_alike : (arc : Entry) (n : NumberedEntry) → R arc n → (one : Entry) (m : NumberedEntry) → R one m → is_of arcs arc one ≡ n_is_of nums n m
    of_alike arc n r one m s =
        ap (λ b. b || option_map_or (same_entry arc) (partner arcs one) false) (entry_alike arc one n m r s)
        ∙ ap (λ b. n_same_entry n m || b) (of_other arc n (partner arcs one) (n_partner nums m) r (partner_alike one m s))

    bond_alike : (arc : Entry) (n : NumberedEntry) → R arc n → bond_of arcs arc ≡ n_bond_of nums n
    bond_alike arc n r =
        ap (λ (o : Option ℕ). unwrap_or o (length (bonds arcs)))
        (zip_position R (is_of arcs arc) (n_is_of nums n) (λ one m s. of_alike arc n r one m s) (bonds arcs) (n_bonds nums) bonds_alike)
        ∙ ap (λ (count : ℕ). unwrap_or (position (n_is_of nums n) (n_bonds nums)) count) (length_zip R (bonds arcs) (n_bonds nums) bonds_alike)

    -- ---- the parts of the area

    numbered_alike : (arc : Entry) (n : NumberedEntry) → R arc n → arc_from ids arcs arc ≡ numbered nums n
    numbered_alike arc n r =
        let tail : place_among ids arc.from ≡ n.tail = ap (λ (o : Option ℕ). unwrap_or o (length ids)) r.from in
        let to : place_among ids arc.to ≡ n.far = ap (λ (o : Option ℕ). unwrap_or o (length ids)) r.to in
        let metric = r.metric in
        let told = r.link_data in
        let bond = bond_alike arc n r in
        λ i. record { tail = tail i; to = to i; metric = metric i; link_data = told i; bond = bond i }

    bond_made : (one : Entry) (n : NumberedEntry) (o : Option Entry) (p : Option NumberedEntry) → R one n → AreBoth R o p → bond_by ids one o ≡ n_bond_by n p
    bond_made one n None (Some m) r both = absurd both
    bond_made one n (Some back) None r both = absurd both
    bond_made one n None None r both =
        let a : place_among ids one.from ≡ n.tail = ap (λ (o : Option ℕ). unwrap_or o (length ids)) r.from in
        let b : place_among ids one.to ≡ n.far = ap (λ (o : Option ℕ). unwrap_or o (length ids)) r.to in
        let metric = r.metric in
        let told = r.link_data in
        λ i. record { a = a i; b = b i; paired = false; data_a = told i; data_b = 0; metric_a = metric i; metric_b = 0 }
    bond_made one n (Some back) (Some m) r s =
        let a : place_among ids one.from ≡ n.tail = ap (λ (o : Option ℕ). unwrap_or o (length ids)) r.from in
        let b : place_among ids one.to ≡ n.far = ap (λ (o : Option ℕ). unwrap_or o (length ids)) r.to in
        let metric = r.metric in
        let told = r.link_data in
        let metric_back = s.metric in
        let told_back = s.link_data in
        λ i. record { a = a i; b = b i; paired = true; data_a = told i; data_b = told_back i; metric_a = metric i; metric_b = metric_back i }

    pub area_alike : area_with ids arcs ≡ record { ids = ids; arcs = arcs_of nums; bonds = bonds_of nums }
    area_alike =
        let arcs_are : map (arc_from ids arcs) (in_order arc_cmp arcs) ≡ arcs_of nums =
        zip_map R (arc_from ids arcs) (numbered nums) (λ arc n r. numbered_alike arc n r) (in_order arc_cmp arcs) (in_order n_arc_cmp nums) ordered_alike in
        let bonds_are : map (bond_from ids arcs) (bonds arcs) ≡ bonds_of nums =
        zip_map R (bond_from ids arcs) (n_bond_from nums) (λ one m r. bond_made one m (partner arcs one) (n_partner nums m) r (partner_alike one m r)) (bonds arcs) (n_bonds nums)
        bonds_alike in
        λ i. record { ids = ids; arcs = arcs_are i; bonds = bonds_are i }
