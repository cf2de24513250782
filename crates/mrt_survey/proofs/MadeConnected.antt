-- All routers of a network that is made are joined, so that an island holds them all.
use Rattle.std.proofs.Common.{◌≡◌, ◌≢◌, ◌≤◌, ◌<◌, ◌∙◌, ◌+◌, ◌-◌, ◌*◌, ◌%◌, ◌++◌, ◌&&◌, ℕ, zero, suc, Bool, true, List, [], ◌∷◌, Option, Some, None, length, map, slice_get, get_or, refl, sym, ap, subst, inl, inr, arith}
use Rattle.std.specs.List.{range_with_len}
use Rattle.std.specs.List.Sorted.{IsStrictlySortedBy}
use Rattle.std.specs.Option.{is_some}
use Rattle.std.specs.Ordering.{is_lt, nat_cmp}
use Rattle.std.specs.Cmp.{nat_cmp_is}
use Rattle.std.specs.declared.cmp.Ordering.TheVariants.{Less}
use Rattle.std.proofs.lemmas.Bool.{and_from, cases_order, eq-eqb, ne_eqb}
use Rattle.std.proofs.lemmas.List.FromFn.{get_or-map-range_with_len}
use Rattle.std.proofs.lemmas.Nat.{mod_below}
use Rattle.std.proofs.lemmas.Option.{slice_get_within}
use Rattle.mrt_graph.specs.Leads.{far_node}
use Rattle.mrt_graph.specs.NodeOrder.{node_id_cmp}
use Rattle.mrt_graph.specs.Reachable.{Path, Reachable}
use Rattle.mrt_graph.specs.Search.{IsMarked}
use Rattle.mrt_graph.specs.Topology.{Topology}
use Rattle.mrt_graph.specs.declared.node_id.NodeId.{NodeId}
use Rattle.mrt_graph.proofs.ListPlaces.{place_of}
use Rattle.mrt_graph.proofs.Members.{Has, all_map, contains_from_has, filter_has, has_map}
use Rattle.area_graph.specs.declared.area_types.Bond.{Bond}
use Rattle.area_graph.specs.AreaOf.{area_of, bond_by, bond_from, place_among}
use Rattle.area_graph.specs.Arcs.{arcs}
use Rattle.area_graph.specs.Bonds.{bonds, pairs, partner, singles, tells_pair}
use Rattle.area_graph.specs.Entries.{Entry}
use Rattle.mrt_graph.specs.NodeIds.{number_of, router as router_node}
use Rattle.area_graph.specs.Parts.{AreaParts}
use Rattle.mrt_graph.proofs.IdPlaces.{number_found, place_of_one}
use Rattle.mrt_island.specs.Eligible.{is_eligible, may_end}
use Rattle.mrt_island.specs.IslandOf.{IsIsland}
use Rattle.mrt_island.specs.Members.{Joins, nodes_of}
use Rattle.mrt_island.specs.Numbering.{flagged}
use Rattle.mrt_island.specs.Policy.{Policy, policy_of}
use Rattle.mrt_survey.specs.declared.made_link.MadeLink.{MadeLink}
use Rattle.mrt_survey.specs.MadeLinks.{chord_count, chord_link, drawn_from, made_links, ring_count, ring_link, spur_count, spur_link}
use Rattle.mrt_survey.specs.MadeLsas.{made_lsas}
use Rattle.mrt_survey.proofs.MadeArea.{made_count, made_nodes}
use Rattle.mrt_survey.proofs.MadeBounds.{all_range, mod_small}
use Rattle.mrt_survey.proofs.MadeMetrics.{bond_transit, low_arcs}
use Rattle.mrt_survey.proofs.MadePairs.{HasPair, has_either, link_pairs}

-- what the profile without a line says
abbrev empty : Policy
empty = policy_of []

step_then : (step : ℕ → ℕ → Type 0) (s u t : ℕ) → step s u → Reachable step u t → Reachable step s t
step_then step s u t one rest = (u ∷ rest.0, (one, rest.1))

join_by : (step : ℕ → ℕ → Type 0) (path : List ℕ) (s u t : ℕ) → Path step s path u → Reachable step u t → Reachable step s t
join_by step [] s u t front back = subst (λ (x : ℕ). Reachable step x t) (sym front) back
join_by step (v ∷ vs) s u t front back = step_then step s v t front.0 (join_by step vs v u t front.1 back)

join : (step : ℕ → ℕ → Type 0) (s u t : ℕ) → Reachable step s u → Reachable step u t → Reachable step s t
join step s u t front back = join_by step front.0 s u t front.1 back

one_step : (step : ℕ → ℕ → Type 0) (s t : ℕ) → step s t → Reachable step s t
one_step step s t one = (t ∷ [], (one, refl))

has_range : (from n v : ℕ) → from ≤ v → v < from + n → Has (range_with_len from n) v
has_range from zero v least most = absurd (omega (arith, least, most))
has_range from (suc n) v least most = elim (cases_order from v) [
  | inl same ↦ inl same
  | inr apart ↦ inr (elim apart [
    | inl below ↦ has_range (from + 1) n v (omega (arith, below)) (omega (arith, most))
    | inr above ↦ absurd (omega (arith, above, least))
  ])
]

-- a bond with a partner is a pair of the two nodes
record IsPairOf (ids : List NodeId) (arc : Entry) (bond : Bond) : Type 0 where
  paired : bond.paired ≡ true
  lower : bond.a ≡ place_among ids arc.from
  upper : bond.b ≡ place_among ids arc.to

pair_bond : (ids : List NodeId) (arc : Entry) (o : Option Entry) → is_some o ≡ true → IsPairOf ids arc (bond_by ids arc o)
pair_bond ids arc None some = cc
pair_bond ids arc (Some other) some = record { paired = refl; lower = refl; upper = refl }

may : (ids : List NodeId) (i v link_data : ℕ) → slice_get ids i ≡ Some (router_node v) → may_end empty ids i link_data ≡ true
may ids i v link_data at = rw at refl

router_below : (a b : ℕ) → a < b → node_id_cmp (router_node a) (router_node b) ≡ Less
router_below a b below = let less : Less ≡ nat_cmp a b = nat_cmp_is a b Less below in rw (← less) refl

routers_ascend : (from n : ℕ) → IsStrictlySortedBy node_id_cmp (map router_node (range_with_len from n))
unfolding IsStrictlySortedBy
routers_ascend from zero = tt
routers_ascend from (suc n) = (
  all_map (λ (y : NodeId). node_id_cmp (router_node from) y ≡ Less) router_node (range_with_len (from + 1) n)
      (all_range (λ v. node_id_cmp (router_node from) (router_node v) ≡ Less) (from + 1) n (λ v least _. router_below from v (omega (arith, least)))),
  routers_ascend (from + 1) n,
)

-- the routers ascend
ids_ascend : (number nodes : ℕ) → IsStrictlySortedBy node_id_cmp (area_of (made_lsas number nodes)).ids
ids_ascend number nodes = subst (λ (ids : List NodeId). IsStrictlySortedBy node_id_cmp ids) (sym (made_nodes number nodes)) (routers_ascend 1 nodes)

module _ (number nodes : ℕ) (some : 4 ≤ nodes) where
  abbrev area : AreaParts
  area = area_of (made_lsas number nodes)

  abbrev Step : ℕ → ℕ → Type 0
  Step = Joins empty area

  router_number : (i : ℕ) → i < nodes → number_of area.ids (router_node (i + 1)) ≡ Some i
  router_number i within =
      let count = made_count number nodes in
      place_of_one area.ids i (router_node (i + 1)) (ids_ascend number nodes) (omega (arith, within, count))
      (ap (λ (ids : List NodeId). get_or ids i (router_node (i + 1))) (made_nodes number nodes)
      ∙ get_or-map-range_with_len router_node 1 nodes i (i + 1) (router_node (i + 1)) within (omega arith))

  router_there : (i : ℕ) → i < nodes → slice_get area.ids i ≡ Some (router_node (i + 1))
  router_there i within = number_found area.ids (router_node (i + 1)) i (router_number i within)

  router_place : (i : ℕ) (id : NodeId) → i < nodes → id ≡ router_node (i + 1) → place_among area.ids id ≡ i
  router_place i id within is = ap (place_among area.ids) is ∙ (rw (router_number i within) refl)

  -- a pair joins its two nodes, the lower one first
  pair_joins : (i j : ℕ) → i < j → j < nodes → HasPair (arcs (made_lsas number nodes)) (i + 1) (j + 1) → Step i j × Step j i
  pair_joins i j lower within pair =
      let all = arcs (made_lsas number nodes) in
      let arc = pair.way.entry in
      let less : Less ≡ nat_cmp (i + 1) (j + 1) = nat_cmp_is (i + 1) (j + 1) Less (omega (arith, lower)) in
      let by_ids : is_lt (node_id_cmp (router_node (i + 1)) (router_node (j + 1))) ≡ true = rw (← less) refl in
      let up : is_lt (node_id_cmp arc.from arc.to) ≡ true =
      ap (λ (id : NodeId). is_lt (node_id_cmp id arc.to)) pair.way.from
      ∙ ap (λ (id : NodeId). is_lt (node_id_cmp (router_node (i + 1)) id)) pair.way.to ∙ by_ids in
      let tells : tells_pair all arc ≡ true = and_from (is_lt (node_id_cmp arc.from arc.to)) _ up pair.paired in
      let listed : Has (bonds all) arc = has_either (pairs all) (singles all) arc (inl (filter_has (tells_pair all) all arc pair.way.there tells)) in
      let bond = bond_from area.ids all arc in
      let there : Has area.bonds bond = has_map (bond_from area.ids all) (bonds all) arc listed in
      let place = place_of area.bonds bond (contains_from_has area.bonds bond there) in
      let is = pair_bond area.ids arc (partner all arc) pair.paired in
      let a : bond.a ≡ i = is.lower ∙ router_place i arc.from (omega (arith, lower, within)) pair.way.from in
      let b : bond.b ≡ j = is.upper ∙ router_place j arc.to within pair.way.to in
      let low : slice_get area.ids bond.a ≡ Some (router_node (i + 1)) = ap (slice_get area.ids) a ∙ router_there i (omega (arith, lower, within)) in
      let high : slice_get area.ids bond.b ≡ Some (router_node (j + 1)) = ap (slice_get area.ids) b ∙ router_there j within in
      let eligible : is_eligible empty area.ids bond ≡ true =
      and_from bond.paired _ is.paired
      (and_from (may_end empty area.ids bond.a bond.data_a && may_end empty area.ids bond.b bond.data_b) _
      (and_from (may_end empty area.ids bond.a bond.data_a) _ (may area.ids bond.a (i + 1) bond.data_a low) (may area.ids bond.b (j + 1) bond.data_b high))
      (bond_transit area.ids all arc (low_arcs number nodes some) pair.way.there)) in
      let onward : far_node i (nodes_of bond) ≡ Some j = rw (eq-eqb bond.a i a) (ap (λ (k : ℕ). Some k) b) in
      let backward : far_node j (nodes_of bond) ≡ Some i =
      rw (ne_eqb bond.a j (λ same. omega (arith, same, a, lower)), eq-eqb bond.b j b) (ap (λ (k : ℕ). Some k) a) in (
        record { number = place.0; bond = bond; there = place.1; eligible = eligible; leads = onward },
        record { number = place.0; bond = bond; there = place.1; eligible = eligible; leads = backward },
      )

  -- a link of the network joins its two routers
  link_joins : (link : MadeLink) (i j : ℕ) → Has (made_links number nodes) link → link.first ≡ i + 1 → link.second ≡ j + 1 → i < nodes → j < nodes → i ≢ j
      → Step i j × Step j i
  link_joins link i j has first second i_within j_within differ =
      let both = link_pairs number nodes some link has in
      elim (cases_order i j) [
        | inl same ↦ absurd (differ same)
        | inr apart ↦ elim apart [
          | inl below ↦
              pair_joins i j below j_within
              (subst (λ (v : ℕ). HasPair (arcs (made_lsas number nodes)) v (j + 1)) first
              (subst (λ (v : ℕ). HasPair (arcs (made_lsas number nodes)) link.first v) second both.0))
          | inr above ↦
              let steps =
              pair_joins j i above i_within
              (subst (λ (v : ℕ). HasPair (arcs (made_lsas number nodes)) v (i + 1)) second
              (subst (λ (v : ℕ). HasPair (arcs (made_lsas number nodes)) link.second v) first both.1)) in
              (steps.1, steps.0)
        ]
      ]

  abbrev ring : ℕ
  ring = ring_count nodes

  abbrev one : ℕ → ℕ
  one = drawn_from number 0

  abbrev three : ℕ → ℕ
  three = drawn_from number (2 * ring + 3 * chord_count nodes)

  abbrev rings : List MadeLink
  rings = map (ring_link ring one) (range_with_len 0 ring)

  abbrev chords : List MadeLink
  chords = map (chord_link ring (drawn_from number (2 * ring))) (range_with_len 0 (chord_count nodes))

  abbrev spurs : List MadeLink
  spurs = map (spur_link number ring three) (range_with_len 0 (spur_count nodes))

  ring_has : (i : ℕ) → i < ring → Has (made_links number nodes) (ring_link ring one i)
  ring_has i within =
      has_either rings (chords ++ spurs) (ring_link ring one i)
      (inl (has_map (ring_link ring one) (range_with_len 0 ring) i (has_range 0 ring i (omega arith) (omega (arith, within)))))

  spur_has : (j : ℕ) → j < spur_count nodes → Has (made_links number nodes) (spur_link number ring three j)
  spur_has j within =
      has_either rings (chords ++ spurs) (spur_link number ring three j)
      (inr (has_either chords spurs (spur_link number ring three j)
      (inr (has_map (spur_link number ring three) (range_with_len 0 (spur_count nodes)) j (has_range 0 (spur_count nodes) j (omega arith) (omega (arith, within)))))))

  ring_joins : (i : ℕ) → i + 1 < ring → Step i (i + 1) × Step (i + 1) i
  ring_joins i within =
      let next = mod_small (i + 1) ring within in
      link_joins (ring_link ring one i) i (i + 1) (ring_has i (omega (arith, within))) refl (ap (λ (k : ℕ). k + 1) next)
      (omega (arith, within)) (omega (arith, within)) (λ same. omega (arith, same))

  -- on the ring
  ring_ways : (i : ℕ) → i < ring → Reachable Step 0 i × Reachable Step i 0
  ring_ways zero within = (([], refl), ([], refl))
  ring_ways (suc i) within =
      let e : i + 1 ≡ suc i = omega arith in
      let steps = subst (λ (k : ℕ). Step i k × Step k i) e (ring_joins i (omega (arith, within))) in
      let before = ring_ways i (omega (arith, within)) in
      (join Step 0 i (suc i) before.0 (one_step Step i (suc i) steps.0), step_then Step (suc i) i 0 steps.1 before.1)

  -- and beside it
  ways : (i : ℕ) → i < nodes → Reachable Step 0 i × Reachable Step i 0
  ways i within = elim (cases_order i ring) [
    | inl same ↦ beside (omega (arith, same))
    | inr apart ↦ elim apart [
      | inl below ↦ ring_ways i below
      | inr above ↦ beside (omega (arith, above))
    ]
  ]
    where
      beside : ring ≤ i → Reachable Step 0 i × Reachable Step i 0
      beside past =
          let j = i - ring in
          let far = (3 * j + number) % ring in
          let below = mod_below (3 * j + number) ring (omega (arith, some)) in
          let at : ring + 1 + j ≡ i + 1 = omega (arith, past) in
          let steps =
          link_joins (spur_link number ring three j) i far (spur_has j (omega (arith, within, past))) at refl within
          (omega (arith, below)) (λ same. omega (arith, same, below, past)) in
          let there = ring_ways far below in
          (join Step 0 far i there.0 (one_step Step far i steps.1), step_then Step i far 0 steps.0 there.1)

  flagged_whole : {X : Type 0} (flags : List Bool) (xs : List X) → length flags ≡ length xs → ((s : ℕ) → s < length flags → IsMarked flags s) → flagged flags xs ≡ xs
  flagged_whole [] [] same all = refl
  flagged_whole [] (x ∷ xs) same all = absurd (omega (arith, same))
  flagged_whole (flag ∷ flags) [] same all = absurd (omega (arith, same))
  flagged_whole {X = X} (flag ∷ flags) (x ∷ xs) same all =
      rw (all 0 (omega arith)) (ap (λ (ys : List X). x ∷ ys) (flagged_whole flags xs (omega (arith, same)) (λ s within. all (suc s) (omega (arith, within)))))

  -- an island holds all routers
  pub island_whole : (router : ℕ) (g : Topology) (root : ℕ) (link_of : List (Option ℕ)) → IsIsland empty area router g root link_of
      → g.ids ≡ map router_node (range_with_len 1 nodes)
  island_whole router g root link_of is =
      let count = made_count number nodes in
      let start_within : is.those.start < nodes = omega (arith, slice_get_within area.ids is.those.start (router_node router) is.those.there, count) in
      is.made.same_ids
      ∙ flagged_whole is.inside area.ids is.those.one_each
      (λ s within. (is.those.those s).1
      (join Step is.those.start 0 s (ways is.those.start start_within).1 (ways s (omega (arith, within, is.those.one_each, count))).0))
      ∙ made_nodes number nodes
