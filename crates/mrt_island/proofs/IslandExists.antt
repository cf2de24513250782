-- A router of an area that supports the profile has an island.
use Rattle.std.proofs.Common.{◌≡◌, ◌⊎◌, ◌↔◌, ◌∙◌, ◌<◌, ◌≤◌, ◌+◌, ◌==◌, ℕ, zero, suc, Bool, true, false, List, [], ◌∷◌, Option, Some, None, get_or, length, map, slice_get, inl, inr, refl, sym, ap, subst, arith}
use Rattle.std.specs.Prelude.{Contains, slice_index_or}
use Rattle.std.specs.List.{list_any, range_with_len}
use Rattle.std.proofs.lemmas.Bool.{cases_Bool, cases_eq, cases_lt, eq-eqb, eqb-true}
use Rattle.std.proofs.lemmas.List.{get_or_past}
use Rattle.std.proofs.lemmas.List.FromFn.{get_or-map-range_with_len, get_or-range_with_len, length-map-range_with_len, length-range_with_len}
use Rattle.std.proofs.lemmas.Option.{same_Some, slice_get-get_or, slice_get_within}
use Rattle.mrt_graph.specs.Leads.{far_node}
use Rattle.mrt_graph.specs.NodeIds.{router as router_node}
use Rattle.mrt_graph.specs.Reachable.{Reachable}
use Rattle.mrt_graph.specs.Search.{IsMarked}
use Rattle.mrt_graph.specs.Topology.{Topology}
use Rattle.mrt_graph.specs.declared.node_id.Kind.{Kind}
use Rattle.mrt_graph.specs.declared.node_id.Kind.TheVariants as kinds
use Rattle.mrt_graph.specs.declared.node_id.NodeId.{NodeId}
use Rattle.mrt_graph.proofs.ListPlaces.{place_of}
use Rattle.mrt_graph.proofs.ListTests.{all_at, there}
use Rattle.mrt_graph.proofs.Members.{Has, contains_from_has, has_at}
use Rattle.mrt_graph.proofs.OneGraph.{graph_exists}
use Rattle.mrt_graph.proofs.Settled.{reachable_onward, settled_is_reachable}
use Rattle.area_graph.specs.AreaInvariant.{IsArea, IsBond}
use Rattle.area_graph.specs.Parts.{AreaParts}
use Rattle.area_graph.specs.declared.area_types.Bond.{Bond}
use Rattle.mrt_island.specs.Eligible.{is_eligible}
use Rattle.mrt_island.specs.IslandOf.{IsIsland}
use Rattle.mrt_island.specs.Members.{IsInside, Joins, nodes_of}
use Rattle.mrt_island.specs.Numbering.{ids_of, links_of}
use Rattle.mrt_island.specs.Policy.{Policy}
use Rattle.mrt_island.specs.steps.Rooting.{HasRouter}
use Rattle.mrt_island.specs.Rooting.{IsChosenBefore, IsRoot}
use Rattle.mrt_island.proofs.GraphOfIsland.{has_router}
use Rattle.mrt_island.proofs.LinkNumbers.{link_numbers, links_numbered}
use Rattle.mrt_island.proofs.Telling.{far_cases}

-- something is so, or it is not
abbrev Decided : Type 0 → Type 0
Decided P = P ⊎ (P → ⊥)

-- it holds of one of a list, or of none
some_or_none : {X : Type 0} (P : X → Type 0) → ((x : X) → Decided (P x)) → (xs : List X)
    → ((x : X) × Has xs x × P x) ⊎ ((x : X) → Has xs x → P x → ⊥)
some_or_none P decide [] = inr (λ x has. absurd has)
some_or_none {X} P decide (x ∷ xs) = elim (decide x) [
  | inl holds ↦ inl (x, inl refl, holds)
  | inr not ↦ elim (some_or_none P decide xs) [
    | inl later ↦ inl (later.0, inr later.1, later.2)
    | inr none ↦ inr (λ y has holds. elim has [
      | inl same ↦ not (subst P (sym same) holds)
      | inr later ↦ none y later holds
    ])
  ]
]

-- ---- which nodes a search from a node finds

-- a list without one of its members
drop_one : (v : ℕ) (xs : List ℕ) → Has xs v
    → (rest : List ℕ) × (length xs ≡ length rest + 1) × ((w : ℕ) → Has xs w → (w ≡ v) ⊎ Has rest w)
drop_one v [] has = absurd has
drop_one v (x ∷ xs) (inl same) = (xs, omega arith, λ w has. elim has [ inl is ↦ inl (sym is ∙ same) | inr later ↦ inr later ])
drop_one v (x ∷ xs) (inr later) =
    let more = drop_one v xs later in (
      x ∷ more.0,
      omega (arith, more.1),
      λ w has. elim has [
        | inl is ↦ inr (inl is)
        | inr there ↦ elim (more.2 w there) [ inl is ↦ inl is | inr rest ↦ inr (inr rest) ]
      ],
    )

-- each number stands at its own place among those below
place_in_range : (count k : ℕ) → k < count → slice_get (range_with_len 0 count) k ≡ Some k
place_in_range count k upper =
    let value : get_or (range_with_len 0 count) k 0 ≡ k = omega (arith, get_or-range_with_len 0 count k 0 upper) in
    slice_get-get_or (range_with_len 0 count) k 0 (omega (arith, upper, length-range_with_len 0 count)) ∙ ap (λ (x : ℕ). Some x) value

module _ (step : ℕ → ℕ → Type 0) (decide : (u v : ℕ) → Decided (step u v)) (n s : ℕ) (start : s < n)
    (within : (u v : ℕ) → step u v → v < n) where
  -- what was found so far, and what is left to look at
  record IsFound (found rest : List ℕ) : Type 0 where
    first : Has found s
    reached : (v : ℕ) → Has found v → Reachable step s v
    split : (v : ℕ) → v < n → Has found v ⊎ Has rest v

  -- what is found in the end
  record IsAllFound (found : List ℕ) : Type 0 where
    first : Has found s
    reached : (v : ℕ) → Has found v → Reachable step s v
    closed : (u v : ℕ) → Has found u → step u v → Has found v

  -- a step leads from one of the found ones
  abbrev IsNext : List ℕ → ℕ → Type 0
  IsNext found v = (u : ℕ) × Has found u × step u v

  next_or_not : (found : List ℕ) (v : ℕ) → Decided (IsNext found v)
  next_or_not found v = elim (some_or_none (λ u. step u v) (λ u. decide u v) found) [
    | inl one ↦ inl one
    | inr none ↦ inr (λ one. none one.0 one.1 one.2)
  ]

  ended : (found rest : List ℕ) → IsFound found rest → ((v : ℕ) → Has rest v → IsNext found v → ⊥) → IsAllFound found
  ended found rest is none = record {
    first = is.first;
    reached = is.reached;
    closed = λ u v has leads. elim (is.split v (within u v leads)) [
      | inl here ↦ here
      | inr left ↦ absurd (none v left (u, has, leads))
    ];
  }

  one_more : (found rest : List ℕ) → IsFound found rest → (v : ℕ) → IsNext found v → (left : List ℕ)
      → ((w : ℕ) → Has rest w → (w ≡ v) ⊎ Has left w) → IsFound (v ∷ found) left
  one_more found rest is v next left parts = record {
    first = inr is.first;
    reached = λ w has. elim has [
      | inl same ↦ subst (Reachable step s) same (reachable_onward step s next.0 v (is.reached next.0 next.1) next.2)
      | inr before ↦ is.reached w before
    ];
    split = λ w upper. elim (is.split w upper) [
      | inl before ↦ inl (inr before)
      | inr later ↦ elim (parts w later) [ inl same ↦ inl (inl (sym same)) | inr rest_has ↦ inr rest_has ]
    ];
  }

  search : (fuel : ℕ) (found rest : List ℕ) → length rest ≤ fuel → IsFound found rest → (all : List ℕ) × IsAllFound all
  search zero found rest few is = (found, ended found rest is (λ v has next. let one = drop_one v rest has in omega (arith, few, one.1)))
  search (suc fuel) found rest few is = elim (some_or_none (IsNext found) (next_or_not found) rest) [
    | inr none ↦ (found, ended found rest is none)
    | inl one ↦
        let parts = drop_one one.0 rest one.1 in
        search fuel (one.0 ∷ found) parts.0 (omega (arith, few, parts.1))
        (one_more found rest is one.0 one.2 parts.0 parts.2)
  ]

  begun : IsFound (s ∷ []) (range_with_len 0 n)
  begun = record {
    first = inl refl;
    reached = λ v has. elim has [ inl same ↦ ([], same) | inr none ↦ absurd none ];
    split = λ v upper. inr (has_at (range_with_len 0 n) v v (place_in_range n v upper));
  }

  all_found : (all : List ℕ) × IsAllFound all
  all_found = search n (s ∷ []) (range_with_len 0 n) (omega (arith, length-range_with_len 0 n)) begun

-- ---- flags

abbrev is_listed : List ℕ → ℕ → Bool
is_listed found v = list_any (λ w. w == v) found

listed_has : (found : List ℕ) (v : ℕ) → is_listed found v ≡ true → Has found v
listed_has [] v told = absurd cc
listed_has (x ∷ found) v told = elim (cases_Bool (x == v)) [
  | inl same ↦ inl (eqb-true x v same)
  | inr other ↦ inr (listed_has found v (rw other at told))
]

has_listed : (found : List ℕ) (v : ℕ) → Has found v → is_listed found v ≡ true
has_listed [] v has = absurd has
has_listed (x ∷ found) v has = elim (cases_Bool (x == v)) [
  | inl same ↦ rw same refl
  | inr other ↦ rw other (elim has [
    | inl is ↦ let clash : (x == v) ≡ true = eq-eqb x v is in absurd cc
    | inr later ↦ has_listed found v later
  ])
]

-- of each of so many nodes, whether it is listed
abbrev flags_of : ℕ → List ℕ → List Bool
flags_of n found = map (is_listed found) (range_with_len 0 n)

flag_at : (n : ℕ) (found : List ℕ) (v : ℕ) → v < n → slice_index_or (flags_of n found) v false ≡ is_listed found v
flag_at n found v upper = get_or-map-range_with_len (is_listed found) 0 n v v false upper (omega arith)

no_flag_past : (n : ℕ) (found : List ℕ) (v : ℕ) → n ≤ v → slice_index_or (flags_of n found) v false ≡ false
no_flag_past n found v past =
    get_or_past (flags_of n found) v false (omega (arith, past, length-map-range_with_len (is_listed found) 0 n))

marked_has : (n : ℕ) (found : List ℕ) (v : ℕ) → IsMarked (flags_of n found) v → Has found v
marked_has n found v marked = elim (cases_lt v n) [
  | inl upper ↦ listed_has found v (sym (flag_at n found v upper) ∙ marked)
  | inr past ↦ let none = no_flag_past n found v past in absurd cc
]

has_marked : (n : ℕ) (found : List ℕ) (v : ℕ) → v < n → Has found v → IsMarked (flags_of n found) v
has_marked n found v upper has = flag_at n found v upper ∙ has_listed found v has

-- flags of just those that steps reach
reached_flags : (step : ℕ → ℕ → Type 0) → ((u v : ℕ) → Decided (step u v)) → (n s : ℕ) → s < n → ((u v : ℕ) → step u v → v < n)
    → (inside : List Bool) × (length inside ≡ n) × ((v : ℕ) → IsMarked inside v ↔ Reachable step s v)
reached_flags step decide n s start within =
    let found = all_found step decide n s start within in
    let below = settled_is_reachable step s (λ v. Has found.0 v × (v < n)) (record {
      start = (found.1.first, start);
      closed = λ u v held leads. (found.1.closed u v held.0 leads, within u v leads);
      reached = λ v held. found.1.reached v held.0;
    }) in (
      flags_of n found.0,
      length-map-range_with_len (is_listed found.0) 0 n,
      λ v. (
        λ marked. found.1.reached v (marked_has n found.0 v marked),
        λ reaches. let held = (below v).1 reaches in has_marked n found.0 v held.1 held.0,
      ),
    )

-- ---- the nodes of an island

option_is : (o : Option ℕ) (v : ℕ) → Decided (o ≡ Some v)
option_is None v = inr (λ same. cc)
option_is (Some w) v = elim (cases_eq w v) [
  | inl same ↦ inl (ap (λ (x : ℕ). Some x) same)
  | inr other ↦ inr (λ same. other (same_Some w v same))
]

-- a bond joins two nodes
record JoinsBy (policy : Policy) (area : AreaParts) (u v : ℕ) (bond : Bond) : Type 0 where
  eligible : is_eligible policy area.ids bond ≡ true
  leads : far_node u (nodes_of bond) ≡ Some v

joins_by : (policy : Policy) (area : AreaParts) (u v : ℕ) (bond : Bond) → Decided (JoinsBy policy area u v bond)
joins_by policy area u v bond = elim (cases_Bool (is_eligible policy area.ids bond)) [
  | inl eligible ↦ elim (option_is (far_node u (nodes_of bond)) v) [
    | inl leads ↦ inl (record { eligible = eligible; leads = leads })
    | inr not ↦ inr (λ joins. not joins.leads)
  ]
  | inr not ↦ inr (λ joins. let eligible = joins.eligible in cc)
]

joins_or_not : (policy : Policy) (area : AreaParts) (u v : ℕ) → Decided (Joins policy area u v)
joins_or_not policy area u v = elim (some_or_none (JoinsBy policy area u v) (joins_by policy area u v) area.bonds) [
  | inl one ↦
      let place = place_of area.bonds one.0 (contains_from_has area.bonds one.0 one.1) in
      inl (record { number = place.0; bond = one.0; there = place.1; eligible = one.2.eligible; leads = one.2.leads })
  | inr none ↦ inr (λ joins. none joins.bond (has_at area.bonds joins.number joins.bond joins.there) (record { eligible = joins.eligible; leads = joins.leads }))
]

joins_within : (policy : Policy) (area : AreaParts) → IsArea area → (u v : ℕ) → Joins policy area u v → v < length area.ids
joins_within policy area kept u v joins =
    let bond : IsBond area.ids joins.bond = all_at (IsBond area.ids) area.bonds joins.number joins.bond kept.bonds_kept joins.there in
    elim (far_cases u joins.bond.a joins.bond.b v joins.leads) [
      | inl out ↦ subst (λ (w : ℕ). w < length area.ids) out.1 bond.b
      | inr home ↦ subst (λ (w : ℕ). w < length area.ids) home.1 bond.a
    ]

inside_exists : (policy : Policy) (area : AreaParts) (router : ℕ) → IsArea area → Contains area.ids (router_node router)
    → policy.supports router ≡ true → (inside : List Bool) × IsInside policy area router inside
inside_exists policy area router kept among supported =
    let place = place_of area.ids (router_node router) among in
    let flags = reached_flags (Joins policy area) (joins_or_not policy area) (length area.ids) place.0
    (slice_get_within area.ids place.0 (router_node router) place.1) (joins_within policy area kept) in (
      flags.0,
      record { start = place.0; there = place.1; supported = supported; one_each = flags.1; those = flags.2 },
    )

-- ---- its root

is_router : (kind : Kind) → Decided (kind ≡ kinds.Router)
is_router kinds.Router = inl refl
is_router kinds.Network = inr (λ same. cc)

-- one of two routers is chosen before the other
chosen_one : (policy : Policy) (a b : ℕ) → IsChosenBefore policy a b ⊎ IsChosenBefore policy b a
chosen_one policy a b = elim (cases_lt (policy.priority a) (policy.priority b)) [
  | inl below ↦ inl (inl below)
  | inr upto ↦ elim (cases_lt (policy.priority b) (policy.priority a)) [
    | inl above ↦ inr (inl above)
    | inr also ↦ elim (cases_lt a b) [
      | inl lower ↦ inr (inr (omega (arith, upto, also), omega (arith, lower)))
      | inr higher ↦ inl (inr (omega (arith, upto, also), higher))
    ]
  ]
]

chosen_through : (policy : Policy) (a b c : ℕ) → IsChosenBefore policy a b → IsChosenBefore policy b c → IsChosenBefore policy a c
chosen_through policy a b c (inl below) (inl further) = inl (omega (arith, below, further))
chosen_through policy a b c (inl below) (inr tie) = inl (omega (arith, below, tie.0))
chosen_through policy a b c (inr tie) (inl further) = inl (omega (arith, tie.0, further))
chosen_through policy a b c (inr tie) (inr also) = inr (omega (arith, tie.0, also.0), omega (arith, tie.1, also.1))

-- of the first so many nodes the router that is chosen before the others
record IsFirst (policy : Policy) (ids : List NodeId) (n : ℕ) : Type 0 where
  place : ℕ
  id : NodeId
  there : slice_get ids place ≡ Some id
  router : id.kind ≡ kinds.Router
  first : (k : ℕ) (other : NodeId) → k < n → slice_get ids k ≡ Some other → other.kind ≡ kinds.Router → IsChosenBefore policy id.number other.number

abbrev NoRouter : List NodeId → ℕ → Type 0
NoRouter ids n = (k : ℕ) (other : NodeId) → k < n → slice_get ids k ≡ Some other → other.kind ≡ kinds.Router → ⊥

-- what stands at the last place, or before it
at_last_or_before : (ids : List NodeId) (n k : ℕ) (last other : NodeId) → slice_get ids n ≡ Some last → k < n + 1 → slice_get ids k ≡ Some other
    → (k < n) ⊎ (last ≡ other)
at_last_or_before ids n k last other at early there = elim (cases_lt k n) [
  | inl before ↦ inl before
  | inr upto ↦
      let here : k ≡ n = omega (arith, early, upto) in
      inr (same_Some last other (sym at ∙ subst (λ (i : ℕ). slice_get ids i ≡ Some other) here there))
]

with_last : (policy : Policy) (ids : List NodeId) (n : ℕ) (last : NodeId) → slice_get ids n ≡ Some last
    → IsFirst policy ids n ⊎ NoRouter ids n → IsFirst policy ids (n + 1) ⊎ NoRouter ids (n + 1)
with_last policy ids n last at before = elim (is_router last.kind) [
  | inr network ↦ elim before [
    | inl one ↦ inl (record {
      place = one.place;
      id = one.id;
      there = one.there;
      router = one.router;
      first = λ k other early there router. elim (at_last_or_before ids n k last other at early there) [
        | inl sooner ↦ one.first k other sooner there router
        | inr same ↦ absurd (network (ap (λ (id : NodeId). id.kind) same ∙ router))
      ];
    })
    | inr none ↦ inr (λ k other early there router. elim (at_last_or_before ids n k last other at early there) [
      | inl sooner ↦ none k other sooner there router
      | inr same ↦ network (ap (λ (id : NodeId). id.kind) same ∙ router)
    ])
  ]
  | inl router ↦ elim before [
    | inr none ↦ inl (record {
      place = n;
      id = last;
      there = at;
      router = router;
      first = λ k other early there also. elim (at_last_or_before ids n k last other at early there) [
        | inl sooner ↦ absurd (none k other sooner there also)
        | inr same ↦ inr (ap (λ (id : NodeId). policy.priority id.number) same, omega (arith, ap (λ (id : NodeId). id.number) same))
      ];
    })
    | inl one ↦ elim (chosen_one policy one.id.number last.number) [
      | inl stays ↦ inl (record {
        place = one.place;
        id = one.id;
        there = one.there;
        router = one.router;
        first = λ k other early there also. elim (at_last_or_before ids n k last other at early there) [
          | inl sooner ↦ one.first k other sooner there also
          | inr same ↦ subst (λ (id : NodeId). IsChosenBefore policy one.id.number id.number) same stays
        ];
      })
      | inr gives_way ↦ inl (record {
        place = n;
        id = last;
        there = at;
        router = router;
        first = λ k other early there also. elim (at_last_or_before ids n k last other at early there) [
          | inl sooner ↦ chosen_through policy last.number one.id.number other.number gives_way (one.first k other sooner there also)
          | inr same ↦ inr (ap (λ (id : NodeId). policy.priority id.number) same, omega (arith, ap (λ (id : NodeId). id.number) same))
        ];
      })
    ]
  ]
]

first_of : (policy : Policy) (ids : List NodeId) (n : ℕ) → n ≤ length ids → IsFirst policy ids n ⊎ NoRouter ids n
first_of policy ids zero upto = inr (λ k other early there router. omega (arith, early))
first_of policy ids (suc n) upto =
    let last = there ids n (omega (arith, upto)) in
    let more : n + 1 ≡ suc n = omega arith in
    subst (λ (m : ℕ). IsFirst policy ids m ⊎ NoRouter ids m) more
    (with_last policy ids n last.0 last.1 (first_of policy ids n (omega (arith, upto))))

root_exists : (policy : Policy) (ids : List NodeId) → HasRouter ids → (root : ℕ) × IsRoot policy ids root
root_exists policy ids has = elim (first_of policy ids (length ids) (omega arith)) [
  | inl one ↦ (
    one.place,
    record {
      id = one.id;
      there = one.there;
      router = one.router;
      first = λ k other at router. one.first k other (slice_get_within ids k other at) at router;
    },
  )
  | inr none ↦ absurd (none has.place has.id (slice_get_within ids has.place has.id has.there) has.there has.router)
]

-- ---- its island

pub island_exists : (policy : Policy) (area : AreaParts) (router : ℕ) → IsArea area → Contains area.ids (router_node router)
    → policy.supports router ≡ true
    → (graph : Topology) × (root : ℕ) × (link_of : List (Option ℕ)) × IsIsland policy area router graph root link_of
island_exists policy area router kept among supported =
    let inside = inside_exists policy area router kept among supported in
    let graph = graph_exists (ids_of area inside.0) (links_of policy area inside.0) in
    let root = root_exists policy (ids_of area inside.0) (has_router policy area router inside.0 inside.1) in (
      graph.0,
      root.0,
      link_numbers policy area inside.0,
      record { inside = inside.0; those = inside.1; made = graph.1; rooted = root.1; numbered = links_numbered policy area inside.0 },
    )
