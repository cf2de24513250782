-- Speakers that are sorted by node, and of one node by the greatest advertising router first, are those that speak,
-- once the later ones of each node are left out.
use Rattle.std.proofs.Common.{◌≡◌, ◌∙◌, ◌<◌, ◌&&◌, ◌==◌, ℕ, Bool, true, false, not, cond, ltb, List, [], ◌∷◌, length, get_or, map, refl, sym, ap, subst, inl, inr, arith}
use Rattle.std.specs.declared.cmp.Ordering.{Ordering}
use Rattle.std.specs.declared.cmp.Ordering.TheVariants.{Less, Equal, Greater}
use Rattle.std.specs.List.{AllByRecursion, AllPairs, AllZip, IsDistinct, filter, dedup}
use Rattle.std.specs.List.Sorted.{IsSorted, IsPermutation, IsStrictlySortedBy}
use Rattle.std.specs.Ordering.{is_eq, nat_cmp, on, eq_by_cmp, ordering_then}
use Rattle.std.proofs.lemmas.Bool.{eqb-true, eq-eqb, and_from, false_from_ne_true}
use Rattle.std.proofs.lemmas.Cmp.{on_total}
use Rattle.std.proofs.lemmas.List.{get_or-map, length-map}
use Rattle.std.proofs.lemmas.List.Elements.{All-from_recursion}
use Rattle.std.proofs.lemmas.List.Kept.{AllPairs-filter}
use Rattle.std.proofs.lemmas.Map.Keys.{apart_from_distinct, IsDistinct-from_apart}
use Rattle.mrt_graph.specs.NodeOrder.{rank_of, node_id_cmp}
use Rattle.mrt_graph.specs.declared.node_id.NodeId.{NodeId}
use Rattle.mrt_graph.specs.InOrder.{in_order}
use Rattle.mrt_graph.specs.SameGraph.{same_id}
use Rattle.mrt_graph.proofs.NodeIds.{node_id_total}
use Rattle.ospf_lsa.specs.declared.lsa.Lsa.{Lsa}
use Rattle.lsdb.specs.Installing.{IsKept}
use Rattle.lsdb.specs.Keys.{key_of, same_key, AreDistinct}
use Rattle.ospf_lsa.specs.MaxAge.{is_at_max_age}
use Rattle.lsdb.specs.declared.key.Key.{Key}
use Rattle.area_graph.specs.Nodes.{node_of, live, is_above, speaks, speakers, nodes}
use Rattle.mrt_graph.specs.NodeIds.{router, network}
use Rattle.area_graph.specs.steps.Speaking.{IsSpeakerOf}
use Rattle.area_graph.specs.declared.speaker.Speaker.{Speaker}
use Rattle.area_graph.proofs.Alongside.{zip_any, zip_filter, zip_map, zip_in_order, zip_distinct}
use Rattle.area_graph.proofs.Foremost.{is_over, none_over, greatest_first, AreForemost, foremost}
use Rattle.mrt_graph.proofs.SameIds.{one_node, ties_are_same, equal_numbers}

-- ---- LSAs that may stand in a database

-- the node of an LSA of that LS type and link state ID
abbrev pub node_by : ℕ → ℕ → NodeId
node_by kind id = cond (kind == 1) (router id) (network id)

pub of_router : (lsa : Lsa) → lsa.kind ≡ 1 → node_of lsa ≡ router lsa.id
of_router lsa is = ap (λ (kind : ℕ). node_by kind lsa.id) is

pub of_network : (lsa : Lsa) → lsa.kind ≡ 2 → node_of lsa ≡ network lsa.id
of_network lsa is = ap (λ (kind : ℕ). node_by kind lsa.id) is

router_is_no_network : (m n : ℕ) → router m ≡ network n → ⊥
router_is_no_network m n is =
    let ranks : 0 ≡ 1 = ap (λ (id : NodeId). rank_of id.kind) is in omega (arith, ranks)

-- LSAs of one node have one LS type
pub one_kind : (one other : Lsa) → IsKept one → IsKept other → node_of one ≡ node_of other → one.kind ≡ other.kind
one_kind one other kept kept' same =
    elim kept.type [
      | inl is ↦
          elim kept'.type [
            | inl is' ↦ is ∙ sym is'
            | inr is' ↦ absurd (router_is_no_network one.id other.id (sym (of_router one is) ∙ same ∙ of_network other is'))
          ]
      | inr is ↦
          elim kept'.type [
            | inl is' ↦ absurd (router_is_no_network other.id one.id (sym (of_router other is') ∙ sym same ∙ of_network one is))
            | inr is' ↦ is ∙ sym is'
          ]
    ]

number_by : (b : Bool) (id : ℕ) → (cond b (router id) (network id)).number ≡ id
number_by true id = refl
number_by false id = refl

pub number_of_node : (kind id : ℕ) → (node_by kind id).number ≡ id
number_of_node kind id = number_by (kind == 1) id

pub one_id : (one other : Lsa) → node_of one ≡ node_of other → one.id ≡ other.id
one_id one other same = sym (number_of_node one.kind one.id) ∙ ap (λ (n : NodeId). n.number) same ∙ number_of_node other.kind other.id

-- LSAs of one node and one advertising router have one key
one_key : (one other : Lsa) → IsKept one → IsKept other → node_of one ≡ node_of other → one.router ≡ other.router → same_key (key_of one) (key_of other) ≡ true
one_key one other kept kept' same same_router =
    and_from _ _ (eq-eqb one.kind other.kind (one_kind one other kept kept' same))
    (and_from _ _ (eq-eqb one.id other.id (one_id one other same)) (eq-eqb one.router other.router same_router))

-- ---- live LSAs differ in node or advertising router

abbrev pub by_node : Lsa → Lsa → Ordering
by_node = on node_of node_id_cmp

abbrev pub by_id : Speaker → Speaker → Ordering
by_id = on (λ speaker. speaker.id) node_id_cmp

abbrev pub lsa_cmp : Lsa → Lsa → Ordering
lsa_cmp = greatest_first by_node (λ lsa. lsa.router)

abbrev pub speaker_cmp : Speaker → Speaker → Ordering
speaker_cmp = greatest_first by_id (λ speaker. speaker.router)

tie_parts : (o : Ordering) (m n : ℕ) → is_eq (ordering_then o (nat_cmp m n)) ≡ true → (is_eq o ≡ true) × (m ≡ n)
tie_parts Less m n tie = absurd cc
tie_parts Equal m n tie = (refl, eqb-true m n (sym (equal_numbers m n) ∙ tie))
tie_parts Greater m n tie = absurd cc

apart_by_keys : (one other : Lsa) → IsKept one → IsKept other → same_key (key_of one) (key_of other) ≡ false → eq_by_cmp lsa_cmp one other ≡ false
apart_by_keys one other kept kept' differ =
    false_from_ne_true (eq_by_cmp lsa_cmp one other) (λ tie.
    let parts = tie_parts (by_node one other) other.router one.router tie in
    let same = one_node (node_of one) (node_of other) (sym (ties_are_same (node_of one) (node_of other)) ∙ parts.0) in
    let told = one_key one other kept kept' same (sym parts.1) in cc)

pub live_differ : (lsas : List Lsa) → AllByRecursion IsKept lsas → AreDistinct lsas → IsDistinct (eq_by_cmp lsa_cmp) (live lsas)
live_differ lsas kept distinct =
    let all = All-from_recursion IsKept lsas kept in
    let R : Lsa → Lsa → Type 0 = λ one other. eq_by_cmp lsa_cmp one other ≡ false in
    let pairs : AllPairs R lsas = λ i j d before within.
    let within_keys : j < length (map key_of lsas) = omega (arith, length-map lsas key_of, within) in
    let at_i = get_or-map key_of lsas i d (key_of d) (omega (arith, before, within)) in
    let at_j = get_or-map key_of lsas j d (key_of d) within in
    let differ : same_key (key_of (get_or lsas i d)) (key_of (get_or lsas j d)) ≡ false =
    subst (λ (k : Key). same_key k (key_of (get_or lsas j d)) ≡ false) at_i
    (subst (λ (k : Key). same_key (get_or (map key_of lsas) i (key_of d)) k ≡ false) at_j
    (apart_from_distinct same_key (map key_of lsas) i j (key_of d) distinct before within_keys)) in
    apart_by_keys (get_or lsas i d) (get_or lsas j d) (all i d (omega (arith, before, within))) (all j d within) differ in
    IsDistinct-from_apart (eq_by_cmp lsa_cmp) (live lsas) (AllPairs-filter R (λ lsa. not (is_at_max_age lsa)) lsas pairs)

-- ---- speakers and their LSAs

module _ (lsas : List Lsa) where
  ids_as_nodes : (s t : Speaker) (a b : Lsa) → IsSpeakerOf lsas s a → IsSpeakerOf lsas t b → by_id s t ≡ by_node a b
  ids_as_nodes s t a b one other = ap (λ (id : NodeId). node_id_cmp id t.id) one.id ∙ ap (node_id_cmp (node_of a)) other.id

  both_as : (s t : Speaker) (a b : Lsa) → IsSpeakerOf lsas s a → IsSpeakerOf lsas t b → speaker_cmp s t ≡ lsa_cmp a b
  both_as s t a b one other =
      ap (λ (o : Ordering). ordering_then o (nat_cmp t.router s.router)) (ids_as_nodes s t a b one other)
      ∙ ap (λ (n : ℕ). ordering_then (by_node a b) (nat_cmp n s.router)) other.router ∙ ap (λ (n : ℕ). ordering_then (by_node a b) (nat_cmp b.router n)) one.router

  over_as_above : (s t : Speaker) (a b : Lsa) → IsSpeakerOf lsas s a → IsSpeakerOf lsas t b → is_over by_id (λ x. x.router) s t ≡ is_above a b
  over_as_above s t a b one other =
      ap (λ (o : Ordering). is_eq o && ltb s.router t.router) (ids_as_nodes s t a b one other)
      ∙ ap (λ (c : Bool). c && ltb s.router t.router) (ties_are_same (node_of a) (node_of b))
      ∙ ap (λ (n : ℕ). same_id (node_of a) (node_of b) && ltb n t.router) one.router
      ∙ ap (λ (n : ℕ). same_id (node_of a) (node_of b) && ltb a.router n) other.router

  module _ (all : List Speaker) (zip : AllZip (IsSpeakerOf lsas) all (live lsas)) where
    free_as_speaks : (s : Speaker) (a : Lsa) → IsSpeakerOf lsas s a → none_over by_id (λ x. x.router) all s ≡ speaks (live lsas) a
    free_as_speaks s a one =
        ap not (zip_any (IsSpeakerOf lsas) (is_over by_id (λ x. x.router) s) (is_above a) (λ t b other. over_as_above s t a b one other) all (live lsas) zip)

    speakers_zip : AllZip (IsSpeakerOf lsas) (in_order by_id (filter (none_over by_id (λ x. x.router) all) all)) (speakers lsas)
    speakers_zip =
        zip_in_order (IsSpeakerOf lsas) by_id by_node ids_as_nodes (filter (none_over by_id (λ x. x.router) all) all) (filter (speaks (live lsas)) (live lsas))
        (zip_filter (IsSpeakerOf lsas) (none_over by_id (λ x. x.router) all) (speaks (live lsas)) free_as_speaks all (live lsas) zip)

    nobody : Speaker
    nobody = record { id = router 0; router = 0; at = 0 }

    -- what the sorted speakers are without the later ones of each node
    pub found : AllByRecursion IsKept lsas → AreDistinct lsas → (sorted : List Speaker) → IsPermutation all sorted → IsSorted speaker_cmp sorted
        → AreForemost by_id (λ x. x.router) (on_total (λ (x : Speaker). x.id) node_id_total) all sorted
    found kept distinct sorted moves ascend =
        foremost by_id (λ x. x.router) (on_total (λ (x : Speaker). x.id) node_id_total) all sorted nobody
        (zip_distinct (IsSpeakerOf lsas) (eq_by_cmp speaker_cmp) (eq_by_cmp lsa_cmp) (λ s t a b one other. ap is_eq (both_as s t a b one other)) all (live lsas) zip
        (live_differ lsas kept distinct))
        moves ascend

    pub found_speak : AllByRecursion IsKept lsas → AreDistinct lsas → (sorted : List Speaker) → IsPermutation all sorted → IsSorted speaker_cmp sorted
        → AllZip (IsSpeakerOf lsas) (dedup (eq_by_cmp by_id) sorted) (speakers lsas)
    found_speak kept distinct sorted moves ascend =
        subst (λ (xs : List Speaker). AllZip (IsSpeakerOf lsas) xs (speakers lsas)) (sym (found kept distinct sorted moves ascend).are) speakers_zip

-- ---- identifiers

below_map : (x : Speaker) (xs : List Speaker) → AllByRecursion (λ y. by_id x y ≡ Less) xs → AllByRecursion (λ id. node_id_cmp x.id id ≡ Less) (map (λ s. s.id) xs)
below_map x [] below = tt
below_map x (y ∷ ys) below = (below.0, below_map x ys below.1)

pub ids_ascend : (xs : List Speaker) → IsStrictlySortedBy by_id xs → IsStrictlySortedBy node_id_cmp (map (λ s. s.id) xs)
unfolding IsStrictlySortedBy
ids_ascend [] ascend = tt
ids_ascend (x ∷ xs) ascend = (below_map x xs ascend.0, ids_ascend xs ascend.1)

pub ids_are_nodes : (lsas : List Lsa) (xs : List Speaker) → AllZip (IsSpeakerOf lsas) xs (speakers lsas) → map (λ s. s.id) xs ≡ nodes lsas
ids_are_nodes lsas xs zip = zip_map (IsSpeakerOf lsas) (λ s. s.id) node_of (λ s a one. one.id) xs (speakers lsas) zip
