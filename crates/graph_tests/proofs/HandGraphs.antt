-- Parts of a graph of routers and then networks, numbered from 1 on, whose links have a router as their lower node.
use Rattle.std.proofs.Common.{◌≡◌, ◌∙◌, ◌<◌, ◌≤◌, ◌+◌, ℕ, suc, false, List, [], ◌∷◌, Some, length, map, get_or, slice_get, refl, sym, ap, subst, arith}
use Rattle.std.specs.Prelude.{nat_lt, if◌then◌else◌}
use Rattle.std.specs.declared.cmp.Ordering.TheVariants.{Less}
use Rattle.std.specs.List.{All, AllByRecursion}
use Rattle.std.specs.List.Sorted.{IsSorted, IsStrictlySortedBy}
use Rattle.std.specs.Option.{option_map}
use Rattle.std.specs.Ordering.{is_lt}
use Rattle.std.proofs.lemmas.Bool.{lt-ltb}
use Rattle.std.proofs.lemmas.List.{get_or-map, length-map}
use Rattle.std.proofs.lemmas.List.Elements.{recursion_from_All}
use Rattle.std.proofs.lemmas.Option.{slice_get-get_or}
use Rattle.mrt_graph.specs.declared.link.LinkIn.{LinkIn}
use Rattle.mrt_graph.specs.declared.node_id.Kind.TheVariants.{Network, Router}
use Rattle.mrt_graph.specs.declared.node_id.NodeId.{NodeId}
use Rattle.mrt_graph.specs.Connected.{IsConnected}
use Rattle.mrt_graph.specs.steps.EndRows.{IsWithin}
use Rattle.mrt_graph.specs.EndsOfLinks.{pair_of}
use Rattle.mrt_graph.specs.GraphInvariant.{IsLink, IsNetwork}
use Rattle.mrt_graph.specs.NewGraph.{AreGraphParts, pair_cmp}
use Rattle.mrt_graph.specs.NodeOrder.{node_id_cmp}

-- the identifier of node k
abbrev id_at : ℕ → ℕ → NodeId
id_at routers k = record { kind = if nat_lt k routers then Router else Network; number = k + 1 }

-- these are the identifiers from node number `from` on
record AreIds (routers from : ℕ) (ids : List NodeId) : Type 0 where
  at : (k : ℕ) → k < length ids → slice_get ids k ≡ Some (id_at routers (from + k))

later_ids : (routers from : ℕ) (id : NodeId) (ids : List NodeId) → AreIds routers from (id ∷ ids) → AreIds routers (from + 1) ids
later_ids routers from id ids are = record {
  at = λ k within. let same : from + suc k ≡ from + 1 + k = omega arith in subst (λ n. slice_get ids k ≡ Some (id_at routers n)) same (are.at (suc k) (omega arith));
}

first_id : (routers from : ℕ) (id : NodeId) (ids : List NodeId) → AreIds routers from (id ∷ ids) → id ≡ id_at routers from
first_id routers from id ids are =
    let here : Some id ≡ Some (id_at routers (from + 0)) = are.at 0 (omega arith) in
    let same : from + 0 ≡ from = omega arith in
    let plain : Some id ≡ Some (id_at routers from) = subst (λ n. Some id ≡ Some (id_at routers n)) same here in
    some_same id (id_at routers from) plain
  where
    some_same : (x y : NodeId) → Some x ≡ Some y → x ≡ y
    some_same x y same = cc

lower_id : (routers low high : ℕ) → low < high → node_id_cmp (id_at routers low) (id_at routers high) ≡ Less
lower_id routers low high below = rw (lt-ltb (low + 1) (high + 1) (omega arith)) refl

above_id : (routers low from : ℕ) (ids : List NodeId) → low < from → AreIds routers from ids → AllByRecursion (λ id. node_id_cmp (id_at routers low) id ≡ Less) ids
above_id routers low from [] below are = tt
above_id routers low from (id ∷ ids) below are = (
  subst (λ x. node_id_cmp (id_at routers low) x ≡ Less) (sym (first_id routers from id ids are)) (lower_id routers low from below),
  above_id routers low (from + 1) ids (omega arith) (later_ids routers from id ids are),
)

ids_ascend : (routers from : ℕ) (ids : List NodeId) → AreIds routers from ids → IsStrictlySortedBy node_id_cmp ids
unfolding IsStrictlySortedBy
ids_ascend routers from [] are = tt
ids_ascend routers from (id ∷ ids) are = (
  subst (λ x. AllByRecursion (λ y. node_id_cmp x y ≡ Less) ids) (sym (first_id routers from id ids are)) (above_id routers from (from + 1) ids (omega arith) (later_ids routers from id ids are)),
  ids_ascend routers (from + 1) ids (later_ids routers from id ids are),
)

no_network : (routers : ℕ) (ids : List NodeId) (k : ℕ) → AreIds routers 0 ids → k < length ids → k < routers → IsNetwork ids k → ⊥
no_network routers ids k are within below network =
    let here : slice_get ids k ≡ Some (id_at routers k) = subst (λ n. slice_get ids k ≡ Some (id_at routers n)) (omega arith) (are.at k within) in
    let kind : option_map (λ id. id.kind) (slice_get ids k) ≡ Some Router = ap (λ o. option_map (λ id. id.kind) o) here ∙ ap (λ b. Some (if b then Router else Network)) (lt-ltb k routers below) in
    two (sym kind ∙ network)
  where
    two : Some Router ≡ Some Network → ⊥
    two same = cc

links_between : (routers : ℕ) (ids : List NodeId) (links : List LinkIn) → AreIds routers 0 ids → AllByRecursion (IsWithin (length ids)) links → AllByRecursion (λ link. link.a < routers) links
    → AllByRecursion (IsLink ids) (map pair_of links)
links_between routers ids [] are within low = tt
links_between routers ids (link ∷ links) are within low = (
  record {
    ascending = within.0.ascending;
    upper = within.0.upper;
    not_both_networks = λ a b. no_network routers ids link.a are (omega (arith, within.0.ascending, within.0.upper)) low.0 a;
  },
  links_between routers ids links are within.1 low.1,
)

pairs_ascend : (links : List LinkIn) → ((k : ℕ) (d : LinkIn) → k + 1 < length links → is_lt (pair_cmp (pair_of (get_or links (k + 1) d)) (pair_of (get_or links k d))) ≡ false) → IsSorted pair_cmp (map pair_of links)
pairs_ascend links ascend = λ k d low within.
    let some : LinkIn = record { a = 0; b = 0; metric_a = 0; metric_b = 0; data_a = 0; data_b = 0 } in
    let same : length (map pair_of links) ≡ length links = length-map links pair_of in
    let after = get_or-map pair_of links (k + 1) some d (omega arith) in
    let before = get_or-map pair_of links k some d (omega arith) in
    rw (after, before) (ascend k some (omega arith))

pub hand_parts : (count routers : ℕ) (ids : List NodeId) (links : List LinkIn) → 1 ≤ count → length ids ≡ count → ((k : ℕ) (d : NodeId) → k < count → get_or ids k d ≡ id_at routers k)
    → All (IsWithin count) links → All (λ link. link.a < routers) links
    → ((k : ℕ) (d : LinkIn) → k + 1 < length links → is_lt (pair_cmp (pair_of (get_or links (k + 1) d)) (pair_of (get_or links k d))) ≡ false)
    → IsConnected count (map pair_of links) → AreGraphParts ids links
hand_parts count routers ids links some numbered is within low ascend connected =
    let all : AllByRecursion (IsWithin count) links = recursion_from_All (IsWithin count) links within in
    let all_low : AllByRecursion (λ link. link.a < routers) links = recursion_from_All (λ link. link.a < routers) links low in
    let are : AreIds routers 0 ids = record {
      at = λ k inside.
          let same : k ≡ 0 + k = omega arith in
          slice_get-get_or ids k (id_at routers 0) inside ∙ ap Some (is k (id_at routers 0) (omega arith) ∙ ap (id_at routers) same);
    } in
    record {
      some_node = omega arith;
      ids_ascend = ids_ascend routers 0 ids are;
      links_between = links_between routers ids links are (rw numbered all) all_low;
      links_ascend = pairs_ascend links ascend;
      connected = rw numbered connected;
    }
