-- The arc that a router and link data name stands among those of the router's node.
use Rattle.std.proofs.Common.{◌≡◌, ◌≢◌, ◌==◌, ◌&&◌, ℕ, Bool, true, false, List, [], ◌∷◌, inl, inr, refl, sym, ap, subst, Some, None, Option, IsNone, ◌↔◌, Contains, slice_get}
use Rattle.std.specs.List.{filter, find}
use Rattle.std.specs.List.Sorted.{IsStrictlySortedBy}
use Rattle.std.specs.Option.{option_map, option_map_or}
use Rattle.std.proofs.lemmas.List.Elements.{Contains-get_or}
use Rattle.std.proofs.lemmas.Option.{slice_get_cases, slice_get_within, get_or_from_slice_get}
use Rattle.std.proofs.lemmas.Bool.{and_parts, cases_Bool, eq-eqb, eqb-true}
use Rattle.std.proofs.lemmas.Bool.Decides.{eqb_tells}
use Rattle.mrt_graph.specs.NodeOrder.{node_id_cmp}
use Rattle.mrt_graph.specs.declared.node_id.NodeId.{NodeId}
use Rattle.mrt_graph.specs.SameGraph.{same_id}
use Rattle.mrt_graph.proofs.Members.{Has, contains_from_has, find_has, has_from_contains}
use Rattle.mrt_graph.proofs.NodeIds.{one_place}
use Rattle.area_graph.specs.declared.area_types.Arc.{Arc}
use Rattle.area_graph.specs.AreaInvariant.{IsArea}
use Rattle.area_graph.specs.Named.{IsNamed, has_name, bond_named}
use Rattle.mrt_graph.specs.NodeIds.{router}
use Rattle.area_graph.specs.Parts.{AreaParts}
use Rattle.mrt_graph.proofs.SameIds.{one_node, same_itself}

contained : (ids : List NodeId) (k : ℕ) (id : NodeId) → slice_get ids k ≡ Some id → Contains ids id
contained ids k id at = subst (Contains ids) (get_or_from_slice_get ids k id id at) (Contains-get_or ids k id (slice_get_within ids k id at))

-- the name of an arc, told by its tail's number
named_by : (area : AreaParts) (number link_data s : ℕ) (arc : Arc) → IsStrictlySortedBy node_id_cmp area.ids → slice_get area.ids s ≡ Some (router number)
    → has_name area number link_data arc ≡ ((arc.tail == s) && (arc.link_data == link_data))
named_by area number link_data s arc ascend there = elim (eqb_tells arc.tail s) [
  | inl same ↦
      let tail : slice_get area.ids arc.tail ≡ Some (router number) = subst (λ (k : ℕ). slice_get area.ids k ≡ Some (router number)) (sym same.1) there in
      rw (tail, same.0, same_itself (router number)) refl
  | inr other ↦ elim (slice_get_cases area.ids arc.tail).1 [
    | inl seen ↦ rw (seen.2, other.0) (differs (same_id (router number) seen.0) seen.0 refl seen.2 other.1)
    | inr past ↦ rw (past.1, other.0) refl
  ]
]
  where
    differs : (b : Bool) (id : NodeId) → same_id (router number) id ≡ b → slice_get area.ids arc.tail ≡ Some id → arc.tail ≢ s → (same_id (router number) id && (arc.link_data == link_data)) ≡ false
    differs true id e at other = absurd (other (one_place area.ids arc.tail s (router number) ascend (subst (λ (x : NodeId). slice_get area.ids arc.tail ≡ Some x) (sym (one_node (router number) id e)) at) there))
    differs false id e at other = rw e refl

-- the first arc with that name is the first of its node's with that link data
in_row : (area : AreaParts) (number link_data s : ℕ) (xs : List Arc) → IsStrictlySortedBy node_id_cmp area.ids → slice_get area.ids s ≡ Some (router number)
    → find (λ arc. arc.link_data == link_data) (filter (λ arc. arc.tail == s) xs) ≡ find (has_name area number link_data) xs
in_row area number link_data s [] ascend there = refl
in_row area number link_data s (x ∷ xs) ascend there =
    go (x.tail == s) (x.link_data == link_data) refl refl (in_row area number link_data s xs ascend there)
  where
    go : (a b : Bool) → (x.tail == s) ≡ a → (x.link_data == link_data) ≡ b
        → find (λ arc. arc.link_data == link_data) (filter (λ arc. arc.tail == s) xs) ≡ find (has_name area number link_data) xs
        → find (λ arc. arc.link_data == link_data) (filter (λ arc. arc.tail == s) (x ∷ xs)) ≡ find (has_name area number link_data) (x ∷ xs)
    go true true a b rest = let n = named_by area number link_data s x ascend there in rw (n, a, b) refl
    go true false a b rest = let n = named_by area number link_data s x ascend there in rw (n, a, b) rest
    go false b' a b rest = let n = named_by area number link_data s x ascend there in rw (n, a) rest

pub named_in_row : (area : AreaParts) (number link_data s : ℕ) → IsArea area → slice_get area.ids s ≡ Some (router number)
    → option_map (λ arc. arc.bond) (find (λ arc. arc.link_data == link_data) (filter (λ arc. arc.tail == s) area.arcs)) ≡ bond_named area number link_data
named_in_row area number link_data s kept there = ap (option_map (λ (arc : Arc). arc.bond)) (in_row area number link_data s area.arcs kept.ids_ascend there)

-- no arc has the name of a router that is not there
none_without : (area : AreaParts) (number link_data : ℕ) (xs : List Arc) → ¬ Contains area.ids (router number) → find (has_name area number link_data) xs ≡ None
none_without area number link_data [] absent = refl
none_without area number link_data (x ∷ xs) absent =
    let quiet : has_name area number link_data x ≡ false = elim (slice_get_cases area.ids x.tail).1 [
      | inl seen ↦ rw seen.2 (differs (same_id (router number) seen.0) seen.0 refl seen.2)
      | inr past ↦ rw past.1 refl
    ] in
    rw quiet (none_without area number link_data xs absent)
  where
    differs : (b : Bool) (id : NodeId) → same_id (router number) id ≡ b → slice_get area.ids x.tail ≡ Some id → (same_id (router number) id && (x.link_data == link_data)) ≡ false
    differs true id e at = absurd (absent (subst (Contains area.ids) (sym (one_node (router number) id e)) (contained area.ids x.tail id at)))
    differs false id e at = rw e refl

pub not_named : (area : AreaParts) (number link_data : ℕ) → ¬ Contains area.ids (router number) → bond_named area number link_data ≡ None
not_named area number link_data absent = ap (option_map (λ (arc : Arc). arc.bond)) (none_without area number link_data area.arcs absent)

-- ---- there is none exactly where no arc has the name

none_found : {X : Type 0} (p : X → Bool) (xs : List X) → find p xs ≡ None → (x : X) → Has xs x → p x ≡ true → ⊥
none_found p [] none x has passes = absurd has
none_found p (y ∷ ys) none x has passes = elim (cases_Bool (p y)) [
  | inl first ↦ let found : Some y ≡ None = rw first at none in cc
  | inr fails ↦ elim has [
    | inl same ↦ let also : p y ≡ true = subst (λ z. p z ≡ true) (sym same) passes in cc
    | inr later ↦ none_found p ys (rw fails at none) x later passes
  ]
]

name_of : (area : AreaParts) (number link_data : ℕ) (arc : Arc) → IsNamed area number link_data arc → has_name area number link_data arc ≡ true
name_of area number link_data arc named =
    let same : (arc.link_data == link_data) ≡ true = eq-eqb arc.link_data link_data named.data_there in
    rw (named.tail, same_itself (router number), same) refl

node_by : (o : Option NodeId) (number : ℕ) → option_map_or (same_id (router number)) o false ≡ true → o ≡ Some (router number)
node_by None number is = absurd cc
node_by (Some id) number is = ap (λ (x : NodeId). Some x) (sym (one_node (router number) id is))

name_tells : (area : AreaParts) (number link_data : ℕ) (arc : Arc) → Contains area.arcs arc → has_name area number link_data arc ≡ true → IsNamed area number link_data arc
name_tells area number link_data arc there has =
    let parts = and_parts (option_map_or (same_id (router number)) (slice_get area.ids arc.tail) false) (arc.link_data == link_data) has in
    record { there = there; tail = node_by (slice_get area.ids arc.tail) number parts.0; data_there = eqb-true arc.link_data link_data parts.1 }

none_by : (area : AreaParts) (number link_data : ℕ) (o : Option Arc) → find (has_name area number link_data) area.arcs ≡ o
    → IsNone (option_map (λ (arc : Arc). arc.bond) o) ↔ ((arc : Arc) → IsNamed area number link_data arc → ⊥)
none_by area number link_data None is = (
  λ none arc named.
      none_found (has_name area number link_data) area.arcs is arc (has_from_contains area.arcs arc named.there) (name_of area number link_data arc named),
  λ absent. refl,
)
none_by area number link_data (Some first) is = (
  λ none. absurd cc,
  λ absent.
      let found = find_has (has_name area number link_data) area.arcs first is in
      absurd (absent first (name_tells area number link_data first (contains_from_has area.arcs first found.0) found.1)),
)

pub none_named : (area : AreaParts) (number link_data : ℕ) (result : Option ℕ) → result ≡ bond_named area number link_data
    → IsNone result ↔ ((arc : Arc) → IsNamed area number link_data arc → ⊥)
none_named area number link_data result is =
    subst (λ (o : Option ℕ). IsNone o ↔ ((arc : Arc) → IsNamed area number link_data arc → ⊥)) (sym is)
    (none_by area number link_data (find (has_name area number link_data) area.arcs) refl)
