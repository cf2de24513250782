-- Nodes, links and elements of the area and of the island that belong together.
use Rattle.std.proofs.Common.{Contains, true, ◌≡◌, ◌<◌, ◌≤◌, ◌∙◌, ℕ, List, Option, Some, None, length, slice_get, refl, sym, ap, arith}
use Rattle.std.specs.List.{position}
use Rattle.std.specs.Option.{option_map}
use Rattle.std.proofs.lemmas.Bool.{eq-eqb, eqb-true}
use Rattle.std.proofs.lemmas.Option.{get_or_from_slice_get, option_and_then_some, same_Some, slice_get_within}
use Rattle.area_graph.specs.Fits.{names}
use Rattle.mrt_graph.specs.NodeIds.{number_of}
use Rattle.mrt_graph.proofs.IdPlaces.{number_found, place_of_one}
use Rattle.std.specs.List.Sorted.{IsStrictlySortedBy}
use Rattle.mrt_graph.specs.NodeOrder.{node_id_cmp}
use Rattle.mrt_graph.proofs.ListPlaces.{contains_at, place_of}
use Rattle.mrt_graph.proofs.ListTests.{there}
use Rattle.mrt_graph.specs.GraphInvariant.{IsNetwork}
use Rattle.mrt_graph.specs.declared.node_id.NodeId.{NodeId}
use Rattle.mrt_graph.proofs.NodeIds.{one_place}
use Rattle.mrt_graph.proofs.Tallies.{count_is_tally, counted_at, position_of_one, tally}
use Rattle.fabric.specs.FabricParts.{ArePartsKept, FabricParts, link_at, node_at}

-- a node of the area and the island node that it is have one identifier
pub record IsOne (parts : FabricParts) (s n : ℕ) : Type 0 where
  pub id : NodeId
  pub in_area : slice_get parts.area.ids s ≡ Some id
  pub in_island : slice_get parts.island.ids n ≡ Some id

pub is_one : (parts : FabricParts) (s n : ℕ) → node_at parts s ≡ Some n → IsOne parts s n
is_one parts s n is =
    option_and_then_some (number_of parts.island.ids) (slice_get parts.area.ids s) n is (λ id there here. record { id = id; in_area = there; in_island = number_found parts.island.ids id n here })

module _ (parts : FabricParts) (are : ArePartsKept parts) where
  -- an island node is one node of the area
  pub one_spot : (s s' n : ℕ) → node_at parts s ≡ Some n → node_at parts s' ≡ Some n → s ≡ s'
  one_spot s s' n is is' =
      let one = is_one parts s n is in
      let other = is_one parts s' n is' in
      let same : other.id ≡ one.id = same_Some _ _ (sym other.in_island ∙ one.in_island) in
      one_place parts.area.ids s s' one.id are.area_kept.ids_ascend one.in_area (other.in_area ∙ ap (λ x. Some x) same)

  pub spot_within : (s n : ℕ) → node_at parts s ≡ Some n → s < length parts.area.ids
  spot_within s n is = let one = is_one parts s n is in slice_get_within parts.area.ids s one.id one.in_area

  pub node_within : (s n : ℕ) → node_at parts s ≡ Some n → n < length parts.island.ids
  node_within s n is = let one = is_one parts s n is in slice_get_within parts.island.ids n one.id one.in_island

  pub network_inside : (s n : ℕ) → node_at parts s ≡ Some n → IsNetwork parts.area.ids s → IsNetwork parts.island.ids n
  network_inside s n is network =
      let one = is_one parts s n is in
      ap (λ (o : Option NodeId). option_map (λ id. id.kind) o) (one.in_island ∙ sym one.in_area) ∙ network

  pub network_outside : (s n : ℕ) → node_at parts s ≡ Some n → IsNetwork parts.island.ids n → IsNetwork parts.area.ids s
  network_outside s n is network =
      let one = is_one parts s n is in
      ap (λ (o : Option NodeId). option_map (λ id. id.kind) o) (one.in_area ∙ sym one.in_island) ∙ network

  link_there : (b e : ℕ) → link_at parts b ≡ Some e → slice_get parts.link_of b ≡ Some (Some e)
  link_there b e is = option_and_then_some (λ entry. entry) (slice_get parts.link_of b) e is (λ entry there here. there ∙ ap (λ o. Some o) here)

  pub bond_within : (b e : ℕ) → link_at parts b ≡ Some e → b < length parts.area.bonds
  bond_within b e is =
      let within = slice_get_within parts.link_of b (Some e) (link_there b e is) in omega (arith, within, are.fits.an_entry_each)

  pub link_within : (b e : ℕ) → link_at parts b ≡ Some e → e < length parts.island.links
  link_within b e is = are.fits.links_alone b e (link_there b e is)

  -- an island link is one bond
  pub one_bond : (b b' e : ℕ) → link_at parts b ≡ Some e → link_at parts b' ≡ Some e → b ≡ b'
  one_bond b b' e is is' =
      let count = are.fits.one_bond_each e (link_within b e is) in
      let few : tally (names e) parts.link_of ≤ 1 = omega (arith, count, count_is_tally (names e) parts.link_of) in
      let at : (k : ℕ) → link_at parts k ≡ Some e → position (names e) parts.link_of ≡ Some k =
      λ k link. position_of_one (names e) parts.link_of k (Some e) few (link_there k e link) (eq-eqb e e refl) in
      same_Some b b' (sym (at b is) ∙ at b' is')

-- the number of an identifier that stands there
number_there : (ids : List NodeId) (id : NodeId) (n : ℕ) → IsStrictlySortedBy node_id_cmp ids → slice_get ids n ≡ Some id → number_of ids id ≡ Some n
number_there ids id n ascend there =
    place_of_one ids n id ascend (slice_get_within ids n id there) (get_or_from_slice_get ids n id id there)

module _ (parts : FabricParts) (are : ArePartsKept parts) where
  -- a node of the area that has the identifier of an island node is this island node
  pub node_of_id : (s n : ℕ) (id : NodeId) → slice_get parts.area.ids s ≡ Some id → slice_get parts.island.ids n ≡ Some id → node_at parts s ≡ Some n
  node_of_id s n id there here = rw there (number_there parts.island.ids id n are.island_kept.ids_ascend here)

  -- a node whose identifier no island node has is outside
  pub node_outside : (s : ℕ) (id : NodeId) → slice_get parts.area.ids s ≡ Some id → ¬ Contains parts.island.ids id → node_at parts s ≡ None
  node_outside s id there none = go (node_at parts s) refl
    where
      go : (o : Option ℕ) → node_at parts s ≡ o → o ≡ None
      go None is = refl
      go (Some n) is =
          let one = is_one parts s n is in
          absurd (none (contains_at parts.island.ids n id (one.in_island ∙ sym one.in_area ∙ there)))

  -- each island node is a node of the area, and each island link a bond
  pub spot_there : (n : ℕ) → n < length parts.island.ids → (s : ℕ) × (node_at parts s ≡ Some n)
  spot_there n within =
      let id = there parts.island.ids n within in
      let spot = place_of parts.area.ids id.0 (are.fits.nodes id.0 (contains_at parts.island.ids n id.0 id.1)) in
      (spot.0, node_of_id spot.0 n id.0 spot.1 id.1)

  pub bond_there : (e : ℕ) → e < length parts.island.links → (b : ℕ) × (link_at parts b ≡ Some e)
  bond_there e within =
      let found = counted_at (names e) parts.link_of (let one = are.fits.one_bond_each e within in omega (arith, one)) in
      go found.place found.item found.there found.passes
    where
      go : (b : ℕ) (item : Option ℕ) → slice_get parts.link_of b ≡ Some item → names e item ≡ true → (b : ℕ) × (link_at parts b ≡ Some e)
      go b None there passes = cc
      go b (Some k) there passes = (b, rw there (ap (λ x. Some x) (eqb-true k e passes)))
