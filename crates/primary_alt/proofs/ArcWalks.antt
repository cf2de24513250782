-- Walks along arcs, their costs, and distances.
use Rattle.std.proofs.Common.{◌≡◌, ◌≢◌, ◌≤◌, ◌+◌, ◌∙◌, ◌++◌, ℕ, true, false, List, [], ◌∷◌, Option, Some, None, slice_get, inl, inr, refl, sym, ap, subst, arith}
use Rattle.std.specs.Prelude.{Contains}
use Rattle.std.specs.Option.{option_map, option_map_or}
use Rattle.std.proofs.lemmas.Bool.{cases_Bool, cases_eq}
use Rattle.std.proofs.lemmas.Option.{same_Some}
use Rattle.area_graph.specs.declared.area_types.Arc.{Arc}
use Rattle.area_graph.specs.AreaInvariant.{IsArc, IsArea, IsBond}
use Rattle.area_graph.specs.Parts.{AreaParts}
use Rattle.mrt_graph.specs.declared.node_id.Kind.{Kind}
use Rattle.mrt_graph.specs.declared.node_id.Kind.TheVariants.{Network, Router}
use Rattle.mrt_graph.specs.declared.node_id.NodeId.{NodeId}
use Rattle.mrt_graph.specs.GraphInvariant.{IsNetwork}
use Rattle.mrt_graph.proofs.Members.{all_has, has_at, has_from_contains}
use Rattle.primary_alt.specs.ArcWalk.{ArcWalk, cost_of}
use Rattle.primary_alt.specs.Distance.{IsDistance}
use Rattle.primary_alt.specs.Offers.{is_network, is_networks}

-- one arc more
pub arc_onward : (arcs : List Arc) (walk : List Arc) (s u : ℕ) (arc : Arc) → ArcWalk arcs s walk u → Contains arcs arc → arc.tail ≡ u → ArcWalk arcs s (walk ++ arc ∷ []) arc.to
arc_onward arcs [] s u arc w there tail = (there, tail ∙ sym w, refl)
arc_onward arcs (a ∷ more) s u arc w there tail = (w.0, w.1, arc_onward arcs more a.to u arc w.2 there tail)

pub cost_onward : (walk : List Arc) (arc : Arc) → cost_of (walk ++ arc ∷ []) ≡ cost_of walk + arc.metric
cost_onward [] arc = omega arith
cost_onward (a ∷ more) arc = omega (arith, cost_onward more arc)

-- there is one distance
pub one_distance : (arcs : List Arc) (s t d d' : ℕ) → IsDistance arcs s t d → IsDistance arcs s t d' → d ≡ d'
one_distance arcs s t d d' one other =
    let up : d ≤ d' = omega (arith, one.least other.walk other.leads, other.costs) in
    let down : d' ≤ d = omega (arith, other.least one.walk one.leads, one.costs) in
    omega (arith, up, down)

-- each arc that is there is one of an area
pub arc_kept : (area : AreaParts) (k : ℕ) (arc : Arc) → IsArea area → slice_get area.arcs k ≡ Some arc → IsArc area.ids area.bonds arc
arc_kept area k arc kept there = all_has (IsArc area.ids area.bonds) area.arcs arc kept.arcs_kept (has_at area.arcs k arc there)

pub arc_bond : (area : AreaParts) (arc : Arc) → IsArea area → (is : IsArc area.ids area.bonds arc) → IsBond area.ids is.bond
arc_bond area arc kept is = all_has (IsBond area.ids) area.bonds is.bond kept.bonds_kept (has_at area.bonds arc.bond is.bond is.there)

-- an arc leads to another node
pub arc_moves : (area : AreaParts) (arc : Arc) → IsArea area → IsArc area.ids area.bonds arc → arc.to ≢ arc.tail
arc_moves area arc kept is same =
    let bond = arc_bond area arc kept is in
    elim is.leads [
      | inl there ↦ bond.different (sym there.tail ∙ sym same ∙ there.to)
      | inr back ↦ bond.different (sym back.to ∙ same ∙ back.tail)
    ]

-- an arc to a network leaves a router
pub to_network : (area : AreaParts) (arc : Arc) → IsArea area → IsArc area.ids area.bonds arc → IsNetwork area.ids arc.to → ¬ IsNetwork area.ids arc.tail
to_network area arc kept is to tail =
    let bond = arc_bond area arc kept is in
    elim is.leads [
      | inl there ↦ bond.not_both_networks (subst (λ (v : ℕ). IsNetwork area.ids v) there.tail tail) (subst (λ (v : ℕ). IsNetwork area.ids v) there.to to)
      | inr back ↦ bond.not_both_networks (subst (λ (v : ℕ). IsNetwork area.ids v) back.to to) (subst (λ (v : ℕ). IsNetwork area.ids v) back.tail tail)
    ]

-- so it costs something
pub to_network_costs : (area : AreaParts) (arc : Arc) → IsArea area → IsArc area.ids area.bonds arc → IsNetwork area.ids arc.to → 1 ≤ arc.metric
to_network_costs area arc kept is to = is.of_router (to_network area arc kept is to)

-- a walk to a network from another node costs something
pub walk_costs : (area : AreaParts) (walk : List Arc) (s t : ℕ) → IsArea area → IsNetwork area.ids t → s ≢ t → ArcWalk area.arcs s walk t → 1 ≤ cost_of walk
walk_costs area [] s t kept network other w = absurd (other w)
walk_costs area (arc ∷ more) s t kept network other w = elim (cases_eq arc.to t) [
  | inl here ↦
      let is = all_has (IsArc area.ids area.bonds) area.arcs arc kept.arcs_kept (has_from_contains area.arcs arc w.0) in
      omega (arith, to_network_costs area arc kept is (subst (λ (v : ℕ). IsNetwork area.ids v) (sym here) network))
  | inr further ↦ omega (arith, walk_costs area more arc.to t kept network further w.2)
]

-- the test for a network
pub network_by_test : (ids : List NodeId) (n : ℕ) → is_network ids n ≡ true → IsNetwork ids n
network_by_test ids n = go (slice_get ids n)
  where
    by_kind : (k : Kind) → is_networks k ≡ true → k ≡ Network
    by_kind Router is = cc
    by_kind Network is = refl

    go : (o : Option NodeId) → option_map_or (λ id. is_networks id.kind) o false ≡ true → option_map (λ id. id.kind) o ≡ Some Network
    go None is = cc
    go (Some id) is = ap (λ (k : Kind). Some k) (by_kind id.kind is)

pub no_network_by_test : (ids : List NodeId) (n : ℕ) → is_network ids n ≡ false → ¬ IsNetwork ids n
no_network_by_test ids n = go (slice_get ids n)
  where
    by_kind : (k : Kind) → is_networks k ≡ false → k ≡ Network → ⊥
    by_kind Router is same = cc
    by_kind Network is same = cc

    go : (o : Option NodeId) → option_map_or (λ id. is_networks id.kind) o false ≡ false → option_map (λ id. id.kind) o ≡ Some Network → ⊥
    go None is same = cc
    go (Some id) is same = by_kind id.kind is (same_Some id.kind Network same)

pub test_of_network : (ids : List NodeId) (n : ℕ) → IsNetwork ids n → is_network ids n ≡ true
test_of_network ids n is = elim (cases_Bool (is_network ids n)) [
  | inl holds ↦ holds
  | inr fails ↦ absurd (no_network_by_test ids n fails is)
]
