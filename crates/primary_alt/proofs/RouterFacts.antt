-- Routers are the nodes that are no networks.
use Rattle.std.proofs.Common.{◌≡◌, ◌<◌, ◌∙◌, ◌⊎◌, ℕ, List, Option, Some, None, length, slice_get, inl, inr, refl, sym, ap}
use Rattle.std.specs.Option.{option_map}
use Rattle.std.proofs.lemmas.Option.{same_Some, slice_get_within}
use Rattle.mrt_graph.specs.declared.node_id.Kind.{Kind}
use Rattle.mrt_graph.specs.declared.node_id.Kind.TheVariants.{Network, Router}
use Rattle.mrt_graph.specs.declared.node_id.NodeId.{NodeId}
use Rattle.mrt_graph.specs.GraphInvariant.{IsNetwork}
use Rattle.mrt_graph.proofs.ListTests.{there}
use Rattle.primary_alt.specs.Routers.{IsRouter}

-- a router is a node
pub router_within : (ids : List NodeId) (n : ℕ) → IsRouter ids n → n < length ids
router_within ids n is = go (slice_get ids n) refl is
  where
    go : (o : Option NodeId) → slice_get ids n ≡ o → option_map (λ id. id.kind) o ≡ Some Router → n < length ids
    go None at is = absurd cc
    go (Some id) at is = slice_get_within ids n id at

-- so is a network
pub network_within : (ids : List NodeId) (n : ℕ) → IsNetwork ids n → n < length ids
network_within ids n is = go (slice_get ids n) refl is
  where
    go : (o : Option NodeId) → slice_get ids n ≡ o → option_map (λ id. id.kind) o ≡ Some Network → n < length ids
    go None at is = absurd cc
    go (Some id) at is = slice_get_within ids n id at

-- a router is no network
pub router_alone : (ids : List NodeId) (n : ℕ) → IsRouter ids n → ¬ IsNetwork ids n
router_alone ids n is network =
    let clash : Router ≡ Network = same_Some Router Network (sym is ∙ network) in cc

-- a node is one of them
pub router_or_network : (ids : List NodeId) (n : ℕ) → n < length ids → IsRouter ids n ⊎ IsNetwork ids n
router_or_network ids n within = let at = there ids n within in by_kind at.0.kind at.0 refl at.1
  where
    by_kind : (kind : Kind) (id : NodeId) → id.kind ≡ kind → slice_get ids n ≡ Some id → IsRouter ids n ⊎ IsNetwork ids n
    by_kind Router id is at = inl (ap (option_map (λ (i : NodeId). i.kind)) at ∙ ap (λ (k : Kind). Some k) is)
    by_kind Network id is at = inr (ap (option_map (λ (i : NodeId). i.kind)) at ∙ ap (λ (k : Kind). Some k) is)

-- a node that is no network is a router
pub router_from : (ids : List NodeId) (n : ℕ) → n < length ids → ¬ IsNetwork ids n → IsRouter ids n
router_from ids n within other = elim (router_or_network ids n within) [ inl router ↦ router | inr network ↦ absurd (other network) ]
