-- The primary of a router leads to the destination or to a router nearer to it.
use Rattle.std.proofs.Common.{◌≡◌, ◌<◌, ◌⊎◌, ℕ, Some, inl, inr, refl}
use Rattle.area_graph.specs.AreaInvariant.{IsArea}
use Rattle.area_graph.specs.Parts.{AreaParts}
use Rattle.primary_alt.specs.declared.shortest.Primary.{Primary}
use Rattle.primary_alt.specs.Distance.{IsDistance}
use Rattle.primary_alt.specs.Primaries.{IsPrimary}
use Rattle.primary_alt.specs.Routers.{IsRouter}
use Rattle.primary_alt.proofs.HopsArrive.{is_set}
use Rattle.primary_alt.proofs.PrimariesLead.{nearer, router_or_end}
use Rattle.primary_alt.proofs.RouterFacts.{router_alone, router_from}

pub next_router : (area : AreaParts) → IsArea area → (s t : ℕ) (primary : Primary) → IsPrimary area s t (Some primary)
    → (primary.next ≡ t) ⊎ IsRouter area.ids primary.next
next_router area kept s t primary is = elim (router_or_end area s t primary kept is) [
  | inl here ↦ inl here
  | inr onward ↦ inr (router_from area.ids primary.next (is_set area s t primary (Some primary) kept refl is).within onward)
]

pub nearer_hop : (area : AreaParts) → IsArea area → (s t distance : ℕ) (primary : Primary) → IsRouter area.ids s
    → IsPrimary area s t (Some primary) → IsDistance area.arcs s t distance
    → (rest : ℕ) × IsDistance area.arcs primary.next t rest × (rest < distance)
nearer_hop area kept s t distance primary router is d = nearer area kept s t distance primary (router_alone area.ids s router) is d
