-- Primaries, taken hop by hop, arrive.
use Rattle.std.proofs.Common.{◌≡◌, ◌≢◌, ◌<◌, ◌+◌, ℕ, zero, suc, List, Option, Some, length, inl, inr, refl, subst, arith}
use Rattle.std.proofs.lemmas.Bool.{cases_eq}
use Rattle.std.proofs.lemmas.Option.{same_Some}
use Rattle.area_graph.specs.declared.area_types.Arc.{Arc}
use Rattle.area_graph.specs.AreaInvariant.{IsArea}
use Rattle.area_graph.specs.Parts.{AreaParts}
use Rattle.mrt_graph.specs.GraphInvariant.{IsNetwork}
use Rattle.primary_alt.specs.declared.shortest.Primary.{Primary}
use Rattle.primary_alt.specs.ArcWalk.{ArcWalk}
use Rattle.primary_alt.specs.Distance.{IsDistance}
use Rattle.primary_alt.specs.Primaries.{Direct, IsPrimary, Itself, NoWalk, Over}
use Rattle.primary_alt.specs.PrimaryHops.{Arrived, HopsReach, Onward}
use Rattle.primary_alt.proofs.ArcWalks.{arc_kept}
use Rattle.primary_alt.proofs.ArcsOffered.{far_within}
use Rattle.primary_alt.specs.Routers.{IsRouter}
use Rattle.primary_alt.proofs.PrimariesLead.{nearer, router_or_end}
use Rattle.primary_alt.proofs.RouterFacts.{router_alone, router_from, router_within}

-- what a primary begins is a distance, and its next hop is a node
pub record IsSet (area : AreaParts) (s t : ℕ) (primary : Primary) : Type 0 where
  pub distance : ℕ
  pub is : IsDistance area.arcs s t distance
  pub within : primary.next < length area.ids

pub is_set : (area : AreaParts) (s t : ℕ) (primary : Primary) (entry : Option Primary) → IsArea area → entry ≡ Some primary → IsPrimary area s t entry → IsSet area s t primary
is_set area s t primary entry kept is (Itself same) = cc
is_set area s t primary entry kept is (NoWalk none) = cc
is_set area s t primary entry kept is (Direct n arc apart first direct) = record {
  distance = arc.metric + first.shortest.rest;
  is = subst (λ (v : ℕ). IsDistance area.arcs v t (arc.metric + first.shortest.rest)) first.from first.shortest.near;
  within = subst (λ (p : Primary). p.next < length area.ids) (same_Some _ primary is)
      (far_within area arc kept (arc_kept area n arc kept first.there));
}
is_set area s t primary entry kept is (Over n k arc onward apart first over second) = record {
  distance = arc.metric + first.shortest.rest;
  is = subst (λ (v : ℕ). IsDistance area.arcs v t (arc.metric + first.shortest.rest)) first.from first.shortest.near;
  within = subst (λ (p : Primary). p.next < length area.ids) (same_Some _ primary is)
      (far_within area onward kept (arc_kept area k onward kept second.there));
}

module _ (area : AreaParts) (kept : IsArea area) (t : ℕ) (entries : ℕ → Option Primary)
    (are : (s : ℕ) → IsRouter area.ids s → IsPrimary area s t (entries s)) where
  -- the entry of a node from which a walk leads to another one
  there : (s : ℕ) (entry : Option Primary) → IsPrimary area s t entry → s ≢ t → (walk : List Arc) → ArcWalk area.arcs s walk t
      → (primary : Primary) × (entry ≡ Some primary)
  there s entry (Itself same) apart walk w = absurd (apart same)
  there s entry (NoWalk none) apart walk w = absurd (none walk w)
  there s entry (Direct n arc apart' first direct) apart walk w = (_, refl)
  there s entry (Over n k arc onward apart' first over second) apart walk w = (_, refl)

  -- within a distance
  arrive : (bound s distance : ℕ) → s < length area.ids → ¬ IsNetwork area.ids s → IsDistance area.arcs s t distance → distance < bound → HopsReach entries t s
  arrive zero s distance within router d below = absurd (omega arith)
  arrive (suc bound) s distance within router d below = elim (cases_eq s t) [
    | inl same ↦ Arrived same
    | inr apart ↦
        let found = there s (entries s) (are s (router_from area.ids s within router)) apart d.walk d.leads in
        let is : IsPrimary area s t (Some found.0) = subst (λ (e : Option Primary). IsPrimary area s t e) found.1 (are s (router_from area.ids s within router)) in
        let set = is_set area s t found.0 (Some found.0) kept refl is in
        let rest = nearer area kept s t distance found.0 router is d in
        Onward found.0 found.1 (elim (router_or_end area s t found.0 kept is) [
          | inl here ↦ Arrived here
          | inr onward ↦ arrive bound found.0.next rest.0 set.within onward rest.1 (omega (arith, rest.2, below))
        ])
  ]

  pub hops_arrive : (s : ℕ) → IsRouter area.ids s → (walk : List Arc) → ArcWalk area.arcs s walk t → HopsReach entries t s
  hops_arrive s is_router walk w = elim (cases_eq s t) [
    | inl same ↦ Arrived same
    | inr apart ↦
        let found = there s (entries s) (are s is_router) apart walk w in
        let is : IsPrimary area s t (Some found.0) = subst (λ (e : Option Primary). IsPrimary area s t e) found.1 (are s is_router) in
        let set = is_set area s t found.0 (Some found.0) kept refl is in
        arrive (suc set.distance) s set.distance (router_within area.ids s is_router) (router_alone area.ids s is_router) set.is (omega arith)
  ]
