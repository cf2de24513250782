-- Primaries hop by hop make a shortest walk.
use Rattle.std.proofs.Common.{◌≡◌, ◌≢◌, ◌+◌, ◌⊎◌, ◌++◌, ℕ, List, [], ◌∷◌, Option, Some, slice_get, inl, inr, refl, ap, subst, arith}
use Rattle.std.proofs.lemmas.Bool.{cases_eq}
use Rattle.std.proofs.lemmas.Option.{same_Some}
use Rattle.area_graph.specs.declared.area_types.Arc.{Arc}
use Rattle.area_graph.specs.AreaInvariant.{IsArea}
use Rattle.area_graph.specs.Parts.{AreaParts}
use Rattle.mrt_graph.proofs.ListPlaces.{contains_at}
use Rattle.primary_alt.specs.declared.shortest.Primary.{Primary}
use Rattle.primary_alt.specs.ArcWalk.{ArcWalk, cost_of}
use Rattle.primary_alt.specs.Distance.{IsDistance}
use Rattle.primary_alt.specs.Primaries.{IsPrimary}
use Rattle.primary_alt.specs.PrimaryHops.{Arrived, HopsReach, Onward as Further}
use Rattle.primary_alt.specs.Routers.{IsRouter}
use Rattle.primary_alt.proofs.ArcWalks.{one_distance}
use Rattle.primary_alt.proofs.HopsArrive.{hops_arrive}
use Rattle.primary_alt.proofs.PrimariesLead.{router_or_end}
use Rattle.primary_alt.proofs.RouterFacts.{router_from}
use Rattle.lfa_alt.specs.HopWalks.{AreHopArcs, Ended, Hop, HopWalk, arcs_of}
use Rattle.lfa_alt.proofs.Beyond.{Alone, GoesOn, IsPart, Onward, part_of}

-- a shortest walk
pub record IsShortest (arcs : List Arc) (s t : ℕ) (walk : List Arc) : Type 0 where
  pub leads : ArcWalk arcs s walk t
  pub least : IsDistance arcs s t (cost_of walk)

module _ (area : AreaParts) (kept : IsArea area) (t : ℕ) where
  over_one : (s : ℕ) (primary : Primary) → (part : IsPart area s t primary) → primary.next ≡ part.arc.to → (more : List Arc) → IsShortest area.arcs primary.next t more
      → IsShortest area.arcs s t (part.arc ∷ more)
  over_one s primary part next more rest = record {
    leads = (contains_at area.arcs primary.first part.arc part.there, part.from, subst (λ (v : ℕ). ArcWalk area.arcs v more t) next rest.leads);
    least = subst (λ (d : ℕ). IsDistance area.arcs s t d) (ap (λ (d : ℕ). part.arc.metric + d) (one_distance area.arcs primary.next t part.rest (cost_of more) part.far rest.least)) part.near;
  }

  over_two : (s : ℕ) (primary : Primary) → (part : IsPart area s t primary) → (second : ℕ) (onward : Arc) → slice_get area.arcs second ≡ Some onward → onward.tail ≡ part.arc.to
      → onward.metric ≡ 0 → primary.next ≡ onward.to → (more : List Arc) → IsShortest area.arcs primary.next t more → IsShortest area.arcs s t (part.arc ∷ onward ∷ more)
  over_two s primary part second onward there from free next more rest =
      let cost : part.arc.metric + part.rest ≡ part.arc.metric + (onward.metric + cost_of more) =
      omega (arith, free, one_distance area.arcs primary.next t part.rest (cost_of more) part.far rest.least) in
      record {
        leads = (
          contains_at area.arcs primary.first part.arc part.there,
          part.from,
          (contains_at area.arcs second onward there, from, subst (λ (v : ℕ). ArcWalk area.arcs v more t) next rest.leads),
        );
        least = subst (λ (d : ℕ). IsDistance area.arcs s t d) cost part.near;
      }

  over_hop : (s : ℕ) (primary : Primary) → (part : IsPart area s t primary) → GoesOn area primary part.arc → (hop : List Arc) → AreHopArcs area.arcs primary.first primary.second hop
      → (more : List Arc) → IsShortest area.arcs primary.next t more → IsShortest area.arcs s t (hop ++ more)
  over_hop s primary part (Alone alone next) hop are more rest =
      subst (λ (h : List Arc). IsShortest area.arcs s t (h ++ more)) (same_Some (part.arc ∷ []) hop (rw (alone, part.there) at are)) (over_one s primary part next more rest)
  over_hop s primary part (Onward k onward two there from free next) hop are more rest =
      subst (λ (h : List Arc). IsShortest area.arcs s t (h ++ more)) (same_Some (part.arc ∷ onward ∷ []) hop (rw (two, part.there, there) at are))
      (over_two s primary part k onward there from free next more rest)

  -- the arcs of a hop are there
  hop_there : (s : ℕ) (primary : Primary) → (part : IsPart area s t primary) → GoesOn area primary part.arc → (hop : List Arc) × AreHopArcs area.arcs primary.first primary.second hop
  hop_there s primary part (Alone alone next) = (part.arc ∷ [], rw (alone, part.there) refl)
  hop_there s primary part (Onward k onward two there from free next) = (part.arc ∷ onward ∷ [], rw (two, part.there, there) refl)

  -- where a packet is on its path: at a router, or there
  abbrev pub IsAt : ℕ → Type 0
  IsAt s = IsRouter area.ids s ⊎ (s ≡ t)

  module _ (entries : ℕ → Option Primary) (are : (x : ℕ) → IsRouter area.ids x → IsPrimary area x t (entries x)) where
    entry_of : (s : ℕ) (primary : Primary) → IsAt s → s ≢ t → entries s ≡ Some primary → IsPrimary area s t (Some primary)
    entry_of s primary at apart entry = elim at [
      | inl router ↦ subst (λ (e : Option Primary). IsPrimary area s t e) entry (are s router)
      | inr same ↦ absurd (apart same)
    ]

    next_at : (s : ℕ) (primary : Primary) → IsPrimary area s t (Some primary) → IsAt primary.next
    next_at s primary is = elim (router_or_end area s t primary kept is) [
      | inl here ↦ inr here
      | inr router ↦ inl (router_from area.ids primary.next (part_of area kept s t primary is).next router)
    ]

    pub hops_shortest : (s : ℕ) (hops : List (List Arc)) → IsAt s → HopWalk area.arcs entries t s hops → IsShortest area.arcs s t (arcs_of hops)
    hops_shortest x hops at (Ended s same) = record { leads = same; least = record { walk = []; leads = same; costs = refl; least = λ other w. omega arith } }
    hops_shortest x hops at (Hop s primary hop more apart entry arcs rest) =
        let is = entry_of s primary at apart entry in
        let part = part_of area kept s t primary is in
        over_hop s primary part part.on hop arcs (arcs_of more) (hops_shortest primary.next more (next_at s primary is) rest)

    hops_from : (s : ℕ) → IsAt s → HopsReach entries t s → (hops : List (List Arc)) × HopWalk area.arcs entries t s hops
    hops_from s at (Arrived same) = ([], Ended s same)
    hops_from s at (Further primary entry rest) = elim (cases_eq s t) [
      | inl same ↦ ([], Ended s same)
      | inr apart ↦
          let is = entry_of s primary at apart entry in
          let part = part_of area kept s t primary is in
          let hop = hop_there s primary part part.on in
          let more = hops_from primary.next (next_at s primary is) rest in
          (hop.0 ∷ more.0, Hop s primary hop.0 more.0 apart entry hop.1 more.1)
    ]

    pub hops_there : (s : ℕ) → IsAt s → (walk : List Arc) → ArcWalk area.arcs s walk t → (hops : List (List Arc)) × HopWalk area.arcs entries t s hops
    hops_there s at walk w = elim at [
      | inl router ↦ hops_from s (inl router) (hops_arrive area kept t entries are s router walk w)
      | inr same ↦ ([], Ended s same)
    ]
