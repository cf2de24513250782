-- A loop-free alternate, and the candidate that it is.
use Rattle.std.proofs.Common.{◌≡◌, ◌≢◌, ◌<◌, ◌∙◌, ℕ, Bool, List, [], ◌∷◌, Option, Some, None, length, slice_get, inl, inr, refl, sym, ap, subst}
use Rattle.std.specs.Prelude.{◌↔◌, IfSome, IsTrue}
use Rattle.std.proofs.lemmas.Option.{same_Some, slice_get_within}
use Rattle.area_graph.specs.declared.area_types.Arc.{Arc}
use Rattle.area_graph.specs.AreaInvariant.{IsArea}
use Rattle.area_graph.specs.Parts.{AreaParts}
use Rattle.mrt_graph.specs.GraphInvariant.{IsNetwork}
use Rattle.mrt_graph.proofs.ListPlaces.{contains_at}
use Rattle.primary_alt.specs.declared.shortest.Primary.{Primary}
use Rattle.primary_alt.specs.ArcWalk.{ArcWalk}
use Rattle.primary_alt.specs.Primaries.{IsPrimary}
use Rattle.primary_alt.specs.Routers.{IsRouter}
use Rattle.primary_alt.proofs.AreaArcs.{arcs_between}
use Rattle.primary_alt.proofs.PrimariesLead.{one_entry}
use Rattle.primary_alt.proofs.RouterFacts.{router_alone}
use Rattle.lfa_alt.specs.declared.alternate.Lfa.{Lfa}
use Rattle.lfa_alt.specs.Candidates.{Across, Candidate, IsOtherBond, Straight, ToNeighbour}
use Rattle.lfa_alt.specs.HopWalks.{AreHopArcs, UsesBond}
use Rattle.lfa_alt.specs.LoopFree.{ByPrimary, IsLfa, IsNearerThanOver, NoPrimary, Protects, TheBest, alternate_of}
use Rattle.lfa_alt.proofs.HopsLead.{IsAt}
use Rattle.lfa_alt.proofs.ShortestWalks.{touches}

-- the alternate that a candidate is
abbrev lfa_of : Candidate → Bool → Lfa
lfa_of candidate node = record { first = candidate.first; second = candidate.second; next = candidate.next; node = node }

-- the loop-free candidate that an alternate is
pub record IsChosen (area : AreaParts) (s t : ℕ) (lfa : Lfa) : Type 0 where
  pub primary : Primary
  pub is : IsPrimary area s t (Some primary)
  pub candidate : Candidate
  pub leads : ToNeighbour area s t candidate
  pub bond : IsOtherBond area.arcs primary candidate.bond
  pub loop_free : IsNearerThanOver area.arcs s candidate.next t
  pub node : Bool
  pub node_is : IsTrue node ↔ Protects area.arcs t primary candidate.next
  pub same : lfa_of candidate node ≡ lfa

pub chosen : (area : AreaParts) (s t : ℕ) (lfa : Lfa) → IsLfa area s t (Some lfa) → IsChosen area s t lfa
chosen area s t lfa is = go is refl
  where
    go : {entry : Option Lfa} → IsLfa area s t entry → entry ≡ Some lfa → IsChosen area s t lfa
    go (NoPrimary none) is = cc
    go (ByPrimary primary None p none) is = cc
    go (ByPrimary primary (Some same) p (TheBest choice free first)) is = record {
      primary = primary;
      is = p;
      candidate = free.candidate;
      leads = free.is.leads;
      bond = free.is.other_bond;
      loop_free = free.loop_free.loop_free;
      node = free.loop_free.node;
      node_is = free.loop_free.node_is;
      same = ap alternate_of (sym free.loop_free.is) ∙ same_Some (alternate_of choice) lfa is;
    }

-- the primary is the one that there is
pub its_primary : (area : AreaParts) (s t : ℕ) (one other : Primary) → IsPrimary area s t (Some one) → IsPrimary area s t (Some other) → one ≡ other
its_primary area s t one other is is' = same_Some one other (one_entry area s t (Some one) (Some other) is is')

module _ (area : AreaParts) (kept : IsArea area) (s t : ℕ) where
  -- a candidate's next is a router, or t
  pub next_at : (c : Candidate) → ToNeighbour area s t c → IsAt area kept t c.next
  next_at c (Straight number arc leaves which) = which
  next_at c (Across number second arc onward leaves leads on router further) = inl router

  pub next_within : (c : Candidate) → ToNeighbour area s t c → c.next < length area.ids
  next_within c (Straight number arc leaves which) = (arcs_between area kept).tos number arc leaves.there
  next_within c (Across number second arc onward leaves leads on router further) = (arcs_between area kept).tos second onward on.there

  -- its arcs do not use a bond of s that is not that of its first arc
  pub own_bonds : IsRouter area.ids s → (j : ℕ) (base : Arc) → slice_get area.arcs j ≡ Some base → base.tail ≡ s → (c : Candidate) → ToNeighbour area s t c → c.bond ≢ base.bond
      → (own : List Arc) → AreHopArcs area.arcs c.first c.second own → ¬ UsesBond own base.bond
  own_bonds router j base at from c (Straight number arc leaves which) other own are uses =
      let same : arc ∷ [] ≡ own = same_Some _ _ (rw leaves.there at are) in
      elim (subst (λ (o : List Arc). UsesBond o base.bond) (sym same) uses) [ inl bond ↦ other bond | inr nothing ↦ nothing ]
  own_bonds router j base at from c (Across number k arc onward leaves leads on far further) other own are uses =
      let same : arc ∷ onward ∷ [] ≡ own = same_Some _ _ (rw (leaves.there, on.there) at are) in
      elim (subst (λ (o : List Arc). UsesBond o base.bond) (sym same) uses) [
        | inl bond ↦ other bond
        | inr later ↦ elim later [
          | inl bond ↦ elim (touches area kept j k s base onward at on.there from bond) [
            | inl tail ↦ router_alone area.ids s router (subst (λ (v : ℕ). IsNetwork area.ids v) (sym on.from ∙ tail) leads.network)
            | inr to ↦ further to
          ]
          | inr nothing ↦ nothing
        ]
      ]

-- its arcs lead from s to its next
record Own (area : AreaParts) (s : ℕ) (c : Candidate) : Type 0 where
  own : List Arc
  are : AreHopArcs area.arcs c.first c.second own
  leads : ArcWalk area.arcs s own c.next

own_of : (area : AreaParts) (s t : ℕ) (c : Candidate) → ToNeighbour area s t c → Own area s c
own_of area s t c (Straight number arc leaves which) =
    record { own = arc ∷ []; are = rw leaves.there refl; leads = (contains_at area.arcs number arc leaves.there, leaves.from, refl) }
own_of area s t c (Across number second arc onward leaves leads on router further) = record {
  own = arc ∷ onward ∷ [];
  are = rw (leaves.there, on.there) refl;
  leads = (contains_at area.arcs number arc leaves.there, leaves.from, (contains_at area.arcs second onward on.there, on.from, refl));
}

pub its_own : (area : AreaParts) (s t : ℕ) (lfa : Lfa) → IsLfa area s t (Some lfa) → (own : List Arc) × AreHopArcs area.arcs lfa.first lfa.second own
its_own area s t lfa is =
    let by = chosen area s t lfa is in
    let own = own_of area s t by.candidate by.leads in
    (own.own, subst (λ (l : Lfa). AreHopArcs area.arcs l.first l.second own.own) by.same own.are)

pub its_own_leads : (area : AreaParts) (s t : ℕ) (lfa : Lfa) → IsLfa area s t (Some lfa) → (own : List Arc) → AreHopArcs area.arcs lfa.first lfa.second own
    → ArcWalk area.arcs s own lfa.next
its_own_leads area s t lfa is own =
    let by = chosen area s t lfa is in
    let its = own_of area s t by.candidate by.leads in
    subst (λ (l : Lfa). AreHopArcs area.arcs l.first l.second own → ArcWalk area.arcs s own l.next) by.same
    (λ are. subst (λ (o : List Arc). ArcWalk area.arcs s o by.candidate.next) (same_Some its.own own (sym its.are ∙ are)) its.leads)

first_within : (area : AreaParts) (s t : ℕ) (c : Candidate) → ToNeighbour area s t c → c.first < length area.arcs
first_within area s t c (Straight number arc leaves which) = slice_get_within area.arcs number arc leaves.there
first_within area s t c (Across number second arc onward leaves leads on router further) = slice_get_within area.arcs number arc leaves.there

-- the arc and the next of an alternate are there
pub arc_there : (area : AreaParts) (s t : ℕ) (entry : Option Lfa) → IsLfa area s t entry → IfSome entry (λ lfa. lfa.first < length area.arcs)
arc_there area s t None is = tt
arc_there area s t (Some lfa) is =
    let by = chosen area s t lfa is in
    subst (λ (l : Lfa). l.first < length area.arcs) by.same (first_within area s t by.candidate by.leads)

pub next_there : (area : AreaParts) → IsArea area → (s t : ℕ) (entry : Option Lfa) → IsLfa area s t entry → IfSome entry (λ lfa. lfa.next < length area.ids)
next_there area kept s t None is = tt
next_there area kept s t (Some lfa) is =
    let by = chosen area s t lfa is in
    subst (λ (l : Lfa). l.next < length area.ids) by.same (next_within area kept s t by.candidate by.leads)
