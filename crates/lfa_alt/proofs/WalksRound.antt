-- The walk from the next of a loop-free alternate.
use Rattle.std.proofs.Common.{◌≡◌, ◌∙◌, ◌++◌, ℕ, true, List, Option, Some, slice_get, inl, inr, sym, ap, subst}
use Rattle.std.proofs.lemmas.Option.{same_Some}
use Rattle.area_graph.specs.declared.area_types.Arc.{Arc}
use Rattle.area_graph.specs.AreaInvariant.{IsArea}
use Rattle.area_graph.specs.Parts.{AreaParts}
use Rattle.primary_alt.specs.declared.shortest.Primary.{Primary}
use Rattle.primary_alt.specs.ArcWalk.{ArcWalk}
use Rattle.primary_alt.specs.Primaries.{IsPrimary}
use Rattle.primary_alt.specs.Routers.{IsRouter}
use Rattle.primary_alt.proofs.RouterFacts.{router_within}
use Rattle.lfa_alt.specs.declared.alternate.Lfa.{Lfa}
use Rattle.lfa_alt.specs.HopWalks.{AreHopArcs, HopWalk, Meets, UsesBond, arcs_of}
use Rattle.lfa_alt.specs.LoopFree.{IsLfa}
use Rattle.lfa_alt.proofs.Beyond.{part_of}
use Rattle.lfa_alt.proofs.Chosen.{IsChosen, chosen, its_primary, next_at, next_within, own_bonds}
use Rattle.lfa_alt.proofs.HopsLead.{IsAt, IsShortest, hops_shortest, hops_there}
use Rattle.lfa_alt.proofs.ShortestWalks.{goes_round, uses_either, uses_meets}

module _ (area : AreaParts) (kept : IsArea area) (s t : ℕ) (router : IsRouter area.ids s) (lfa : Lfa) (is : IsLfa area s t (Some lfa)) (entries : ℕ → Option Primary)
    (are : (x : ℕ) → IsRouter area.ids x → IsPrimary area x t (entries x)) where
  by : IsChosen area s t lfa
  by = chosen area s t lfa is

  next_is : by.candidate.next ≡ lfa.next
  next_is = ap (λ (l : Lfa). l.next) by.same

  at : IsAt area kept t lfa.next
  at = subst (λ (v : ℕ). IsAt area kept t v) next_is (next_at area kept s t by.candidate by.leads)

  pub arrives : (hops : List (List Arc)) × HopWalk area.arcs entries t lfa.next hops
  arrives =
      let near = by.loop_free.near in
      hops_there area kept t entries are lfa.next at near.walk (subst (λ (v : ℕ). ArcWalk area.arcs v near.walk t) next_is near.leads)

  pub leads : (hops : List (List Arc)) → HopWalk area.arcs entries t lfa.next hops → ArcWalk area.arcs lfa.next (arcs_of hops) t
  leads hops walk = (hops_shortest area kept t entries are lfa.next hops at walk).leads

  shortest : (hops : List (List Arc)) → HopWalk area.arcs entries t lfa.next hops → IsShortest area.arcs by.candidate.next t (arcs_of hops)
  shortest hops walk = subst (λ (v : ℕ). IsShortest area.arcs v t (arcs_of hops)) (sym next_is) (hops_shortest area kept t entries are lfa.next hops at walk)

  pub not_source : (hops : List (List Arc)) → HopWalk area.arcs entries t lfa.next hops → Meets lfa.next (arcs_of hops) s → ⊥
  not_source hops walk meets =
      let best = shortest hops walk in
      let part = part_of area kept s t by.primary by.is in
      goes_round area kept (arcs_of hops) by.candidate.next s t _ (next_within area kept s t by.candidate by.leads) (router_within area.ids s router) part.near
      by.loop_free best.leads best.least (subst (λ (v : ℕ). Meets v (arcs_of hops) s) (sym next_is) meets)

  pub not_bond : (hops : List (List Arc)) → HopWalk area.arcs entries t lfa.next hops → (own : List Arc) → AreHopArcs area.arcs lfa.first lfa.second own
      → (primary : Primary) (arc : Arc) → IsPrimary area s t (Some primary) → slice_get area.arcs primary.first ≡ Some arc → UsesBond (own ++ arcs_of hops) arc.bond → ⊥
  not_bond hops walk own arcs primary arc prim there uses =
      let one : primary ≡ by.primary = its_primary area s t primary by.primary prim by.is in
      let part = part_of area kept s t primary prim in
      let from : arc.tail ≡ s = ap (λ (a : Arc). a.tail) (same_Some arc part.arc (sym there ∙ part.there)) ∙ part.from in
      let bond = by.bond in
      let base : bond.arc ≡ arc = same_Some bond.arc arc (sym bond.there ∙ ap (λ (p : Primary). slice_get area.arcs p.first) (sym one) ∙ there) in
      elim (uses_either own (arcs_of hops) arc.bond uses) [
        | inl first ↦
            own_bonds area kept s t router primary.first arc there from by.candidate by.leads (λ same. bond.other (same ∙ ap (λ (a : Arc). a.bond) (sym base)))
            own (subst (λ (l : Lfa). AreHopArcs area.arcs l.first l.second own) (sym by.same) arcs) first
        | inr later ↦ not_source hops walk (uses_meets area kept (arcs_of hops) lfa.next t primary.first s arc there from (leads hops walk) later)
      ]

  pub not_next : lfa.node ≡ true → (primary : Primary) → IsPrimary area s t (Some primary) → (hops : List (List Arc)) → HopWalk area.arcs entries t lfa.next hops
      → Meets lfa.next (arcs_of hops) primary.next → ⊥
  not_next holds primary prim hops walk meets =
      let one : primary ≡ by.primary = its_primary area s t primary by.primary prim by.is in
      let best = shortest hops walk in
      let part = part_of area kept s t by.primary by.is in
      let protects = by.node_is.0 (ap (λ (l : Lfa). l.node) by.same ∙ holds) in
      goes_round area kept (arcs_of hops) by.candidate.next by.primary.next t part.rest (next_within area kept s t by.candidate by.leads) part.next part.far
      protects.nearer best.leads best.least
      (subst (λ (v : ℕ). Meets v (arcs_of hops) by.primary.next) (sym next_is) (subst (λ (p : Primary). Meets lfa.next (arcs_of hops) p.next) one meets))
