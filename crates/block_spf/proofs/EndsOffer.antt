-- Which ends of a node offer ways, by the marks of their links.
use Rattle.std.proofs.Common.{◌≡◌, ◌≢◌, ◌⊎◌, ◌<◌, ◌+◌, ◌*◌, ◌∙◌, ℕ, true, false, List, length, inl, inr, refl, sym, ap, subst}
use Rattle.mrt_graph.specs.declared.cert.Role.TheVariants.{Sole}
use Rattle.mrt_graph.specs.declared.gadag.Mark.{Mark}
use Rattle.mrt_graph.specs.declared.link.End.{End}
use Rattle.mrt_graph.specs.DirectedLists.{DirectedLists}
use Rattle.mrt_graph.specs.GraphInvariant.{IsTopology}
use Rattle.mrt_graph.specs.Topology.{Topology}
use Rattle.link_direction.specs.Directions.{Directions, Says}
use Rattle.block_spf.specs.declared.fan.Opening.{Opening}
use Rattle.block_spf.specs.declared.reach.Dir.{Dir}
use Rattle.block_spf.specs.steps.Known.{IsOne, IsOver, Known, known}
use Rattle.block_spf.specs.steps.Offers.{IsFirstOffer, IsFurtherOffer, goes_on}
use Rattle.block_spf.specs.Path.{IsStep, LeadsOn}
use Rattle.block_spf.proofs.InBlocks.{same_end}
use Rattle.block_spf.proofs.Marks.{IsMarkedEnd, marked_block, marked_role, test_leads_back, test_leads_on}

module _ (opening : Opening) (w : Directions) (x place : ℕ) (ends : List End) (end : End) (mark : Mark) (kept : IsTopology opening.graph.now)
    (says : Says opening.graph.now opening.directed.now w) (is : IsMarkedEnd opening.graph.now opening.directed.now x place ends end mark) where
  abbrev g : Topology
  g = opening.graph.now

  abbrev d : DirectedLists
  d = opening.directed.now

  abbrev dir : Dir
  dir = opening.dir

  -- a step from this place is over this end
  at_end : (k : ℕ) (other : End) (step : IsStep g w dir k x other) → step.place ≡ place → other ≡ end
  at_end k other step here = same_end g w dir k x place ends end other is.list is.there step here

  step_on : (k : ℕ) → w.lies_in end.link ≡ k → goes_on dir mark.way x end.to ≡ true → IsStep g w dir k x end
  step_on k in_block goes = record {
    ends = ends;
    list = is.list;
    place = place;
    there = is.there;
    in_block = in_block;
    leads_on = test_leads_on g d w dir x place ends end mark kept says is goes;
  }

  in_block : w.lies_in end.link ≡ mark.block
  in_block = sym (marked_block g d w x place ends end mark kept says is)

  -- one that leads on in the block of x
  module _ (costs places : List ℕ) (at : ℕ) (at_is : at ≡ end.to * length costs) (i : ℕ) (offer : Known) where
    pub further_is : mark.block ≡ w.block x → goes_on dir mark.way x end.to ≡ true → IsOver costs places end.metric at i offer
        → IsFurtherOffer opening w x costs places place i offer
    unfolding step_on
    further_is own goes over = record {
      end = end;
      step = step_on (w.block x) (in_block ∙ own) goes;
      here = refl;
      over = subst (λ (p : ℕ). IsOver costs places end.metric p i offer) at_is over;
    }

    pub further_back : IsFurtherOffer opening w x costs places place i offer → IsOver costs places end.metric at i offer
    further_back it =
        subst (λ (p : ℕ). IsOver costs places end.metric p i offer) (sym at_is)
        (subst (λ (e : End). IsOver costs places e.metric (e.to * length costs) i offer) (at_end (w.block x) it.end it.step it.here) it.over)

  pub further_not : (mark.block ≢ w.block x) ⊎ (goes_on dir mark.way x end.to ≡ false) → (costs places : List ℕ) (i : ℕ) (offer : Known)
      → IsFurtherOffer opening w x costs places place i offer → ⊥
  further_not fails costs places i offer it =
      let same = at_end (w.block x) it.end it.step it.here in
      elim fails [
        | inl elsewhere ↦ elsewhere (sym in_block ∙ ap (λ (e : End). w.lies_in e.link) (sym same) ∙ it.step.in_block)
        | inr back ↦ test_leads_back g d w dir x place ends end mark kept says is back (subst (λ (e : End). LeadsOn w dir x e) same it.step.leads_on)
      ]

  -- one of the source that leads on, and not over a sole link
  module _ (width j at : ℕ) (at_is : at ≡ end.to * width + j) (below : j < width) (i : ℕ) (offer : Known) where
    pub first_is : mark.role ≢ Sole → goes_on dir mark.way x end.to ≡ true → IsOne at (known end.metric place) i offer
        → IsFirstOffer opening w x width j place i offer
    unfolding step_on
    first_is not_sole goes one = record {
      below = below;
      end = end;
      step = step_on (w.lies_in end.link) refl goes;
      here = refl;
      not_sole = λ sole. not_sole (marked_role g d w x place ends end mark kept says is ∙ sole);
      one = record { there = one.there ∙ at_is; same = one.same };
    }

    pub first_back : IsFirstOffer opening w x width j place i offer → IsOne at (known end.metric place) i offer
    first_back it =
        let same = at_end (w.lies_in it.end.link) it.end it.step it.here in
        record {
          there = it.one.there ∙ ap (λ (e : End). e.to * width + j) same ∙ sym at_is;
          same = it.one.same ∙ ap (λ (e : End). known e.metric place) same;
        }

  pub first_not : (mark.role ≡ Sole) ⊎ (goes_on dir mark.way x end.to ≡ false) → (width j i : ℕ) (offer : Known)
      → IsFirstOffer opening w x width j place i offer → ⊥
  first_not fails width j i offer it =
      let same = at_end (w.lies_in it.end.link) it.end it.step it.here in
      elim fails [
        | inl sole ↦ it.not_sole (ap (λ (e : End). w.role e.link) same ∙ sym (marked_role g d w x place ends end mark kept says is) ∙ sole)
        | inr back ↦ test_leads_back g d w dir x place ends end mark kept says is back (subst (λ (e : End). LeadsOn w dir x e) same it.step.leads_on)
      ]
