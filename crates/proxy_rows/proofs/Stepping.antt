-- A search comes on what the ends of a node lead to, one after another; what it marks is a side of the block.
use Rattle.std.proofs.Common.{◌≡◌, ◌<◌, ◌+◌, ◌∙◌, ◌↔◌, ℕ, List, [], Bool, true, false, Some, length, replicate, slice_get, inl, inr, refl, sym, subst, arith}
use Rattle.std.proofs.lemmas.Bool.{cases_lt}
use Rattle.std.proofs.lemmas.Option.{same_Some, slice_get_within}
use Rattle.mrt_graph.specs.declared.link.End.{End}
use Rattle.mrt_graph.specs.Certificate.{Certificate}
use Rattle.mrt_graph.specs.GraphInvariant.{IsTopology}
use Rattle.mrt_graph.specs.Reachable.{Reachable}
use Rattle.mrt_graph.specs.Search.{Enters, IsMarked, SearchState}
use Rattle.mrt_graph.specs.Topology.{Topology}
use Rattle.mrt_graph.proofs.EndsAt.{end_leads, leads_end, list_of_ends}
use Rattle.mrt_graph.proofs.Hops.{lead_back}
use Rattle.mrt_graph.proofs.Searching.{enters_both, enters_none, enters_same, no_mark_at_first}
use Rattle.mrt_graph.proofs.Settled.{path_stays, reachable_onward}
use Rattle.proxy_rows.specs.declared.attachment.Attachment.{Attachment}
use Rattle.proxy_rows.specs.declared.side.Side.{Side}
use Rattle.proxy_rows.specs.Sides.{IsIn, Router, Onward, IsMember, IsOfBlock, goes_on, router_of}
use Rattle.proxy_rows.specs.steps.Steps.{LeadsTo, OneLeadsTo, StepsTo}

-- the end at a place leads to s
abbrev pub LeadsAt : Certificate → Attachment → Side → ℕ → List End → ℕ → ℕ → Type 0
LeadsAt c at side v ends k s = (end : End) × (slice_get ends k ≡ Some end) × LeadsTo c at side v end s

-- one of the first ends does
abbrev pub LeadsBelow : Certificate → Attachment → Side → ℕ → List End → ℕ → ℕ → Type 0
LeadsBelow c at side v ends n s = (k : ℕ) × (k < n) × LeadsAt c at side v ends k s

module _ (c : Certificate) (at : Attachment) (side : Side) (v : ℕ) (ends : List End) where
  pub first_end : (search : SearchState) → Enters (LeadsBelow c at side v ends 0) search search
  first_end search =
      enters_same (λ (s : ℕ). ⊥) (LeadsBelow c at side v ends 0) search search (λ s h. absurd h) (λ s h. absurd (omega (arith, h.1))) (enters_none search)

  pub next_end : (n : ℕ) (end : End) (s0 s1 s2 : SearchState) → slice_get ends n ≡ Some end → Enters (LeadsBelow c at side v ends n) s0 s1
      → Enters (LeadsTo c at side v end) s1 s2 → Enters (LeadsBelow c at side v ends (n + 1)) s0 s2
  next_end n end s0 s1 s2 at_n before here =
      enters_both (LeadsBelow c at side v ends n) (LeadsTo c at side v end) (LeadsBelow c at side v ends (n + 1))
      (λ s h. (h.0, omega (arith, h.1), h.2))
      (λ s h. (n, omega arith, (end, at_n, h)))
      (λ s h. elim (cases_lt h.0 n) [
        | inl below ↦ inl (h.0, below, h.2)
        | inr above ↦
            let last : h.0 ≡ n = omega (arith, h.1) in
            let at_last : slice_get ends n ≡ Some h.2.0 = subst (λ (k : ℕ). slice_get ends k ≡ Some h.2.0) last h.2.1 in
            let same : h.2.0 ≡ end = same_Some _ _ (sym at_last ∙ at_n) in
            inr (subst (λ (e : End). LeadsTo c at side v e s) same h.2.2)
      ])
      s0 s1 s2 before here

  pub all_ends : (s0 s1 : SearchState) → Enters (LeadsBelow c at side v ends (length ends)) s0 s1 → Enters (OneLeadsTo c at side v ends) s0 s1
  all_ends s0 s1 e =
      enters_same (LeadsBelow c at side v ends (length ends)) (OneLeadsTo c at side v ends) s0 s1
      (λ s h. (h.0, h.2.0, h.2.1, h.2.2)) (λ s h. (h.0, slice_get_within ends h.0 h.1 h.2, (h.1, h.2, h.3))) e

module _ (g : Topology) (c : Certificate) (at : Attachment) (side : Side) where
  -- the ends of v
  pub steps_of : (v : ℕ) (ends : List End) (s0 s1 : SearchState) → slice_get g.ends v ≡ Some ends → Enters (OneLeadsTo c at side v ends) s0 s1
      → Enters (StepsTo g c at side v) s0 s1
  steps_of v ends s0 s1 list e =
      enters_same (OneLeadsTo c at side v ends) (StepsTo g c at side v) s0 s1
      (λ s h. record { ends = ends; list = list; one = h })
      (λ s h. subst (λ (es : List End). OneLeadsTo c at side v es s) (same_Some _ _ (sym h.list ∙ list)) h.one) e

  -- a step from a node of a side leads to one
  in_by_step : IsTopology g → (v s : ℕ) → IsIn g.links c at side v → StepsTo g c at side v s → IsIn g.links c at side s
  in_by_step kept v s is step =
      let end = step.one.1 in
      let leads = step.one.3.0 in
      let on = end_leads g v step.one.0 step.ends end kept step.list step.one.2 in
      subst (IsIn g.links c at side) (sym step.one.3.1)
      (Onward end.to end.link v leads.member leads.of_block (lead_back g.links end.link v end.to on) leads.onward is)

  -- where a side has a node, it has its router
  pub router_too : (s : ℕ) → IsIn g.links c at side s → IsMember c at (router_of at side)
  router_too s (Router _ same is) = subst (IsMember c at) same is
  router_too s (Onward _ e v is of onward on rest) = router_too v rest

  -- steps from the router lead to each node of the side
  reached : IsTopology g → ((v : ℕ) → IsMember c at v → v < length g.ids) → (s : ℕ) → IsIn g.links c at side s
      → Reachable (StepsTo g c at side) (router_of at side) s
  reached kept within s (Router _ same is) = ([], sym same)
  reached kept within s (Onward _ e v is of onward on rest) =
      let r = reached kept within v rest in
      let v_member = member_of v rest in
      let list = list_of_ends g v kept (within v v_member) in
      let end = leads_end g v e s list.0 kept list.1 (lead_back g.links e s v onward) in
      let step : StepsTo g c at side v s =
      record {
        ends = list.0;
        list = list.1;
        one = (
          end.place,
          end.end,
          end.at,
          (
            record {
              of_block = subst (IsOfBlock c at) (sym end.over) of;
              member = subst (IsMember c at) (sym end.to) is;
              onward = subst (λ (x : ℕ). goes_on c side x v ≡ true) (sym end.to) on;
            },
            sym end.to,
          ),
        );
      } in
      reachable_onward (StepsTo g c at side) (router_of at side) v s r step
    where
      member_of : (v : ℕ) → IsIn g.links c at side v → IsMember c at v
      member_of v (Router _ same is) = is
      member_of v (Onward _ e u is of onward on rest) = is

  -- a side is what steps from its router reach
  pub side_is : IsTopology g → ((v : ℕ) → IsMember c at v → v < length g.ids) → IsMember c at (router_of at side)
      → (marks : List Bool) → ((s : ℕ) → IsMarked marks s ↔ Reachable (StepsTo g c at side) (router_of at side) s)
      → (s : ℕ) → IsMarked marks s ↔ IsIn g.links c at side s
  side_is kept within member marks exactly s = (
    λ marked.
        let path = (exactly s).0 marked in
        path_stays (StepsTo g c at side) (IsIn g.links c at side) (in_by_step kept) path.0 (router_of at side) s (Router (router_of at side) refl member) path.1,
    λ is. (exactly s).1 (reached kept within s is),
  )

  -- where the router is no member, nothing is on the side
  pub none_is : (IsMember c at (router_of at side) → ⊥) → (marks : List Bool) → marks ≡ replicate (length g.ids) false → (s : ℕ) → IsMarked marks s ↔ IsIn g.links c at side s
  none_is outside marks none s = (
    λ marked. absurd (no_mark_at_first (length g.ids) s (subst (λ (xs : List Bool). IsMarked xs s) none marked)),
    λ is. absurd (outside (router_too s is)),
  )
