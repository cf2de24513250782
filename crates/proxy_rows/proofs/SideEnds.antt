-- The ends that proxy rows ask for are there.
use Rattle.std.proofs.Common.{◌≡◌, ◌≢◌, ◌<◌, ℕ, true, false, length, sym, ap, subst, arith}
use Rattle.mrt_graph.specs.Certificate.{Certificate}
use Rattle.mrt_graph.specs.CertFields.{has_role}
use Rattle.mrt_graph.specs.GraphInvariant.{IsTopology}
use Rattle.mrt_graph.specs.Roles.{is_plain}
use Rattle.mrt_graph.specs.Topology.{Topology}
use Rattle.mrt_graph.proofs.EndsAt.{leads_end, list_of_ends}
use Rattle.proxy_rows.specs.declared.attachment.Attachment.{Attachment}
use Rattle.proxy_rows.specs.declared.side.Side.{Side}
use Rattle.proxy_rows.specs.declared.side.Side.TheVariants.{Low}
use Rattle.proxy_rows.specs.steps.Steps.{HasNoEnd, IsNotPlain}
use Rattle.proxy_rows.specs.steps.LabelledGraph.{IsGround}
use Rattle.proxy_rows.specs.ProxyRows.{IsOnward, IsPlainToLow}
use Rattle.proxy_rows.specs.Sides.{IsIn, Router, Onward, IsOfBlock, goes_on, router_of}
use Rattle.proxy_rows.proofs.BlockRows.{to_high, to_low}
use Rattle.proxy_rows.proofs.Grounds.{counts, head_within}
use Rattle.proxy_rows.proofs.HeadLinks.{not_plain, role_of}

module _ (g : Topology) (c : Certificate) (at : Attachment) where
  -- a node of a side that is not its router has an end on
  pub side_end : IsTopology g → (side : Side) (s : ℕ) → s < length g.ids → s ≢ router_of at side → IsIn g.links c at side s → HasNoEnd g (IsOnward g c at side s) s → ⊥
  side_end kept side s within other (Router _ same is) none = other same
  side_end kept side s within other (Onward _ e v is of onward on rest) none =
      let list = list_of_ends g s kept within in
      let end = leads_end g s e v list.0 kept list.1 onward in
      none list.0 end.place end.end list.1 end.at (record {
        of_block = subst (IsOfBlock c at) (sym end.over) of;
        within = subst (IsIn g.links c at side) (sym end.to) rest;
        onward = subst (λ (x : ℕ). goes_on c side s x ≡ true) (sym end.to) on;
      })

module _ (g : Topology) (c : Certificate) (at : Attachment) (ground : IsGround g c at) where
  -- the head has a plain one to Low, unless it is the router with the lower order
  pub head_end : at.head ≢ at.lower → HasNoEnd g (IsPlainToLow g c at) at.head → ⊥
  head_end other none =
      let h_within = head_within g c at ground in
      let list = list_of_ends g at.head ground.kept (omega (arith, h_within, (counts g c at ground).nodes)) in
      let to = to_low g c at ground other in
      let end = leads_end g at.head to.hop.link to.hop.to list.0 ground.kept list.1 to.leads_on in
      none list.0 end.place end.end list.1 end.at (record {
        of_block = subst (IsOfBlock c at) (sym end.over) to.of;
        plain = subst (λ (e : ℕ). has_role is_plain c e ≡ true) (sym end.over) (role_of c at to.hop.link is_plain to.of (ap is_plain to.plain));
        low = subst (IsIn g.links c at Low) (sym end.to) to.low;
      })

  -- it has one that is not plain
  pub closing_end : HasNoEnd g (IsNotPlain c at) at.head → ⊥
  closing_end none =
      let h_within = head_within g c at ground in
      let list = list_of_ends g at.head ground.kept (omega (arith, h_within, (counts g c at ground).nodes)) in
      let to = to_high g c at ground in
      let end = leads_end g at.head to.hop.link to.hop.to list.0 ground.kept list.1 to.leads_on in
      none list.0 end.place end.end list.1 end.at (record {
        of_block = subst (IsOfBlock c at) (sym end.over) to.of;
        not_plain = subst (λ (e : ℕ). has_role is_plain c e ≡ false) (sym end.over) (not_plain g c at ground to.hop.link to.of to.role);
      })
