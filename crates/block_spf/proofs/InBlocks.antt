-- Blocks with a closing link, and the steps of their nodes.
use Rattle.std.proofs.Common.{◌≡◌, ◌≢◌, ◌<◌, ◌≤◌, ◌∙◌, ℕ, List, Some, length, slice_get, inl, inr, sym, ap, subst, arith}
use Rattle.std.proofs.lemmas.Bool.{cases_eq}
use Rattle.std.proofs.lemmas.Option.{same_Some, slice_get_within}
use Rattle.mrt_graph.specs.declared.link.End.{End}
use Rattle.mrt_graph.specs.GraphInvariant.{IsEnd, IsTopology}
use Rattle.mrt_graph.specs.Leads.{leads}
use Rattle.mrt_graph.specs.Topology.{Topology}
use Rattle.mrt_graph.proofs.EndsAt.{end_leads}
use Rattle.mrt_graph.proofs.Hops.{lead_back}
use Rattle.mrt_graph.proofs.ListTests.{all_at}
use Rattle.link_direction.specs.Directions.{Directions}
use Rattle.block_spf.specs.declared.reach.Dir.{Dir}
use Rattle.block_spf.specs.declared.reach.Dir.TheVariants.{Down, Up}
use Rattle.block_spf.specs.Path.{IsStep, LeadsOn}
use Rattle.block_spf.specs.Turns.{turn_of}
use Rattle.link_direction.proofs.LinkNodes.{leads_elsewhere, leads_within, link_within}
use Rattle.link_direction.proofs.ClosedBlocks.{IsClosed, IsOrdered, closing_is, closing_leads, closing_tail, is_closing, leads_inside, member_not_head}

-- a step of a block: where it leads, within the graph
pub record IsMove (g : Topology) (w : Directions) (k x : ℕ) (end : End) : Type 0 where
  pub onward : leads g.links end.link x ≡ Some end.to
  pub in_block : w.lies_in end.link ≡ k
  pub link : end.link < length g.links
  pub from_within : x < length g.ids
  pub to_within : end.to < length g.ids
  pub apart : x ≢ end.to
  pub metric : end.metric ≤ 65535

pub move_of : (g : Topology) (w : Directions) (dir : Dir) (k x : ℕ) (end : End) → IsTopology g → IsStep g w dir k x end → IsMove g w k x end
move_of g w dir k x end kept step =
    let onward = end_leads g x step.place step.ends end kept step.list step.there in
    let within = leads_within g end.link x end.to kept onward in
    let end_is : IsEnd (length g.ids) g.links x end = all_at (IsEnd (length g.ids) g.links x) step.ends step.place end (kept.ends_kept x step.ends step.list).kept step.there in
    record {
      onward = onward;
      in_block = step.in_block;
      link = link_within g end.link x end.to kept onward;
      from_within = within.0;
      to_within = within.1;
      apart = leads_elsewhere g end.link x end.to kept onward;
      metric = omega (arith, end_is.metric);
    }

-- a step stands in the one list of its node's ends
pub there_too : (g : Topology) (w : Directions) (dir : Dir) (k x : ℕ) (ends : List End) (end : End) → slice_get g.ends x ≡ Some ends → (step : IsStep g w dir k x end)
    → slice_get ends step.place ≡ Some end
there_too g w dir k x ends end list step =
    subst (λ (es : List End). slice_get es step.place ≡ Some end) (same_Some step.ends ends (sym step.list ∙ list)) step.there

pub step_early : (g : Topology) (w : Directions) (dir : Dir) (k x place : ℕ) (ends : List End) (end : End) → slice_get g.ends x ≡ Some ends → (step : IsStep g w dir k x end)
    → step.place ≡ place → place < length ends
step_early g w dir k x place ends end list step here = omega (arith, here, slice_get_within ends step.place end (there_too g w dir k x ends end list step))

-- and that from a place is over the end there
pub same_end : (g : Topology) (w : Directions) (dir : Dir) (k x place : ℕ) (ends : List End) (end other : End) → slice_get g.ends x ≡ Some ends
    → slice_get ends place ≡ Some end → (step : IsStep g w dir k x other) → step.place ≡ place → other ≡ end
same_end g w dir k x place ends end other list there step here =
    same_Some other end (sym (there_too g w dir k x ends other list step) ∙ ap (λ (i : ℕ). slice_get ends i) here ∙ there)

-- a step from a node of the block leads to another one, whose turn is later, or to the head
pub data Onto (dir : Dir) (n : ℕ) (w : Directions) (k h x to : ℕ) : Type 0 where
  Later : w.block to ≡ k → turn_of dir n w x < turn_of dir n w to → Onto dir n w k h x to
  Home : to ≡ h → Onto dir n w k h x to

pub step_from_member : (g : Topology) (root : ℕ) (w : Directions) (dir : Dir) (k h x : ℕ) (end : End) → IsOrdered g root w → IsClosed g root w k h → w.block x ≡ k
    → IsStep g w dir k x end → Onto dir (length g.ids) w k h x end.to
step_from_member g root w dir k h x end is closed in_block step = elim (cases_eq end.to h) [
  | inl home ↦ Home home
  | inr other ↦ elim (leads_inside g root w k h end.link x end.to is closed move.onward move.in_block) [
    | inl inside ↦ Later inside (turns dir step.leads_on other)
    | inr home ↦ Home home
  ]
]
  where
    move : IsMove g w k x end
    move = move_of g w dir k x end is.kept step

    turns : (dir' : Dir) → LeadsOn w dir' x end → end.to ≢ h → turn_of dir' (length g.ids) w x < turn_of dir' (length g.ids) w end.to
    turns Up on other = elim (is_closing (w.role end.link)) [
      | inl closing ↦
          let same = closing_is g root w k h end.link closed move.link move.in_block closing in
          let at : closed.closing.greatest ≡ x = sym (closing_tail g root w k h end.link closed same) ∙ on in
          let onto : leads g.links end.link x ≡ Some h =
          subst (λ (y : ℕ). leads g.links end.link y ≡ Some h) at (closing_leads g root w k h end.link closed same) in
          absurd (other (same_Some end.to h (sym move.onward ∙ onto)))
      | inr plain ↦
          omega (arith, is.ordered.orders.from_one x move.from_within, is.ordered.links.forward end.link x end.to move.onward on plain)
    ]
    turns Down on other = elim (is_closing (w.role end.link)) [
      | inl closing ↦
          let same = closing_is g root w k h end.link closed move.link move.in_block closing in
          let at : closed.closing.greatest ≡ end.to = sym (closing_tail g root w k h end.link closed same) ∙ on in
          let onto : leads g.links end.link end.to ≡ Some h =
          subst (λ (y : ℕ). leads g.links end.link y ≡ Some h) at (closing_leads g root w k h end.link closed same) in
          let back = lead_back g.links end.link x end.to move.onward in
          absurd (member_not_head g root w k h x is closed move.from_within in_block (same_Some x h (sym back ∙ onto)))
      | inr plain ↦
          omega (arith, is.ordered.orders.to_n x move.from_within, is.ordered.links.forward end.link end.to x (lead_back g.links end.link x end.to move.onward) on plain)
    ]

-- a step from the head leads to a node of the block
pub step_from_head : (g : Topology) (root : ℕ) (w : Directions) (dir : Dir) (k h : ℕ) (end : End) → IsOrdered g root w → IsClosed g root w k h → IsStep g w dir k h end
    → w.block end.to ≡ k
step_from_head g root w dir k h end is closed step =
    let move = move_of g w dir k h end is.kept step in
    elim (leads_inside g root w k h end.link h end.to is closed move.onward move.in_block) [
      | inl inside ↦ inside
      | inr home ↦ absurd (move.apart (sym home))
    ]
