-- The steps of a block of more than one link: where the first links of its paths lead.
use Rattle.std.proofs.Common.{◌≡◌, ◌≢◌, ◌⊎◌, ◌∙◌, ◌≤◌, ℕ, [], ◌∷◌, Some, sym, subst, inl, inr, arith}
use Rattle.mrt_graph.specs.declared.cert.Role.TheVariants.{Closing, Plain}
use Rattle.mrt_graph.specs.declared.link.End.{End}
use Rattle.mrt_graph.specs.Leads.{leads}
use Rattle.mrt_graph.proofs.Hops.{lead_back}
use Rattle.block_spf.specs.declared.reach.Dir.{Dir}
use Rattle.block_spf.specs.declared.reach.Dir.TheVariants.{Down, Up}
use Rattle.block_spf.specs.Against.{against}
use Rattle.block_spf.specs.Path.{IsStep, LeadsOn, Path}
use Rattle.mrt_rows.proofs.OrderedGraphs.{OrderedGraph, TailAt, step_leads, step_over}
use Rattle.mrt_rows.proofs.Ways.{Further, Inside, Ring, Way, begun, from, from_head, goes_further, home_role, not_head, put_before, up_from_top}
use Rattle.mrt_rows.proofs.WaysBegun.{WayOver}

-- in this direction link e of m's block leads from u to y
pub record IsOver (og : OrderedGraph) (m : ℕ) (dir : Dir) (e u y : ℕ) : Type 0 where
  pub onward : leads og.g.links e u ≡ Some y
  pub tail : TailAt og dir e u y
  pub block : og.w.lies_in e ≡ og.w.block m

-- y does not come before u
abbrev pub IsFrom : OrderedGraph → Dir → ℕ → ℕ → Type 0
IsFrom og Up u y = og.w.order u ≤ og.w.order y
IsFrom og Down u y = og.w.order y ≤ og.w.order u

-- a step between nodes of the block
pub record IsInner (og : OrderedGraph) (m : ℕ) (dir : Dir) (e u y : ℕ) : Type 0 where
  pub over : IsOver og m dir e u y
  pub plain : og.w.role e ≡ Plain
  pub inside : Inside og m y
  pub beyond : Further og dir u y

-- a step home goes up over the closing link from the greatest node, or down over a plain link
abbrev pub HomeRole : OrderedGraph → ℕ → Dir → ℕ → ℕ → Type 0
HomeRole og top Up e u = (og.w.role e ≡ Closing) × (u ≡ top)
HomeRole og top Down e u = og.w.role e ≡ Plain

pub record IsHome (og : OrderedGraph) (m top : ℕ) (dir : Dir) (e u y : ℕ) : Type 0 where
  pub over : IsOver og m dir e u y
  pub role : HomeRole og top dir e u
  pub there : y ≡ og.w.head m

-- a step from the head is over a link that leads home in the other direction
pub record IsOut (og : OrderedGraph) (m : ℕ) (dir : Dir) (e u y : ℕ) : Type 0 where
  pub over : IsOver og m dir e u y
  pub role : og.w.role e ≡ home_role (against dir)
  pub inside : Inside og m y

-- a way is at its end, or goes on
abbrev pub GoesOn : OrderedGraph → ℕ → Dir → ℕ → ℕ → Type 0
GoesOn og m dir y t = (y ≡ t) ⊎ Way og m dir y t

pub from_on : (og : OrderedGraph) (dir : Dir) (s u y : ℕ) → IsFrom og dir s u → Further og dir u y → IsFrom og dir s y
from_on og Up s u y from beyond = omega (arith, from, beyond)
from_on og Down s u y from beyond = omega (arith, from, beyond)

pub from_itself : (og : OrderedGraph) (dir : Dir) (s : ℕ) → IsFrom og dir s s
from_itself og Up s = omega arith
from_itself og Down s = omega arith

module _ (og : OrderedGraph) (m : ℕ) (ring : Ring og m) where
  abbrev h : ℕ
  h = og.w.head m

  abbrev top : ℕ
  top = ring.closed.greatest

  -- the direction in which a step takes its link
  step_tail : (dir : Dir) (u : ℕ) (end : End) → LeadsOn og.w dir u end → TailAt og dir end.link u end.to
  step_tail Up u end on = on
  step_tail Down u end on = on

  is_over : (dir : Dir) (u : ℕ) (end : End) → IsStep og.g og.w dir (og.w.block m) u end → IsOver og m dir end.link u end.to
  is_over dir u end step = record {
    onward = step_leads og dir (og.w.block m) u end step;
    tail = step_tail dir u end step.leads_on;
    block = step.in_block;
  }

  -- a step from a node of the block
  from_inside : (dir : Dir) (u : ℕ) (end : End) → Inside og m u → IsStep og.g og.w dir (og.w.block m) u end
      → IsInner og m dir end.link u end.to ⊎ IsHome og m top dir end.link u end.to
  from_inside dir u end inside step = elim (from og m ring dir u end inside step) [
    | inl on ↦ inl (record { over = is_over dir u end step; plain = on.2; inside = on.0; beyond = on.1 })
    | inr home ↦ inr (record { over = is_over dir u end step; role = role_of dir step home.1; there = home.0 })
  ]
    where
      role_of : (dir : Dir) → IsStep og.g og.w dir (og.w.block m) u end → og.w.role end.link ≡ home_role dir → HomeRole og top dir end.link u
      role_of Up step is = (is, up_from_top og m ring u end step is)
      role_of Down step is = is

  -- where a way over a link goes after it
  goes_on : (dir : Dir) (u z link : ℕ) (way : WayOver og m dir u z link) → z ≢ h
      → GoesOn og m dir way.end.to z
  goes_on dir u z link way other = elim (begun og m dir u way.end way.others z way.is).goes [
    | inl there ↦ inl there
    | inr more ↦ inr (record { path = way.others; is = more.1 })
  ]

  -- over the first link from a node of the block
  pub first_step : (dir : Dir) (u z link : ℕ) → Inside og m u → (way : WayOver og m dir u z link)
      → IsInner og m dir link u way.end.to ⊎ IsHome og m top dir link u way.end.to
  first_step dir u z link inside way =
      let step = (begun og m dir u way.end way.others z way.is).step in
      subst (λ (e : ℕ). IsInner og m dir e u way.end.to ⊎ IsHome og m top dir e u way.end.to) (sym way.over)
      (from_inside dir u way.end inside step)

  -- towards another node of the block
  pub record Peerwards (dir : Dir) (u t link y : ℕ) : Type 0 where
    pub inner : IsInner og m dir link u y
    pub rest : GoesOn og m dir y t

  pub peer_step : (dir : Dir) (u t link : ℕ) → Inside og m u → Inside og m t → (way : WayOver og m dir u t link)
      → Peerwards dir u t link way.end.to
  peer_step dir u t link inside target way =
      let first = begun og m dir u way.end way.others t way.is in
      elim (first_step dir u t link inside way) [
        | inl inner ↦ record {
          inner = inner;
          rest = goes_on dir u t link way (not_head og m ring t target);
        }
        | inr home ↦ elim first.goes [
          | inl there ↦ absurd (not_head og m ring t target (sym there ∙ home.there))
          | inr more ↦ absurd (more.0 home.there)
        ]
      ]

  -- from the head towards a node of the block
  pub record Outwards (dir : Dir) (t link y : ℕ) : Type 0 where
    pub out : IsOut og m dir link h y
    pub rest : GoesOn og m dir y t

  pub out_step : (dir : Dir) (t link : ℕ) → Inside og m t → (way : WayOver og m dir h t link)
      → Outwards dir t link way.end.to
  out_step dir t link target way =
      let step = (begun og m dir h way.end way.others t way.is).step in
      let on = from_head og m ring dir way.end step in
      record {
        out = subst (λ (e : ℕ). IsOut og m dir e h way.end.to) (sym way.over)
            (record { over = is_over dir h way.end step; role = on.1; inside = on.0 });
        rest = goes_on dir h t link way (not_head og m ring t target);
      }

  -- a step back, put before a way
  tail_back : (dir : Dir) (e u y : ℕ) → TailAt og dir e u y → TailAt og (against dir) e y u
  tail_back Up e u y tail = tail
  tail_back Down e u y tail = tail

  pub way_back : (dir : Dir) (e u y t : ℕ) → Inside og m u → IsOver og m dir e u y → Way og m (against dir) u t
      → Way og m (against dir) y t
  way_back dir e u y t inside over way =
      let step =
      step_over og (against dir) (og.w.block m) e y u (lead_back og.g.links e u y over.onward) over.block
      (tail_back dir e u y over.tail) in
      record {
        path = step.end ∷ way.path;
        is = put_before og m (against dir) y step.end way.path t step.step
            (λ home. not_head og m ring u inside (sym step.to ∙ home))
            (subst (λ (x : ℕ). Path og.g og.w (against dir) (og.w.block m) h x way.path t) (sym step.to) way.is);
      }

  -- and a step on
  pub way_on : (dir : Dir) (e u y t : ℕ) → IsInner og m dir e u y → Way og m dir y t → Way og m dir u t
  way_on dir e u y t inner way =
      let step = step_over og dir (og.w.block m) e u y inner.over.onward inner.over.block inner.over.tail in
      record {
        path = step.end ∷ way.path;
        is = put_before og m dir u step.end way.path t step.step
            (λ home. not_head og m ring y inner.inside (sym step.to ∙ home))
            (subst (λ (x : ℕ). Path og.g og.w dir (og.w.block m) h x way.path t) (sym step.to) way.is);
      }

  pub one_step : (dir : Dir) (e u y t : ℕ) → IsInner og m dir e u y → y ≡ t → Way og m dir u t
  one_step dir e u y t inner there =
      let step = step_over og dir (og.w.block m) e u y inner.over.onward inner.over.block inner.over.tail in
      record { path = step.end ∷ []; is = (step.step, step.to ∙ there) }

  -- the orders along a way between nodes of the block
  pub beyond_on : (dir : Dir) (u t : ℕ) → Inside og m u → Inside og m t → Way og m dir u t → Further og dir u t
  beyond_on dir u t source target way = goes_further og m ring dir u way.path t source target way.is
