-- The links and the paths of a block of more than one link.
use Rattle.std.proofs.Common.{◌≡◌, ◌≢◌, ◌⊎◌, ◌∙◌, ◌<◌, ◌++◌, ℕ, List, [], ◌∷◌, Some, length, refl, sym, ap, subst, inl, inr, arith}
use Rattle.std.proofs.lemmas.Option.{same_Some}
use Rattle.mrt_graph.specs.declared.cert.Role.{Role}
use Rattle.mrt_graph.specs.declared.cert.Role.TheVariants.{Closing, Plain, Sole}
use Rattle.mrt_graph.specs.declared.link.End.{End}
use Rattle.mrt_graph.specs.Leads.{leads}
use Rattle.mrt_graph.proofs.Hops.{lead_back}
use Rattle.link_direction.specs.OrderedGadag.{HasClosingLink}
use Rattle.block_spf.specs.declared.reach.Dir.{Dir}
use Rattle.block_spf.specs.declared.reach.Dir.TheVariants.{Down, Up}
use Rattle.block_spf.specs.Against.{against}
use Rattle.block_spf.specs.Path.{IsStep, Path}
use Rattle.link_direction.proofs.ClosedBlocks.{IsClosed, head_lower as head_below, head_of_member, leads_inside, member_not_head, member_not_root}
use Rattle.block_spf.proofs.HomePaths.{from_head as way_down}
use Rattle.block_spf.proofs.PathsSwept.{path_onward}
use Rattle.mrt_rows.proofs.OrderedGraphs.{OrderedGraph, Within, is_ordered, step_leads, within}

-- node m has a block of more than one link
pub record Ring (og : OrderedGraph) (m : ℕ) : Type 0 where
  pub inside : m < length og.g.ids
  pub other : m ≢ og.root
  pub closed : HasClosingLink og.g og.w m

-- x is a node of m's block
pub record Inside (og : OrderedGraph) (m x : ℕ) : Type 0 where
  pub within : x < length og.g.ids
  pub block : og.w.block x ≡ og.w.block m

-- link e of m's block leads along its direction from u to v: between two nodes of the block, or from the head to one,
-- or home from the greatest one to the head
pub data Directs (og : OrderedGraph) (m top e u v : ℕ) : Type 0 where
  Inner : Inside og m u → Inside og m v → og.w.role e ≡ Plain → og.w.order u < og.w.order v → Directs og m top e u v
  Out : u ≡ og.w.head m → Inside og m v → og.w.role e ≡ Plain → Directs og m top e u v
  Home : u ≡ top → v ≡ og.w.head m → og.w.role e ≡ Closing → Directs og m top e u v

-- a path goes to where its first end leads, or on from there
abbrev pub GoesOn : OrderedGraph → ℕ → Dir → End → List End → ℕ → Type 0
GoesOn og m dir end others t =
    (end.to ≡ t) ⊎ ((end.to ≢ og.w.head m) × Path og.g og.w dir (og.w.block m) (og.w.head m) end.to others t)

pub record Begun (og : OrderedGraph) (m : ℕ) (dir : Dir) (s : ℕ) (end : End) (others : List End) (t : ℕ) : Type 0 where
  pub step : IsStep og.g og.w dir (og.w.block m) s end
  pub goes : GoesOn og m dir end others t

pub begun : (og : OrderedGraph) (m : ℕ) (dir : Dir) (s : ℕ) (end : End) (others : List End) (t : ℕ)
    → Path og.g og.w dir (og.w.block m) (og.w.head m) s (end ∷ others) t → Begun og m dir s end others t
begun og m dir s end [] t path = record { step = path.0; goes = inl path.1 }
begun og m dir s end (next ∷ more) t path = record { step = path.0; goes = inr (path.1, path.2) }

-- a step put before a path
pub put_before : (og : OrderedGraph) (m : ℕ) (dir : Dir) (s : ℕ) (end : End) (path : List End) (t : ℕ)
    → IsStep og.g og.w dir (og.w.block m) s end → end.to ≢ og.w.head m
    → Path og.g og.w dir (og.w.block m) (og.w.head m) end.to path t
    → Path og.g og.w dir (og.w.block m) (og.w.head m) s (end ∷ path) t
put_before og m dir s end [] t step other path = absurd path
put_before og m dir s end (next ∷ more) t step other path = (step, other, path)

-- a step put after a path to a node that is not the head
pub put_after : (og : OrderedGraph) (m : ℕ) (dir : Dir) (s : ℕ) (path : List End) (t : ℕ) (end : End)
    → Path og.g og.w dir (og.w.block m) (og.w.head m) s path t → t ≢ og.w.head m
    → IsStep og.g og.w dir (og.w.block m) t end
    → Path og.g og.w dir (og.w.block m) (og.w.head m) s (path ++ end ∷ []) end.to
put_after og m dir s [] t end path other step = absurd path
put_after og m dir s (first ∷ others) t end path other step =
    path_onward og.g og.w dir (og.w.block m) (og.w.head m) s t first others end path other step

-- a path of m's block
pub record Way (og : OrderedGraph) (m : ℕ) (dir : Dir) (s t : ℕ) : Type 0 where
  pub path : List End
  pub is : Path og.g og.w dir (og.w.block m) (og.w.head m) s path t

-- a step in a direction goes to a greater order, or to a lower one
abbrev pub Further : OrderedGraph → Dir → ℕ → ℕ → Type 0
Further og Up s v = og.w.order s < og.w.order v
Further og Down s v = og.w.order v < og.w.order s

further_on : (og : OrderedGraph) (dir : Dir) (s u v : ℕ) → Further og dir s u → Further og dir u v → Further og dir s v
further_on og Up s u v first then = omega (arith, first, then)
further_on og Down s u v first then = omega (arith, first, then)

pub opposite : (og : OrderedGraph) (dir : Dir) (s v : ℕ) → Further og dir s v → Further og (against dir) s v → ⊥
opposite og Up s v on back = omega (arith, on, back)
opposite og Down s v on back = omega (arith, on, back)

-- or to the head, over a link of this role
abbrev pub home_role : Dir → Role
home_role Up = Closing
home_role Down = Plain

module _ (og : OrderedGraph) (m : ℕ) (ring : Ring og m) where
  abbrev h : ℕ
  h = og.w.head m

  abbrev top : ℕ
  top = ring.closed.greatest

  pub inside_itself : Inside og m m
  inside_itself = record { within = ring.inside; block = refl }

  abbrev block_closed : IsClosed og.g og.root og.w (og.w.block m) h
  block_closed = record { m = m; within = ring.inside; not_root = ring.other; in_block = refl; has_head = refl; closing = ring.closed }

  pub inside_head : (x : ℕ) → Inside og m x → og.w.head x ≡ h
  inside_head x inside = head_of_member og.g og.root og.w (og.w.block m) h x (is_ordered og) block_closed inside.within inside.block

  pub head_lower : (x : ℕ) → Inside og m x → og.w.order h < og.w.order x
  head_lower x inside = head_below og.g og.root og.w (og.w.block m) h x (is_ordered og) block_closed inside.within inside.block

  pub not_head : (x : ℕ) → Inside og m x → x ≢ h
  not_head x inside = member_not_head og.g og.root og.w (og.w.block m) h x (is_ordered og) block_closed inside.within inside.block

  pub top_inside : Inside og m top
  top_inside = record {
    within = (within og.g ring.closed.link top h og.kept ring.closed.over.leads_on).from;
    block = ring.closed.greatest_in_block;
  }

  -- what a link's role is
  role_is : (role : Role) → role ≢ Sole → (role ≡ Plain) ⊎ (role ≡ Closing)
  role_is Plain other = inl refl
  role_is Sole other = absurd (other refl)
  role_is Closing other = inr refl

  pub directs : (e u v : ℕ) → leads og.g.links e u ≡ Some v → og.w.tail e ≡ u → og.w.lies_in e ≡ og.w.block m
      → Directs og m top e u v
  directs e u v onward tail block = elim (role_is (og.w.role e) (ring.closed.none_sole e in_range.link block)) [
    | inl plain ↦
        let up = og.ordered.links.forward e u v onward tail (λ closing. cc) in
        elim (inside_or_head e u v onward block) [
          | inl v_in ↦ elim (inside_or_head e v u (lead_back og.g.links e u v onward) block) [
            | inl u_in ↦ Inner u_in v_in plain up
            | inr home ↦ Out home v_in plain
          ]
          | inr v_home ↦ elim (inside_or_head e v u (lead_back og.g.links e u v onward) block) [
            | inl u_in ↦ absurd (omega (arith, up, head_lower u u_in, ap og.w.order v_home))
            | inr home ↦ absurd (in_range.differ (home ∙ sym v_home))
          ]
        ]
    | inr closing ↦
        let it : e ≡ ring.closed.link = ring.closed.no_other e in_range.link block closing in
        let u_top : u ≡ top = sym tail ∙ ap og.w.tail it ∙ ring.closed.away in
        let home : leads og.g.links e u ≡ Some h = rw (it, u_top) ring.closed.over.leads_on in
        Home u_top (same_Some v h (sym onward ∙ home)) closing
  ]
    where
      in_range : Within og.g e u v
      in_range = within og.g e u v og.kept onward

      inside_or_head : (f x y : ℕ) → leads og.g.links f x ≡ Some y → og.w.lies_in f ≡ og.w.block m → Inside og m y ⊎ (y ≡ h)
      inside_or_head f x y on in_block = elim (leads_inside og.g og.root og.w (og.w.block m) h f x y (is_ordered og) block_closed on in_block) [
        | inl inside ↦ inl (record { within = (within og.g f x y og.kept on).to; block = inside })
        | inr home ↦ inr home
      ]

  -- what the link of a step up, or of a step down, is
  pub step_up : (s : ℕ) (end : End) → IsStep og.g og.w Up (og.w.block m) s end → Directs og m top end.link s end.to
  step_up s end step = directs end.link s end.to (step_leads og Up (og.w.block m) s end step) step.leads_on step.in_block

  pub step_down : (s : ℕ) (end : End) → IsStep og.g og.w Down (og.w.block m) s end → Directs og m top end.link end.to s
  step_down s end step =
      directs end.link end.to s (lead_back og.g.links end.link s end.to (step_leads og Down (og.w.block m) s end step)) step.leads_on step.in_block

  -- a step from a node of the block goes on inside it, over a plain link, or home
  pub from : (dir : Dir) (s : ℕ) (end : End) → Inside og m s → IsStep og.g og.w dir (og.w.block m) s end
      → (Inside og m end.to × Further og dir s end.to × (og.w.role end.link ≡ Plain)) ⊎ ((end.to ≡ h) × (og.w.role end.link ≡ home_role dir))
  from Up s end inside step = elim (step_up s end step) [
    | Inner a b plain up ↦ inl (b, up, plain)
    | Out a b plain ↦ absurd (not_head s inside a)
    | Home a b closing ↦ inr (b, closing)
  ]
  from Down s end inside step = elim (step_down s end step) [
    | Inner a b plain up ↦ inl (a, up, plain)
    | Out a b plain ↦ inr (a, plain)
    | Home a b closing ↦ absurd (not_head s inside b)
  ]

  -- a step from the head goes to a node of the block: up over a plain link, and down over the closing one to the greatest node
  pub from_head : (dir : Dir) (end : End) → IsStep og.g og.w dir (og.w.block m) h end
      → Inside og m end.to × (og.w.role end.link ≡ home_role (against dir))
  from_head Up end step = elim (step_up h end step) [
    | Inner a b plain up ↦ absurd (not_head h a refl)
    | Out a b plain ↦ (b, plain)
    | Home a b closing ↦ absurd (not_head top top_inside (sym a))
  ]
  from_head Down end step = elim (step_down h end step) [
    | Inner a b plain up ↦ absurd (not_head h b refl)
    | Out a b plain ↦ absurd (not_head h b refl)
    | Home a b closing ↦ (subst (λ (x : ℕ). Inside og m x) (sym a) top_inside, closing)
  ]

  -- paths between nodes of the block go on: up to greater orders, and down to lower ones
  pub goes_further : (dir : Dir) (s : ℕ) (path : List End) (t : ℕ) → Inside og m s → Inside og m t
      → Path og.g og.w dir (og.w.block m) h s path t → Further og dir s t
  goes_further dir s [] t s_inside t_inside path = absurd path
  goes_further dir s (end ∷ []) t s_inside t_inside path = elim (from dir s end s_inside path.0) [
    | inl on ↦ subst (λ (x : ℕ). Further og dir s x) path.1 on.1
    | inr home ↦ absurd (not_head t t_inside (sym path.1 ∙ home.0))
  ]
  goes_further dir s (end ∷ next ∷ more) t s_inside t_inside path = elim (from dir s end s_inside path.0) [
    | inl on ↦ further_on og dir s end.to t on.1 (goes_further dir end.to (next ∷ more) t on.0 t_inside path.2)
    | inr home ↦ absurd (path.1 home.0)
  ]

  -- no ways lead in both directions
  pub one_way : (dir : Dir) (s t : ℕ) → Inside og m s → Inside og m t → Way og m dir s t → Way og m (against dir) s t → ⊥
  one_way dir s t source target on back =
      opposite og dir s t (goes_further dir s on.path t source target on.is) (goes_further (against dir) s back.path t source target back.is)

  -- a step up home is from the greatest node, and one down from the head to it
  pub up_from_top : (s : ℕ) (end : End) → IsStep og.g og.w Up (og.w.block m) s end → og.w.role end.link ≡ Closing → s ≡ top
  up_from_top s end step is = elim (step_up s end step) [
    | Inner a b plain up ↦ absurd (cc (plain, is))
    | Out a b plain ↦ absurd (cc (plain, is))
    | Home a b closing ↦ a
  ]

  down_to_top : (end : End) → IsStep og.g og.w Down (og.w.block m) h end → end.to ≡ top
  down_to_top end step = elim (step_down h end step) [
    | Inner a b plain up ↦ absurd (not_head h b refl)
    | Out a b plain ↦ absurd (not_head h b refl)
    | Home a b closing ↦ a
  ]

  -- a path down from the greatest node leads to each other node of the block: the way down from the head goes over the greatest
  pub top_down : (t : ℕ) → Inside og m t → t ≢ top → Way og m Down top t
  top_down t inside other = elim (og.ordered.blocks t inside.within t_other) [
    | inl sole ↦ absurd (ring.closed.none_sole sole.link sole.within (sole.in_block ∙ inside.block) sole.sole)
    | inr closed ↦
        let way = way_down og.g og.root og.w Down t (is_ordered og) inside.within t_other closed in
        rest way.0 (subst (λ (x : ℕ). Path og.g og.w Down (og.w.block m) x x way.0 t) (inside_head t inside)
        (subst (λ (k : ℕ). Path og.g og.w Down k (og.w.head t) (og.w.head t) way.0 t) inside.block way.1))
  ]
    where
      t_other : t ≢ og.root
      t_other = member_not_root og.g og.root og.w (og.w.block m) h t (is_ordered og) block_closed inside.block

      rest : (path : List End) → Path og.g og.w Down (og.w.block m) h h path t → Way og m Down top t
      rest [] path = absurd path
      rest (end ∷ others) path =
          let first = begun og m Down h end others t path in
          let at_top = down_to_top end first.step in
          elim first.goes [
            | inl there ↦ absurd (other (sym there ∙ at_top))
            | inr on ↦ record { path = others; is = subst (λ (x : ℕ). Path og.g og.w Down (og.w.block m) h x others t) at_top on.1 }
          ]
