-- Of each two nodes the one has a hop for the other, or no path of a block that they share leads there.
use Rattle.std.proofs.Common.{◌≡◌, ◌≢◌, ◌⊎◌, ◌<◌, ◌≤◌, ◌+◌, ◌∙◌, ℕ, Bool, zero, suc, true, false, List, [], Option, Some, None, length, slice_get, inl, inr, refl, sym, subst, arith}
use Rattle.std.specs.Prelude.{replicate}
use Rattle.std.proofs.lemmas.Bool.{cases_Bool, cases_eq}
use Rattle.mrt_graph.specs.declared.cert.Role.{Role}
use Rattle.mrt_graph.specs.declared.cert.Role.TheVariants.{Closing, Plain, Sole}
use Rattle.mrt_graph.specs.declared.link.End.{End}
use Rattle.mrt_graph.specs.Leads.{leads}
use Rattle.mrt_graph.specs.Topology.{Topology}
use Rattle.mrt_graph.proofs.EndsAt.{end_leads, list_of_ends}
use Rattle.mrt_graph.proofs.ListTests.{there}
use Rattle.link_direction.specs.Directions.{Directions}
use Rattle.block_spf.specs.declared.reach.Dir.{Dir}
use Rattle.block_spf.specs.declared.reach.Dir.TheVariants.{Down, Up}
use Rattle.block_spf.specs.declared.reach.Hop.{Hop}
use Rattle.block_spf.specs.FirstLink.{no_link}
use Rattle.block_spf.specs.LeastPath.{IsHop, NotReached}
use Rattle.block_spf.specs.Path.{IsStep, LeadsOn}
use Rattle.block_spf.specs.steps.Rest.{IsRestCost}
use Rattle.block_spf.specs.Rest.{far}
use Rattle.block_spf.specs.steps.Side.{IsLeastOverEnds, lesser, link_of_lesser}
use Rattle.block_spf.specs.Side.{hop_by}
use Rattle.block_spf.specs.Turns.{turn_of}
use Rattle.block_spf.specs.steps.PathsOverEnds.{BeginsAt, Sought, left_after}
use Rattle.block_spf.proofs.AllMarked.{all_marked}
use Rattle.block_spf.proofs.ByTurn.{turn_in}
use Rattle.block_spf.proofs.EndCosts.{IsWayOn, begun_on, end_cost, left_cost, still_least, way_taken}
use Rattle.block_spf.proofs.InBlocks.{Home, Later, move_of, step_from_member}
use Rattle.link_direction.proofs.ClosedBlocks.{IsClosed, IsOrdered, head_of_member, member_not_head}
use Rattle.link_direction.proofs.LinkNodes.{link_within}
use Rattle.block_spf.proofs.MoreLinks.{closed_of_more, has_more, more_links, more_not_sole}
use Rattle.block_spf.proofs.WaysArePaths.{least_hop, own_rest}

is_sole : (r : Role) → (r ≡ Sole) ⊎ (r ≢ Sole)
is_sole Sole = inl refl
is_sole Plain = inr (λ same. (cc))
is_sole Closing = inr (λ same. (cc))

leads_or_not : (w : Directions) (dir : Dir) (x : ℕ) (end : End) → LeadsOn w dir x end ⊎ (LeadsOn w dir x end → ⊥)
leads_or_not w Up x end = cases_eq (w.tail end.link) x
leads_or_not w Down x end = cases_eq (w.tail end.link) end.to

-- the block of one of its nodes, by that node
closed_at : (g : Topology) (root : ℕ) (w : Directions) (k h y : ℕ) → IsOrdered g root w → IsClosed g root w k h → y < length g.ids → w.block y ≡ k
    → IsClosed g root w (w.block y) (w.head y)
closed_at g root w k h y is closed within inside = record {
  m = closed.m;
  within = closed.within;
  not_root = closed.not_root;
  in_block = closed.in_block ∙ sym inside;
  has_head = closed.has_head ∙ sym (head_of_member g root w k h y is closed within inside);
  closing = closed.closing;
}

module _ (g : Topology) (root : ℕ) (w : Directions) (is : IsOrdered g root w) (dir : Dir) (t : ℕ) where
  -- all blocks are wanted, and aim at t
  abbrev it : Sought
  it = record { g = g; w = w; dir = dir; wanted = replicate (length g.ids) true }

  wanted : (k h : ℕ) → IsClosed g root w k h → slice_get (replicate (length g.ids) true) k ≡ Some true
  wanted k h closed = all_marked (length g.ids) k (omega (arith, closed.in_block, is.ordered.heads.block_within closed.m closed.within))

  -- the least cost of what is left from y in its own block
  abbrev HasRest : ℕ → Type 0
  HasRest y = (cost : ℕ) × IsRestCost g w dir (w.block y) (w.head y) y t cost

  rest_after : (k y : ℕ) → (w.block y ≡ k → HasRest y) → (cost : ℕ) × (w.block y ≡ k → IsRestCost g w dir k (w.head y) y t cost)
  rest_after k y rest = elim (cases_eq (w.block y) k) [
    | inl inside ↦ let found = rest inside in (found.0, λ _. subst (λ (b : ℕ). IsRestCost g w dir b (w.head y) y t found.0) inside found.1)
    | inr outside ↦ (0, λ inside. absurd (outside inside))
  ]

  -- the ends of x, one after another
  module _ (own : Bool) (x : ℕ) (ends : List End) (list : slice_get g.ends x ≡ Some ends)
      (rests : (place : ℕ) (end : End) → IsWayOn it own x place end → w.block end.to ≡ w.lies_in end.link → HasRest end.to) where
    abbrev Least : ℕ → Type 0
    Least count = (cost : ℕ) × (link : ℕ) × IsLeastOverEnds (BeginsAt it own x (λ _. t)) ends count cost link

    on_or_not : (count : ℕ) (end : End) → slice_get ends count ≡ Some end → IsWayOn it own x count end ⊎ (IsWayOn it own x count end → ⊥)
    on_or_not count end at = elim (is_sole (w.role end.link)) [
      | inl sole ↦ inr (λ on. more_not_sole g root w end.link is on.in_wanted.more (link_within g end.link x end.to is.kept onward) sole)
      | inr not_sole ↦ elim (leads_or_not w dir x end) [
        | inr back ↦ inr (λ on. back on.step.leads_on)
        | inl leads ↦ elim (cases_eq (w.lies_in end.link) (w.block x)) [
          | inl inside ↦ inl (made not_sole leads (λ _. inside))
          | inr outside ↦ elim (cases_Bool own) [ inl is_own ↦ inr (λ on. outside (on.kept_to is_own)) | inr all ↦ inl (made not_sole leads (λ is_own. (cc))) ]
        ]
      ]
    ]
      where
        onward : leads g.links end.link x ≡ Some end.to
        onward = end_leads g x count ends end is.kept list at

        made : w.role end.link ≢ Sole → LeadsOn w dir x end → (own ≡ true → w.lies_in end.link ≡ w.block x) → IsWayOn it own x count end
        made not_sole leads kept_to =
            let more = has_more g root w end.link x end.to is onward not_sole in
            let closed = closed_of_more g root w (w.lies_in end.link) is more in
            record {
              step = record { ends = ends; list = list; place = count; there = at; in_block = refl; leads_on = leads };
              here = refl;
              in_wanted = record { more = more; marked = wanted (w.lies_in end.link) closed.0 closed.1 };
              kept_to = kept_to;
            }

    one_more : (count : ℕ) (end : End) → slice_get ends count ≡ Some end → Least count → Least (count + 1)
    one_more count end at so_far = elim (on_or_not count end at) [
      | inl on ↦
          let k = w.lies_in end.link in
          let rest = rest_after k end.to (rests count end on) in
          let left = left_after w own x k end.to t rest.0 in
          let it_left = left_cost it own x (λ _. t) k end.to rest.0 (move_of g w dir k x end is.kept on.step).apart rest.1 in (
            lesser (left + end.metric) so_far.0,
            link_of_lesser (left + end.metric) so_far.0 end.link so_far.1,
            way_taken (BeginsAt it own x (λ _. t)) ends count so_far.0 so_far.1 left end at (end_cost it own x (λ _. t) count left it_left.0 end on it_left.1) so_far.2,
          )
      | inr none ↦ (
        so_far.0,
        so_far.1,
        still_least (BeginsAt it own x (λ _. t)) ends count so_far.0 so_far.1
            (λ other begins. absurd (none (begun_on it own x (λ _. t) count other ends end list at begins))) so_far.2,
      )
    ]

    over_ends : (count : ℕ) → count ≤ length ends → Least count
    over_ends zero few = (
      far,
      no_link,
      record {
        most = omega arith;
        reached = λ below. absurd (omega (arith, below));
        unreached = λ above. refl;
        least = λ place other early. absurd (omega (arith, early));
      },
    )
    over_ends (suc count) few =
        let end = there ends count (omega (arith, few)) in
        let next : count + 1 ≡ suc count = omega arith in
        subst (λ (i : ℕ). Least i) next (one_more count end.0 end.1 (over_ends count (omega (arith, few))))

  -- from the nodes of a block, by later and later turns
  rest_of : (fuel x : ℕ) → x < length g.ids → length g.ids ≤ turn_of dir (length g.ids) w x + fuel → IsClosed g root w (w.block x) (w.head x) → HasRest x
  rest_of zero x within far_off closed = absurd (omega (arith, far_off, turn_in g root w dir x is.ordered within))
  rest_of (suc fuel) x within far_off closed = elim (cases_eq t x) [
    | inl same ↦ (0, record { reached = λ below. ([], sym same, refl); least = λ rest is_rest. omega arith })
    | inr two ↦
        let list = list_of_ends g x is.kept within in
        let least = over_ends true x list.0 list.1 (λ place end on inside.
        let move = move_of g w dir (w.lies_in end.link) x end is.kept on.step in
        let at_x : w.block end.to ≡ w.block x = inside ∙ on.kept_to refl in
        rest_of fuel end.to move.to_within
        (elim (step_from_member g root w dir (w.block x) (w.head x) x end is closed refl (subst (λ (b : ℕ). IsStep g w dir b x end) (on.kept_to refl) on.step)) [
          | Later block later ↦ omega (arith, later, far_off)
          | Home home ↦ absurd (member_not_head g root w (w.block x) (w.head x) end.to is closed move.to_within at_x home)
        ]) (closed_at g root w (w.block x) (w.head x) end.to is closed move.to_within at_x)) (length list.0) (omega arith) in (
          least.0,
          own_rest it root is x (λ _. t) least.0 least.1 list.0 within list.1 (λ same. two (sym same))
              (record { more = more_links g root w (w.block x) (w.head x) is closed; marked = wanted (w.block x) (w.head x) closed }) least.2,
        )
  ]

pub some_hop : (g : Topology) (root : ℕ) (w : Directions) → IsOrdered g root w → (dir : Dir) (s t : ℕ) → s < length g.ids → t < length g.ids
    → (hop : Option Hop) × IsHop g w dir s t hop
some_hop g root w is dir s t s_within t_within = elim (cases_eq s t) [
  | inl same ↦ (None, NotReached (λ k h path shares leads. shares.two same))
  | inr two ↦
      let list = list_of_ends g s is.kept s_within in
      let least = over_ends g root w is dir t false s list.0 list.1 (λ place end on inside.
      let to_within = (move_of g w dir (w.lies_in end.link) s end is.kept on.step).to_within in
      let closed = closed_of_more g root w (w.lies_in end.link) is on.in_wanted.more in
      rest_of g root w is dir t (length g.ids) end.to to_within (omega arith)
      (closed_at g root w (w.lies_in end.link) closed.0 end.to is closed.1 to_within inside)) (length list.0) (omega arith) in (
        hop_by least.0 least.1,
        least_hop (it g root w is dir t) root is false s t (λ _. t) least.0 least.1 list.0 list.1 (λ own same. (cc)) (λ k h share.
            let closed = closed_of_more g root w k is share.more in ((λ own. (cc)), wanted g root w is dir t k closed.0 closed.1, refl))
            (λ u k h u_within apart common own onward. refl) least.2,
      )
]
