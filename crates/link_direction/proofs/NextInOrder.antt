-- A node whose last counted link is passed is the next one of the order.
use Rattle.std.proofs.Common.{◌≡◌, ◌≢◌, ◌<◌, ◌≤◌, ◌⊎◌, ◌∙◌, ℕ, List, Some, slice_get, inl, inr, sym, subst, arith}
use Rattle.std.specs.Prelude.{Contains}
use Rattle.std.proofs.lemmas.Bool.{cases_order}
use Rattle.std.proofs.lemmas.Option.{same_Some}
use Rattle.mrt_graph.specs.declared.gadag.Mark.{Mark}
use Rattle.mrt_graph.specs.declared.link.End.{End}
use Rattle.mrt_graph.specs.Topology.{Topology}
use Rattle.mrt_graph.proofs.ListPlaces.{contains_at, place_of}
use Rattle.gadag_ears.specs.Counted.{IsCounted}
use Rattle.link_direction.specs.steps.Counting.{IsEndOf, IsPassed, IsUnderWay}
use Rattle.link_direction.specs.GadagOrder.{IsNextInOrder, IsReadyAt}
use Rattle.link_direction.proofs.EnteredBy.{one_tail}
use Rattle.link_direction.proofs.PassedEnds.{not_passed_here, one_end, passed_before}

-- it is the turn of this end of node x, and over it a counted link leads to node v
pub record IsAtEnd (g : Topology) (root : ℕ) (marks : List Mark) (place passed : ℕ) (counts order : List ℕ) (x : ℕ) (end : End) : Type 0 where
  pub under_way : IsUnderWay g root marks place passed counts order
  pub here : slice_get order place ≡ Some x
  pub end_here : IsEndOf g x passed end
  pub counted : IsCounted g marks end.link x end.to

-- each counted link into the far node is this one, or has been passed
abbrev pub IsLastInto : Topology → List Mark → ℕ → ℕ → List ℕ → End → Type 0
IsLastInto g marks place passed order end = (e u : ℕ) → IsCounted g marks e u end.to → (e ≡ end.link) ⊎ IsPassed g order place passed e u

-- the link over this end is still left
pub still_left : (g : Topology) (root : ℕ) (marks : List Mark) (place passed : ℕ) (counts order : List ℕ) (x : ℕ) (end : End)
    → (at : IsAtEnd g root marks place passed counts order x end) → at.under_way.left end.link ≡ Some end.to
still_left g root marks place passed counts order x end at = elim (at.under_way.or_passed end.link x end.to at.counted) [
  | inl left ↦ left
  | inr passed_it ↦ absurd (not_passed_here g order place passed x end at.under_way.kept at.under_way.once at.here at.end_here passed_it)
]

-- a node that is ready has not had its last counted link passed
ready_later : (g : Topology) (root : ℕ) (marks : List Mark) (place passed : ℕ) (counts order : List ℕ) (v p q : ℕ)
    → IsUnderWay g root marks place passed counts order → IsReadyAt g marks order v p q → ((p < place) ⊎ ((p ≡ place) × (q < passed))) → ⊥
ready_later g root marks place passed counts order v p q state at before = at.ready.outside (state.all_listed at.ready.entered.0 at.ready.entered.1 v at.ready.entered.2 none)
  where
    none : (d : ℕ) → state.left d ≢ Some v
    none d left =
        let it = state.counted d v left in
        let in_list = at.ready.from_list d it.0 it.1 in
        let node = place_of order it.0 in_list in
        let up_to : node.0 ≤ p = at.last_before.latest node.0 it.0 d node.1 it.1 in
        state.not_passed d it.0 v left it.1 (passed_before g order place passed node.0 d it.0 v state.kept (state.within it.0 in_list) node.1 it.1.to
        (λ end_at ends end list there over. elim (cases_order node.0 place) [
          | inl same ↦
              let at_p : node.0 ≡ p = elim before [ inl earlier ↦ absurd (omega (arith, earlier, same, up_to)) | inr also ↦ omega (arith, also.0, same) ] in
              let its : it.0 ≡ at.before = same_Some it.0 at.before (sym node.1 ∙ subst (λ (k : ℕ). slice_get order k ≡ Some at.before) (sym at_p) at.last_before.there) in
              let lists : ends ≡ at.last_end.ends = same_Some ends at.last_end.ends (sym list ∙ subst (λ (w : ℕ). slice_get g.ends w ≡ Some at.last_end.ends) (sym its) at.last_end.list) in
              let counted : IsCounted g marks end.link at.before v =
              subst (λ (w : ℕ). IsCounted g marks end.link w v) its (subst (λ (l : ℕ). IsCounted g marks l it.0 v) (sym over) it.1) in
              let last : end_at ≤ q = at.last_end.last end_at end (subst (λ (es : List End). slice_get es end_at ≡ Some end) lists there) counted in
              elim before [ inl earlier ↦ absurd (omega (arith, earlier, same, at_p)) | inr also ↦ inr (same, omega (arith, also.1, last)) ]
          | inr (inl less) ↦ inl less
          | inr (inr more) ↦ absurd (elim before [ inl earlier ↦ omega (arith, earlier, more, up_to) | inr also ↦ omega (arith, also.0, more, up_to) ])
        ]))

-- the far node is the next one
pub is_next : (g : Topology) (root : ℕ) (marks : List Mark) (place passed : ℕ) (counts order : List ℕ) (x : ℕ) (end : End)
    → IsAtEnd g root marks place passed counts order x end → IsLastInto g marks place passed order end → IsNextInOrder g marks order end.to
is_next g root marks place passed counts order x end at last = record {
  place = place;
  end_place = passed;
  ready = record {
    ready = record {
      outside = λ listed. at.under_way.none_left end.link end.to listed (still_left g root marks place passed counts order x end at);
      entered = (end.link, x, at.counted);
      from_list = λ e u counted. elim (last e u counted) [
        | inl same ↦ subst (λ (w : ℕ). Contains order w) (sym (from_x e u counted same)) (contains_at order place x at.here)
        | inr passed_it ↦ contains_at order passed_it.at u passed_it.node
      ];
    };
    before = x;
    last_before = record {
      there = at.here;
      enters = (end.link, at.counted);
      latest = λ later t e there counted. elim (last e t counted) [
        | inl same ↦
            omega (arith, at.under_way.once later place x (subst (λ (w : ℕ). slice_get order later ≡ Some w) (from_x e t counted same) there) at.here)
        | inr passed_it ↦
            let where_it_is : later ≡ passed_it.at = at.under_way.once later passed_it.at t there passed_it.node in
            elim passed_it.before [ inl earlier ↦ omega (arith, earlier, where_it_is) | inr same ↦ omega (arith, same.0, where_it_is) ]
      ];
    };
    last_end = record {
      ends = at.end_here.ends;
      list = at.end_here.list;
      end = end;
      there = at.end_here.there;
      counted = at.counted;
      last = λ later other there counted. elim (last other.link x counted) [
        | inl same ↦ omega (arith, one_end g x later passed at.end_here.ends other end at.under_way.kept at.end_here.list there at.end_here.there same)
        | inr passed_it ↦
            let at_place : passed_it.at ≡ place = at.under_way.once passed_it.at place x passed_it.node at.here in
            let lists : passed_it.ends ≡ at.end_here.ends = same_Some passed_it.ends at.end_here.ends (sym passed_it.list ∙ at.end_here.list) in
            let same : passed_it.end_at ≡ later =
            one_end g x passed_it.end_at later at.end_here.ends passed_it.end other at.under_way.kept at.end_here.list
            (subst (λ (es : List End). slice_get es passed_it.end_at ≡ Some passed_it.end) lists passed_it.there) there passed_it.over in
            elim passed_it.before [ inl earlier ↦ absurd (omega (arith, earlier, at_place)) | inr before ↦ omega (arith, before.1, same) ]
      ];
    };
  };
  first = λ other p q ready. elim (cases_order place p) [
    | inl same ↦ elim (cases_order passed q) [
      | inl equal ↦ inr (same, omega (arith, equal))
      | inr (inl less) ↦ inr (same, omega (arith, less))
      | inr (inr more) ↦ absurd (ready_later g root marks place passed counts order other p q at.under_way ready (inr (sym same, more)))
    ]
    | inr (inl less) ↦ inl less
    | inr (inr more) ↦ absurd (ready_later g root marks place passed counts order other p q at.under_way ready (inl more))
  ];
}
  where
    from_x : (e u : ℕ) → IsCounted g marks e u end.to → e ≡ end.link → u ≡ x
    from_x e u counted same = one_tail g marks end.link u end.to x end.to (subst (λ (d : ℕ). IsCounted g marks d u end.to) same counted) at.counted
