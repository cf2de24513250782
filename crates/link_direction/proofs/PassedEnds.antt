-- Which links have been passed.
use Rattle.std.proofs.Common.{◌≡◌, ◌<◌, ◌+◌, ◌++◌, ◌==◌, ◌⊎◌, ◌∙◌, ℕ, Bool, List, [], ◌∷◌, Some, count_by, length, filter, slice_get, inl, inr, refl, sym, ap, subst, arith}
use Rattle.std.proofs.lemmas.Bool.{cases_eq, eq-eqb}
use Rattle.std.proofs.lemmas.Option.{same_Some, slice_get_within}
use Rattle.mrt_graph.specs.declared.gadag.Mark.{Mark}
use Rattle.mrt_graph.specs.declared.link.End.{End}
use Rattle.mrt_graph.specs.GraphInvariant.{IsTopology}
use Rattle.mrt_graph.specs.Leads.{leads}
use Rattle.mrt_graph.specs.Topology.{Topology}
use Rattle.mrt_graph.proofs.EndsAt.{IsEndOver, end_leads, leads_end, list_of_ends}
use Rattle.mrt_graph.proofs.ListPlaces.{at_left, pushed_at}
use Rattle.mrt_graph.proofs.ListTests.{one_passes}
use Rattle.mrt_graph.proofs.Tallies.{count_is_tally, length_is_tally}
use Rattle.gadag_ears.specs.Counted.{IsCounted}
use Rattle.link_direction.specs.steps.Counting.{IsEndOf, IsPassed, IsUnderWay, StandOnce}

-- two ends of a node on one link are one
pub one_end : (g : Topology) (x j k : ℕ) (ends : List End) (end other : End) → IsTopology g → slice_get g.ends x ≡ Some ends
    → slice_get ends j ≡ Some end → slice_get ends k ≡ Some other → end.link ≡ other.link → j ≡ k
one_end g x j k ends end other kept list at_j at_k same =
    let on : End → Bool = λ e. e.link == end.link in
    let once : count_by on ends ≡ 1 = (kept.ends_kept x ends list).one_each end.link end.to (end_leads g x j ends end kept list at_j) in
    let one : length (filter on ends) ≡ 1 = omega (arith, once, count_is_tally on ends, length_is_tally on ends) in
    one_passes on ends j k end other one at_j (eq-eqb end.link end.link refl) at_k (eq-eqb other.link end.link (sym same))

-- what has been passed has been passed at another place too, in a list with the same node there
passed_at : (g : Topology) (order : List ℕ) (place passed e u : ℕ) (others : List ℕ) (later more : ℕ) (it : IsPassed g order place passed e u)
    → slice_get others it.at ≡ Some u → (it.at < later) ⊎ ((it.at ≡ later) × (it.end_at < more)) → IsPassed g others later more e u
passed_at g order place passed e u others later more it node before = record {
  at = it.at;
  node = node;
  ends = it.ends;
  list = it.list;
  end_at = it.end_at;
  end = it.end;
  there = it.there;
  over = it.over;
  before = before;
}

pub passed_more : (g : Topology) (order : List ℕ) (place passed e u : ℕ) → IsPassed g order place passed e u → IsPassed g order place (passed + 1) e u
passed_more g order place passed e u it = passed_at g order place passed e u order place (passed + 1) it it.node
    (elim it.before [ inl earlier ↦ inl earlier | inr same ↦ inr (same.0, omega (arith, same.1)) ])

pub passed_here : (g : Topology) (order : List ℕ) (place passed x : ℕ) (end : End) → slice_get order place ≡ Some x → IsEndOf g x passed end
    → IsPassed g order place (passed + 1) end.link x
passed_here g order place passed x end here it = record {
  at = place;
  node = here;
  ends = it.ends;
  list = it.list;
  end_at = passed;
  end = end;
  there = it.there;
  over = refl;
  before = inr (refl, omega arith);
}

-- one more end is passed: this end
pub passed_cases : (g : Topology) (order : List ℕ) (place passed e u x : ℕ) (end : End) → slice_get order place ≡ Some x → IsEndOf g x passed end
    → IsPassed g order place (passed + 1) e u → IsPassed g order place passed e u ⊎ ((u ≡ x) × (e ≡ end.link))
passed_cases g order place passed e u x end here it one = elim one.before [
  | inl earlier ↦ inl (before (inl earlier))
  | inr same ↦
      let at_x : u ≡ x = same_Some u x (sym one.node ∙ subst (λ (k : ℕ). slice_get order k ≡ Some x) (sym same.0) here) in
      elim (cases_eq one.end_at passed) [
        | inl last ↦
            let lists : one.ends ≡ it.ends =
            same_Some one.ends it.ends (sym one.list ∙ subst (λ (w : ℕ). slice_get g.ends w ≡ Some it.ends) (sym at_x) it.list) in
            let ends_here : one.end ≡ end =
            same_Some one.end end (sym one.there ∙ subst (λ (es : List End). slice_get es one.end_at ≡ Some end) (sym lists)
            (subst (λ (k : ℕ). slice_get it.ends k ≡ Some end) (sym last) it.there)) in
            inr (at_x, sym one.over ∙ ap (λ (y : End). y.link) ends_here)
        | inr other ↦ inl (before (inr (same.0, omega (arith, same.1, other))))
      ]
]
  where
    before : (one.at < place) ⊎ ((one.at ≡ place) × (one.end_at < passed)) → IsPassed g order place passed e u
    before b = passed_at g order place (passed + 1) e u order place passed one one.node b

-- an end whose turn it is has not been passed
pub not_passed_here : (g : Topology) (order : List ℕ) (place passed x : ℕ) (end : End) → IsTopology g → StandOnce order
    → slice_get order place ≡ Some x → IsEndOf g x passed end → IsPassed g order place passed end.link x → ⊥
not_passed_here g order place passed x end kept once here it one =
    let at_place : one.at ≡ place = once one.at place x one.node here in
    let lists : one.ends ≡ it.ends = same_Some one.ends it.ends (sym one.list ∙ it.list) in
    let last : one.end_at ≡ passed =
    one_end g x one.end_at passed it.ends one.end end kept it.list (subst (λ (es : List End). slice_get es one.end_at ≡ Some one.end) lists one.there) it.there one.over in
    elim one.before [ inl earlier ↦ omega (arith, earlier, at_place) | inr same ↦ omega (arith, same.1, last) ]

-- a longer list
pub passed_in_longer : (g : Topology) (order : List ℕ) (v place passed e u : ℕ) → IsPassed g order place passed e u
    → IsPassed g (order ++ v ∷ []) place passed e u
passed_in_longer g order v place passed e u it = passed_at g order place passed e u (order ++ v ∷ []) place passed it
    (at_left order (v ∷ []) it.at u it.node) it.before

pub passed_in_shorter : (g : Topology) (order : List ℕ) (v place passed e u : ℕ) → place < length order
    → IsPassed g (order ++ v ∷ []) place passed e u → IsPassed g order place passed e u
passed_in_shorter g order v place passed e u inside it = passed_at g (order ++ v ∷ []) place passed e u order place passed it
    (elim (pushed_at order v u it.at it.node) [
      | inl there ↦ there
      | inr last ↦ absurd (elim it.before [ inl earlier ↦ omega (arith, earlier, last.0, inside) | inr same ↦ omega (arith, same.0, last.0, inside) ])
    ])
    it.before

-- when all ends of a node are passed its turn is over
pub turn_passed : (g : Topology) (order : List ℕ) (place x e u : ℕ) (ends : List End) → slice_get order place ≡ Some x → slice_get g.ends x ≡ Some ends
    → IsPassed g order (place + 1) 0 e u → IsPassed g order place (length ends) e u
turn_passed g order place x e u ends here list it = passed_at g order (place + 1) 0 e u order place (length ends) it it.node
    (elim (cases_eq it.at place) [
      | inl same ↦
          let at_x : u ≡ x = same_Some u x (sym it.node ∙ subst (λ (k : ℕ). slice_get order k ≡ Some x) (sym same) here) in
          let lists : it.ends ≡ ends = same_Some it.ends ends (sym it.list ∙ subst (λ (w : ℕ). slice_get g.ends w ≡ Some ends) (sym at_x) list) in
          inr (same, subst (λ (es : List End). it.end_at < length es) lists (slice_get_within it.ends it.end_at it.end it.there))
      | inr other ↦ inl (elim it.before [ inl earlier ↦ omega (arith, earlier, other) | inr next ↦ absurd (omega (arith, next.1)) ])
    ])

pub passed_in_turn : (g : Topology) (order : List ℕ) (place passed e u : ℕ) → IsPassed g order place passed e u → IsPassed g order (place + 1) 0 e u
passed_in_turn g order place passed e u it = passed_at g order place passed e u order (place + 1) 0 it it.node
    (inl (elim it.before [ inl earlier ↦ omega (arith, earlier) | inr same ↦ omega (arith, same.0) ]))

-- a link of a node before the place has been passed
pub passed_before : (g : Topology) (order : List ℕ) (place passed at e u v : ℕ) → IsTopology g → u < length g.ids → slice_get order at ≡ Some u
    → leads g.links e u ≡ Some v → ((end_at : ℕ) (ends : List End) (end : End) → slice_get g.ends u ≡ Some ends → slice_get ends end_at ≡ Some end → end.link ≡ e
    → (at < place) ⊎ ((at ≡ place) × (end_at < passed))) → IsPassed g order place passed e u
passed_before g order place passed at e u v kept within node leads_on before =
    let list = list_of_ends g u kept within in
    let it : IsEndOver list.0 e v = leads_end g u e v list.0 kept list.1 leads_on in
    record {
      at = at;
      node = node;
      ends = list.0;
      list = list.1;
      end_at = it.place;
      end = it.end;
      there = it.at;
      over = it.over;
      before = before it.place list.0 it.end list.1 it.at it.over;
    }

-- where other ends are passed, and the queue is the same
pub still_under_way : (g : Topology) (root : ℕ) (marks : List Mark) (place passed later more : ℕ) (counts order : List ℕ)
    (state : IsUnderWay g root marks place passed counts order)
    → ((e u v : ℕ) → state.left e ≡ Some v → IsCounted g marks e u v → ¬ IsPassed g order later more e u)
    → ((e u v : ℕ) → IsCounted g marks e u v → (state.left e ≡ Some v) ⊎ IsPassed g order later more e u)
    → IsUnderWay g root marks later more counts order
still_under_way g root marks place passed later more counts order state not_passed or_passed = record {
  kept = state.kept;
  ordered = state.ordered;
  once = state.once;
  within = state.within;
  left = state.left;
  are_counts = state.are_counts;
  counted = state.counted;
  not_passed = not_passed;
  or_passed = or_passed;
  none_left = state.none_left;
  all_listed = state.all_listed;
}
