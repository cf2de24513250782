-- What passing an end makes of the counts and of the list.
use Rattle.std.proofs.Common.{◌≡◌, ◌≢◌, ◌<◌, ◌≤◌, ◌+◌, ◌-◌, ◌++◌, ◌==◌, ◌⊎◌, ◌∙◌, ℕ, true, false, cond, List, [], ◌∷◌, Option, Some, None, length, set, slice_get, slice_index_or, inl, inr, refl, sym, ap, subst, arith, get_or-set_same, get_or-set_other}
use Rattle.std.specs.Prelude.{Contains}
use Rattle.std.specs.Option.{option_map_or}
use Rattle.std.proofs.lemmas.Bool.{cases_Bool, cases_eq, eq-eqb, ne_eqb, eqb-true}
use Rattle.std.proofs.lemmas.List.{length-set}
use Rattle.std.proofs.lemmas.List.Elements.{Contains-append_left, Contains-append_right}
use Rattle.std.proofs.lemmas.Option.{same_Some, slice_get_within}
use Rattle.mrt_graph.specs.declared.gadag.Mark.{Mark}
use Rattle.mrt_graph.specs.declared.link.End.{End}
use Rattle.mrt_graph.specs.GraphInvariant.{IsEnd, IsTopology}
use Rattle.mrt_graph.specs.Topology.{Topology}
use Rattle.mrt_graph.proofs.FewNumbers.{few_numbers}
use Rattle.mrt_graph.proofs.ListPlaces.{contains_at, place_of, pushed_at}
use Rattle.mrt_graph.proofs.ListTests.{all_at}
use Rattle.mrt_graph.proofs.Members.{contains_first, contains_from_has}
use Rattle.gadag_ears.specs.Counted.{IsCounted}
use Rattle.link_direction.specs.steps.Counting.{AreCounts, IsEndOf, IsPassed, IsUnderWay, StandOnce, count_to, enters}
use Rattle.link_direction.specs.GadagOrder.{IsNextInOrder, Next}
use Rattle.link_direction.proofs.Counts.{all_fail, none_counted, one_more, same_count, some_counted}
use Rattle.link_direction.proofs.EnteredBy.{link_within, one_far_node, one_tail}
use Rattle.link_direction.proofs.NextInOrder.{IsAtEnd, IsLastInto, is_next, still_left}
use Rattle.link_direction.proofs.PassedEnds.{passed_cases, passed_here, passed_in_longer, passed_in_shorter, passed_more, still_under_way}

-- an end of a node leads where its link does, to a node of the graph
pub end_kept : (g : Topology) (x passed : ℕ) (end : End) → IsTopology g → IsEndOf g x passed end → IsEnd (length g.ids) g.links x end
end_kept g x passed end kept it = all_at (IsEnd (length g.ids) g.links x) it.ends passed end (kept.ends_kept x it.ends it.list).kept it.there

-- a list of different nodes is at most as long as the graph
pub few_listed : (n : ℕ) (order : List ℕ) → StandOnce order → ((v : ℕ) → Contains order v → v < n) → length order ≤ n
few_listed n order once within = few_numbers n order (λ v has. within v (contains_from_has order v has)) (λ v j k at_j at_k. once j k v at_j at_k)

-- what is left when link d is taken off
abbrev pub without : (ℕ → Option ℕ) → ℕ → ℕ → Option ℕ
without left d e = cond (e == d) None (left e)

without_there : (left : ℕ → Option ℕ) (d : ℕ) → without left d d ≡ None
without_there left d = rw (eq-eqb d d refl) refl

without_other : (left : ℕ → Option ℕ) (d e : ℕ) → e ≢ d → without left d e ≡ left e
without_other left d e other = rw (ne_eqb e d other) refl

-- what is still left was left, and is another link
still : (left : ℕ → Option ℕ) (d e w : ℕ) → without left d e ≡ Some w → (e ≢ d) × (left e ≡ Some w)
still left d e w is = elim (cases_eq e d) [
  | inl same ↦ let gone : None ≡ Some w = sym (without_there left d) ∙ subst (λ (k : ℕ). without left d k ≡ Some w) same is in absurd (cc)
  | inr other ↦ (other, sym (without_other left d e other) ∙ is)
]

enters_is : (left : ℕ → Option ℕ) (w e : ℕ) → left e ≡ Some w → enters left w e ≡ true
enters_is left w e is = rw is (eq-eqb w w refl)

is_entered : (left : ℕ → Option ℕ) (w e : ℕ) → enters left w e ≡ true → left e ≡ Some w
is_entered left w e is = go (left e) is
  where
    go : (o : Option ℕ) → option_map_or (λ v. v == w) o false ≡ true → o ≡ Some w
    go None is = absurd (cc)
    go (Some v) is = ap (λ (u : ℕ). Some u) (eqb-true v w is)

-- the count of the node that a link enters falls by one, and the other counts stay
counts_without : (left : ℕ → Option ℕ) (m n d v : ℕ) (counts counts' : List ℕ) → AreCounts left m n counts → d < m → left d ≡ Some v → v < n
    → counts' ≡ set counts v (slice_index_or counts v 0 - 1) → AreCounts (without left d) m n counts'
counts_without left m n d v counts counts' are within is node set_there = record {
  one_each = ap (λ (xs : List ℕ). length xs) set_there ∙ length-set counts v (slice_index_or counts v 0 - 1) ∙ are.one_each;
  each = λ w w_within. ap (λ (xs : List ℕ). slice_index_or xs w 0) set_there ∙ (elim (cases_eq w v) [
    | inl same ↦
        let read : slice_index_or (set counts v (slice_index_or counts v 0 - 1)) v 0 ≡ slice_index_or counts v 0 - 1 =
        get_or-set_same counts v (slice_index_or counts v 0 - 1) 0 (omega (arith, node, are.one_each)) in
        let fell : count_to (enters left v) m ≡ count_to (enters (without left d) v) m + 1 = one_less v is in
        subst (λ (k : ℕ). slice_index_or (set counts v (slice_index_or counts v 0 - 1)) k 0 ≡ count_to (enters (without left d) k) m) (sym same)
        (omega (arith, read, are.each v node, fell))
    | inr other ↦
        get_or-set_other counts v w (slice_index_or counts v 0 - 1) 0 other ∙ are.each w w_within
        ∙ same_count (enters left w) (enters (without left d) w) m (λ e. others w other e)
  ]);
}
  where
    one_less : (v : ℕ) → left d ≡ Some v → count_to (enters left v) m ≡ count_to (enters (without left d) v) m + 1
    one_less v is = one_more (enters left v) (enters (without left d) v) m d within (enters_is left v d is)
        (ap (λ (o : Option ℕ). option_map_or (λ w. w == v) o false) (without_there left d))
        (λ e other. ap (λ (o : Option ℕ). option_map_or (λ w. w == v) o false) (without_other left d e other))

    others : (w : ℕ) → w ≢ v → (e : ℕ) → enters left w e ≡ enters (without left d) w e
    others w other e = elim (cases_eq e d) [
      | inl same ↦
          let before : enters left w d ≡ false = ap (λ (o : Option ℕ). option_map_or (λ u. u == w) o false) is ∙ ne_eqb v w (λ eq. other (sym eq)) in
          let after : enters (without left d) w d ≡ false = ap (λ (o : Option ℕ). option_map_or (λ u. u == w) o false) (without_there left d) in
          subst (λ (k : ℕ). enters left w k ≡ enters (without left d) w k) (sym same) (before ∙ sym after)
      | inr differs ↦ ap (λ (o : Option ℕ). option_map_or (λ u. u == w) o false) (sym (without_other left d e differs))
    ]

-- an end over which no counted link leads away is passed
pub passed_by : (g : Topology) (root : ℕ) (marks : List Mark) (place passed : ℕ) (counts order : List ℕ) (x : ℕ) (end : End)
    → IsUnderWay g root marks place passed counts order → slice_get order place ≡ Some x → IsEndOf g x passed end
    → (IsCounted g marks end.link x end.to → ⊥) → IsUnderWay g root marks place (passed + 1) counts order
passed_by g root marks place passed counts order x end state here end_here not_counted =
    still_under_way g root marks place passed place (passed + 1) counts order state
    (λ e u v left counted one. elim (passed_cases g order place passed e u x end here end_here one) [
      | inl before ↦ state.not_passed e u v left counted before
      | inr this ↦
          let from_x : IsCounted g marks end.link x v =
          subst (λ (w : ℕ). IsCounted g marks end.link w v) this.0 (subst (λ (d : ℕ). IsCounted g marks d u v) this.1 counted) in
          let far : v ≡ end.to = one_far_node g marks end.link x v end.to from_x (end_kept g x passed end state.kept end_here).leads_on in
          not_counted (subst (λ (w : ℕ). IsCounted g marks end.link x w) far from_x)
    ])
    (λ e u v counted. elim (state.or_passed e u v counted) [ inl left ↦ inl left | inr one ↦ inr (passed_more g order place passed e u one) ])

-- what holds where a counted link is taken off
record AreLinksLess (g : Topology) (root : ℕ) (marks : List Mark) (place passed : ℕ) (order : List ℕ) (left : ℕ → Option ℕ) : Type 0 where
  counted : (e v : ℕ) → left e ≡ Some v → (u : ℕ) × IsCounted g marks e u v
  not_passed : (e u v : ℕ) → left e ≡ Some v → IsCounted g marks e u v → IsPassed g order place passed e u → ⊥
  or_passed : (e u v : ℕ) → IsCounted g marks e u v → (left e ≡ Some v) ⊎ IsPassed g order place passed e u

links_less : (g : Topology) (root : ℕ) (marks : List Mark) (place passed : ℕ) (counts order : List ℕ) (x : ℕ) (end : End)
    → (at : IsAtEnd g root marks place passed counts order x end) → AreLinksLess g root marks place (passed + 1) order (without at.under_way.left end.link)
links_less g root marks place passed counts order x end at = record {
  counted = λ e v left. at.under_way.counted e v (still at.under_way.left end.link e v left).1;
  not_passed = λ e u v left counted one.
      let was = still at.under_way.left end.link e v left in
      elim (passed_cases g order place passed e u x end at.here at.end_here one) [
        | inl before ↦ at.under_way.not_passed e u v was.1 counted before
        | inr this ↦ was.0 this.1
      ];
  or_passed = λ e u v counted. elim (cases_eq e end.link) [
    | inl same ↦
        let from_x : u ≡ x = one_tail g marks end.link u v x end.to (subst (λ (d : ℕ). IsCounted g marks d u v) same counted) at.counted in
        inr (subst (λ (w : ℕ). IsPassed g order place (passed + 1) e w) (sym from_x)
        (subst (λ (d : ℕ). IsPassed g order place (passed + 1) d x) (sym same) (passed_here g order place passed x end at.here at.end_here)))
    | inr other ↦ elim (at.under_way.or_passed e u v counted) [
      | inl left ↦ inl (without_other at.under_way.left end.link e other ∙ left)
      | inr one ↦ inr (passed_more g order place passed e u one)
    ]
  ];
}

less_in_longer : (g : Topology) (root : ℕ) (marks : List Mark) (place passed : ℕ) (order : List ℕ) (v : ℕ) (left : ℕ → Option ℕ) → place < length order
    → AreLinksLess g root marks place passed order left → AreLinksLess g root marks place passed (order ++ v ∷ []) left
less_in_longer g root marks place passed order v left inside less = record {
  counted = less.counted;
  not_passed = λ e u w is counted one. less.not_passed e u w is counted (passed_in_shorter g order v place passed e u inside one);
  or_passed = λ e u w counted. elim (less.or_passed e u w counted) [ inl is ↦ inl is | inr one ↦ inr (passed_in_longer g order v place passed e u one) ];
}

-- the counts say whether a link into the far node is left
pub some_left : (g : Topology) (root : ℕ) (marks : List Mark) (place passed : ℕ) (counts order : List ℕ) (x : ℕ) (end : End)
    → IsAtEnd g root marks place passed counts order x end → 0 < slice_index_or counts end.to 0
some_left g root marks place passed counts order x end at =
    let state = at.under_way in
    let is = end_kept g x passed end state.kept at.end_here in
    let counted : 1 ≤ count_to (enters state.left end.to) (length g.links) =
    some_counted (enters state.left end.to) (length g.links) end.link is.link (enters_is state.left end.to end.link (still_left g root marks place passed counts order x end at)) in
    omega (arith, counted, state.are_counts.each end.to is.to)

last_one : (g : Topology) (root : ℕ) (marks : List Mark) (place passed : ℕ) (counts order : List ℕ) (x : ℕ) (end : End)
    → (at : IsAtEnd g root marks place passed counts order x end) → slice_index_or counts end.to 0 ≡ 1 → (e : ℕ) → without at.under_way.left end.link e ≢ Some end.to
last_one g root marks place passed counts order x end at one e left =
    let state = at.under_way in
    let is = end_kept g x passed end state.kept at.end_here in
    let now_left = still_left g root marks place passed counts order x end at in
    let less = counts_without state.left (length g.links) (length g.ids) end.link end.to counts (set counts end.to (slice_index_or counts end.to 0 - 1)) state.are_counts is.link
    now_left is.to refl in
    let read : slice_index_or (set counts end.to (slice_index_or counts end.to 0 - 1)) end.to 0 ≡ slice_index_or counts end.to 0 - 1 =
    get_or-set_same counts end.to (slice_index_or counts end.to 0 - 1) 0 (omega (arith, is.to, state.are_counts.one_each)) in
    let none : count_to (enters (without state.left end.link) end.to) (length g.links) ≡ 0 = omega (arith, one, read, less.each end.to is.to) in
    let it = state.counted e end.to (still state.left end.link e end.to left).1 in
    let fails = none_counted (enters (without state.left end.link) end.to) (length g.links) e none (link_within g e it.0 end.to it.1.to) in
    let passes = enters_is (without state.left end.link) end.to e left in
    let both : true ≡ false = sym passes ∙ fails in cc

is_last : (g : Topology) (root : ℕ) (marks : List Mark) (place passed : ℕ) (counts order : List ℕ) (x : ℕ) (end : End)
    → (at : IsAtEnd g root marks place passed counts order x end) → slice_index_or counts end.to 0 ≡ 1 → IsLastInto g marks place passed order end
is_last g root marks place passed counts order x end at one e u counted = elim (cases_eq e end.link) [
  | inl same ↦ inl same
  | inr other ↦ elim (at.under_way.or_passed e u end.to counted) [
    | inl left ↦ absurd (last_one g root marks place passed counts order x end at one e (without_other at.under_way.left end.link e other ∙ left))
    | inr one_passed ↦ inr one_passed
  ]
]

-- the far node is next where its last counted link is passed
pub next_one : (g : Topology) (root : ℕ) (marks : List Mark) (place passed : ℕ) (counts order : List ℕ) (x : ℕ) (end : End)
    → IsAtEnd g root marks place passed counts order x end → slice_index_or counts end.to 0 ≡ 1 → IsNextInOrder g marks order end.to
next_one g root marks place passed counts order x end at one =
    is_next g root marks place passed counts order x end at (is_last g root marks place passed counts order x end at one)

pub once_longer : (order : List ℕ) (v : ℕ) → StandOnce order → (Contains order v → ⊥) → StandOnce (order ++ v ∷ [])
once_longer order v once outside j k w at_j at_k = elim (pushed_at order v w j at_j) [
  | inl j_before ↦ elim (pushed_at order v w k at_k) [
    | inl k_before ↦ once j k w j_before k_before
    | inr k_last ↦ absurd (outside (contains_at order j v (subst (λ (u : ℕ). slice_get order j ≡ Some u) (sym k_last.1) j_before)))
  ]
  | inr j_last ↦ elim (pushed_at order v w k at_k) [
    | inl k_before ↦ absurd (outside (contains_at order k v (subst (λ (u : ℕ). slice_get order k ≡ Some u) (sym j_last.1) k_before)))
    | inr k_last ↦ omega (arith, j_last.0, k_last.0)
  ]
]

pub in_longer : (order : List ℕ) (v w : ℕ) → Contains (order ++ v ∷ []) w → Contains order w ⊎ (v ≡ w)
in_longer order v w c =
    let at = place_of (order ++ v ∷ []) w c in
    elim (pushed_at order v w at.0 at.1) [ inl before ↦ inl (contains_at order at.0 w before) | inr last ↦ inr last.1 ]

-- a counted link is taken off, and is the last one into its far node
pub put_at_back : (g : Topology) (root : ℕ) (marks : List Mark) (place passed : ℕ) (counts counts' order : List ℕ) (x : ℕ) (end : End)
    → IsAtEnd g root marks place passed counts order x end → slice_index_or counts end.to 0 ≡ 1
    → counts' ≡ set counts end.to (slice_index_or counts end.to 0 - 1) → IsUnderWay g root marks place (passed + 1) counts' (order ++ end.to ∷ [])
put_at_back g root marks place passed counts counts' order x end at one set_there =
    let state = at.under_way in
    let is = end_kept g x passed end state.kept at.end_here in
    let now_left = still_left g root marks place passed counts order x end at in
    let next = next_one g root marks place passed counts order x end at one in
    let none = last_one g root marks place passed counts order x end at one in
    let less = less_in_longer g root marks place (passed + 1) order end.to (without state.left end.link) (slice_get_within order place x at.here)
    (links_less g root marks place passed counts order x end at) in
    record {
      kept = state.kept;
      ordered = Next order end.to state.ordered next;
      once = once_longer order end.to state.once next.ready.ready.outside;
      within = λ v c. elim (in_longer order end.to v c) [ inl before ↦ state.within v before | inr same ↦ subst (λ (w : ℕ). w < length g.ids) same is.to ];
      left = without state.left end.link;
      are_counts = counts_without state.left (length g.links) (length g.ids) end.link end.to counts counts' state.are_counts is.link now_left is.to set_there;
      counted = less.counted;
      not_passed = less.not_passed;
      or_passed = less.or_passed;
      none_left = λ e v c left. elim (in_longer order end.to v c) [
        | inl before ↦ state.none_left e v before (still state.left end.link e v left).1
        | inr same ↦ none e (left ∙ ap (λ (w : ℕ). Some w) (sym same))
      ];
      all_listed = λ e u v counted none_now. elim (cases_eq v end.to) [
        | inl same ↦ subst (λ (w : ℕ). Contains (order ++ end.to ∷ []) w) (sym same) (last_in order end.to)
        | inr other ↦ before_in order end.to v (state.all_listed e u v counted (λ d left. none_now d (without_other state.left end.link d (not_this d v left now_left other) ∙ left)))
      ];
    }
  where
    last_in : (order : List ℕ) (v : ℕ) → Contains (order ++ v ∷ []) v
    last_in order v = Contains-append_right order (v ∷ []) v (contains_first v [])

    before_in : (order : List ℕ) (v w : ℕ) → Contains order w → Contains (order ++ v ∷ []) w
    before_in order v w c = Contains-append_left order (v ∷ []) w c

    not_this : (d v : ℕ) → at.under_way.left d ≡ Some v → at.under_way.left end.link ≡ Some end.to → v ≢ end.to → d ≢ end.link
    not_this d v left now_left other same =
        other (same_Some v end.to (sym left ∙ subst (λ (k : ℕ). at.under_way.left k ≡ Some end.to) (sym same) now_left))

-- a counted link is taken off, and others into its far node are left
pub taken_off : (g : Topology) (root : ℕ) (marks : List Mark) (place passed : ℕ) (counts counts' order : List ℕ) (x : ℕ) (end : End)
    → IsAtEnd g root marks place passed counts order x end → slice_index_or counts end.to 0 ≢ 1
    → counts' ≡ set counts end.to (slice_index_or counts end.to 0 - 1) → IsUnderWay g root marks place (passed + 1) counts' order
taken_off g root marks place passed counts counts' order x end at more set_there =
    let state = at.under_way in
    let is = end_kept g x passed end state.kept at.end_here in
    let now_left = still_left g root marks place passed counts order x end at in
    let fewer = counts_without state.left (length g.links) (length g.ids) end.link end.to counts counts' state.are_counts is.link now_left is.to set_there in
    let less = links_less g root marks place passed counts order x end at in
    record {
      kept = state.kept;
      ordered = state.ordered;
      once = state.once;
      within = state.within;
      left = without state.left end.link;
      are_counts = fewer;
      counted = less.counted;
      not_passed = less.not_passed;
      or_passed = less.or_passed;
      none_left = λ e v c left. state.none_left e v c (still state.left end.link e v left).1;
      all_listed = λ e u v counted none_now. elim (cases_eq v end.to) [
        | inl same ↦
            let none : count_to (enters (without state.left end.link) end.to) (length g.links) ≡ 0 =
            all_fail (enters (without state.left end.link) end.to) (length g.links)
            (λ d. not_entered (without state.left end.link) end.to d (subst (λ (w : ℕ). without state.left end.link d ≢ Some w) same (none_now d))) in
            let read : slice_index_or counts' end.to 0 ≡ slice_index_or counts end.to 0 - 1 =
            ap (λ (xs : List ℕ). slice_index_or xs end.to 0) set_there
            ∙ get_or-set_same counts end.to (slice_index_or counts end.to 0 - 1) 0 (omega (arith, is.to, state.are_counts.one_each)) in
            absurd (more (omega (arith, none, read, fewer.each end.to is.to, some_left g root marks place passed counts order x end at)))
        | inr other ↦ state.all_listed e u v counted (λ d left. none_now d (without_other state.left end.link d (not_this d v left now_left other) ∙ left))
      ];
    }
  where
    not_entered : (left : ℕ → Option ℕ) (w e : ℕ) → left e ≢ Some w → enters left w e ≡ false
    not_entered left w e other = elim (cases_Bool (enters left w e)) [
      | inl passes ↦ absurd (other (is_entered left w e passes))
      | inr fails ↦ fails
    ]

    not_this : (d v : ℕ) → at.under_way.left d ≡ Some v → at.under_way.left end.link ≡ Some end.to → v ≢ end.to → d ≢ end.link
    not_this d v left now_left other same =
        other (same_Some v end.to (sym left ∙ subst (λ (k : ℕ). at.under_way.left k ≡ Some end.to) (sym same) now_left))
