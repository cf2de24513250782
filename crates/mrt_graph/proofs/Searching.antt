-- A search with marks and a list settles what paths reach.
use Rattle.std.proofs.Common.{◌≡◌, ◌⊎◌, ◌<◌, ◌≤◌, ◌+◌, ◌↔◌, ℕ, zero, suc, Bool, true, false, not, cond, List, [], ◌∷◌, ◌++◌, length, get_or, set, replicate, inl, inr, refl, sym, ◌∙◌, ap, subst, arith, append_assoc, length-append}
use Rattle.std.specs.Prelude.{Contains}
use Rattle.std.proofs.lemmas.Bool.{both_ways, cases_eq, cases_lt}
use Rattle.std.proofs.lemmas.List.{append-nil, get_or-set_same, get_or-set_other, get_or_default, get_or_append_left}
use Rattle.std.proofs.lemmas.List.Elements.{Contains-append_left, Contains-append_right, Contains-append_cases, Contains-push}
use Rattle.std.proofs.lemmas.List.{length-set}
use Rattle.std.proofs.lemmas.List.Sums.{sum_by-set}
use Rattle.std.proofs.lemmas.Option.{slice_get_within, get_or_from_slice_get}
use Rattle.mrt_graph.specs.Reachable.{Reachable}
use Rattle.mrt_graph.specs.Search.{Enters, HandsOut, IsBegun, IsMarked, IsEntering, SearchState, unmarked}
use Rattle.mrt_graph.proofs.Members.{contains_cases, contains_none}
use Rattle.mrt_graph.proofs.Settled.{IsSettled, reachable_onward, settled_is_reachable}

-- a search from s that has followed the steps of the first `done` of the nodes that it found
pub record IsSearch (step : ℕ → ℕ → Type 0) (s : ℕ) (marks : List Bool) (found : List ℕ) (done : ℕ) : Type 0 where
  pub begun : IsMarked marks s
  pub listed : (v : ℕ) → IsMarked marks v → Contains found v
  pub marked : (v : ℕ) → Contains found v → IsMarked marks v
  pub followed : (k v : ℕ) → k < done → step (get_or found k 0) v → IsMarked marks v
  pub reached : (v : ℕ) → IsMarked marks v → Reachable step s v

-- the one element of a list of one
pub one_in_one : (u v : ℕ) → Contains (u ∷ []) v → v ≡ u
one_in_one u v c = elim (contains_cases u v [] c) [ inl same ↦ same | inr later ↦ absurd (contains_none v later) ]

-- coming on nothing changes nothing
pub entering_none : (marks : List Bool) (found : List ℕ) → IsEntering (λ (v : ℕ). ⊥) marks found marks found
entering_none marks found = record {
  added = [];
  grows = sym (append-nil found);
  kept = λ v m. m;
  all_of_them = λ v h. absurd h;
  only_them = λ v m. inl m;
  listed = λ v m. inl m;
  marked = λ v c. absurd (contains_none v c);
  fresh = λ v c m. contains_none v c;
}

-- a mark set at u is u's, and each other mark is as before
pub mark_set : (marks : List Bool) (u v : ℕ) → u < length marks → IsMarked (set marks u true) v → IsMarked marks v ⊎ (v ≡ u)
mark_set marks u v within m = elim (cases_eq v u) [ inl same ↦ inr same | inr other ↦ inl (sym (get_or-set_other marks u v true false other) ∙ m) ]

pub mark_kept : (marks : List Bool) (u v : ℕ) → u < length marks → IsMarked marks v → IsMarked (set marks u true) v
mark_kept marks u v within m = elim (cases_eq v u) [
  | inl same ↦ subst (λ (w : ℕ). IsMarked (set marks u true) w) (sym same) (get_or-set_same marks u true false within)
  | inr other ↦ get_or-set_other marks u v true false other ∙ m
]

-- coming on any other node marks it and lists it last
pub entering_new : (marks : List Bool) (found : List ℕ) (u : ℕ) → u < length marks → get_or marks u false ≡ false
    → IsEntering (λ (v : ℕ). v ≡ u) marks found (set marks u true) (found ++ u ∷ [])
entering_new marks found u within unmarked = record {
  added = u ∷ [];
  grows = refl;
  kept = λ v m. mark_kept marks u v within m;
  all_of_them = λ v same. subst (λ (w : ℕ). IsMarked (set marks u true) w) (sym same) (get_or-set_same marks u true false within);
  only_them = λ v m. mark_set marks u v within m;
  listed = λ v m. elim (mark_set marks u v within m) [ inl old ↦ inl old | inr same ↦ inr (subst (λ (w : ℕ). Contains (u ∷ []) w) (sym same) (Contains-push [] u)) ];
  marked = λ v c. subst (λ (w : ℕ). IsMarked (set marks u true) w) (sym (one_in_one u v c)) (get_or-set_same marks u true false within);
  fresh = λ v c m. both_ways (get_or marks u false) unmarked (subst (λ (w : ℕ). IsMarked marks w) (one_in_one u v c) m);
}

-- coming on some nodes and then on others is coming on all of these
pub entering_both : (One Other Both : ℕ → Type 0)
    → ((v : ℕ) → One v → Both v) → ((v : ℕ) → Other v → Both v) → ((v : ℕ) → Both v → One v ⊎ Other v)
    → (m0 : List Bool) (f0 : List ℕ) (m1 : List Bool) (f1 : List ℕ) (m2 : List Bool) (f2 : List ℕ)
    → IsEntering One m0 f0 m1 f1 → IsEntering Other m1 f1 m2 f2 → IsEntering Both m0 f0 m2 f2
entering_both One Other Both one other both m0 f0 m1 f1 m2 f2 first second = record {
  added = first.added ++ second.added;
  grows = second.grows ∙ ap (λ (f : List ℕ). f ++ second.added) first.grows ∙ append_assoc f0 first.added second.added;
  kept = λ v m. second.kept v (first.kept v m);
  all_of_them = λ v h. elim (both v h) [ inl a ↦ second.kept v (first.all_of_them v a) | inr b ↦ second.all_of_them v b ];
  only_them = λ v m. elim (second.only_them v m) [
    | inl old ↦ elim (first.only_them v old) [ inl older ↦ inl older | inr a ↦ inr (one v a) ]
    | inr b ↦ inr (other v b)
  ];
  listed = λ v m. elim (second.listed v m) [
    | inl old ↦ elim (first.listed v old) [ inl older ↦ inl older | inr a ↦ inr (Contains-append_left first.added second.added v a) ]
    | inr b ↦ inr (Contains-append_right first.added second.added v b)
  ];
  marked = λ v c. elim (Contains-append_cases first.added second.added v c) [ inl a ↦ second.kept v (first.marked v a) | inr b ↦ second.marked v b ];
  fresh = λ v c m. elim (Contains-append_cases first.added second.added v c) [ inl a ↦ first.fresh v a m | inr b ↦ second.fresh v b (first.kept v m) ];
}

-- at first no node has a mark
pub no_mark_at_first : (n v : ℕ) → IsMarked (replicate n false) v → ⊥
no_mark_at_first zero v m = cc
no_mark_at_first (suc n) zero m = cc
no_mark_at_first (suc n) (suc v) m = no_mark_at_first n v m

-- a search begins where it has come on s alone
pub search_begun : (step : ℕ → ℕ → Type 0) (n s : ℕ) (marks : List Bool) (found : List ℕ)
    → IsEntering (λ (v : ℕ). v ≡ s) (replicate n false) [] marks found → IsSearch step s marks found 0
search_begun step n s marks found begin = record {
  begun = begin.all_of_them s refl;
  listed = λ v m. subst (λ (f : List ℕ). Contains f v) (sym begin.grows) (elim (begin.listed v m) [
    | inl old ↦ absurd (no_mark_at_first n v old)
    | inr new ↦ new
  ]);
  marked = λ v c. begin.marked v (subst (λ (f : List ℕ). Contains f v) begin.grows c);
  followed = λ k v early. absurd (omega (arith, early));
  reached = λ v m. elim (begin.only_them v m) [
    | inl old ↦ absurd (no_mark_at_first n v old)
    | inr same ↦ ([], sym same)
  ];
}

followed_onward : (step : ℕ → ℕ → Type 0) {s : ℕ} (marks : List Bool) (found : List ℕ) (done : ℕ) (marks' : List Bool) (found' : List ℕ)
    → IsSearch step s marks found done → done < length found → IsEntering (step (get_or found done 0)) marks found marks' found'
    → ((k : ℕ) → k < length found → get_or found' k 0 ≡ get_or found k 0)
    → (k v : ℕ) → k < done + 1 → step (get_or found' k 0) v → IsMarked marks' v
followed_onward step marks found done marks' found' search more turn same k v early onward =
    let before : step (get_or found k 0) v = subst (λ (u : ℕ). step u v) (same k (omega arith)) onward
    in elim (cases_lt k done) [
      | inl past ↦ turn.kept v (search.followed k v past before)
      | inr now ↦
          let it : k ≡ done = omega arith
          in turn.all_of_them v (subst (λ (i : ℕ). step (get_or found i 0) v) it before)
    ]

-- it follows all steps of the next listed node
pub search_onward : (step : ℕ → ℕ → Type 0) (s : ℕ) (marks : List Bool) (found : List ℕ) (done : ℕ) (marks' : List Bool) (found' : List ℕ)
    → IsSearch step s marks found done → done < length found → IsEntering (step (get_or found done 0)) marks found marks' found'
    → IsSearch step s marks' found' (done + 1)
search_onward step s marks found done marks' found' search more turn =
    let here : Contains found (get_or found done 0) = (done, more, get_or_default found done _ _ more) in
    let same : (k : ℕ) → k < length found → get_or found' k 0 ≡ get_or found k 0 =
    λ k early. subst (λ (f : List ℕ). get_or f k 0 ≡ get_or found k 0) (sym turn.grows) (get_or_append_left found turn.added 0 k early) in
    record {
      begun = turn.kept s search.begun;
      listed = λ v m. subst (λ (f : List ℕ). Contains f v) (sym turn.grows) (elim (turn.listed v m) [
        | inl old ↦ Contains-append_left found turn.added v (search.listed v old)
        | inr new ↦ Contains-append_right found turn.added v new
      ]);
      marked = λ v c. elim (Contains-append_cases found turn.added v (subst (λ (f : List ℕ). Contains f v) turn.grows c)) [
        | inl old ↦ turn.kept v (search.marked v old)
        | inr new ↦ turn.marked v new
      ];
      followed = λ k v early onward. followed_onward step marks found done marks' found' search more turn same k v early onward;
      reached = λ v m. elim (turn.only_them v m) [
        | inl old ↦ search.reached v old
        | inr onto ↦ reachable_onward step s (get_or found done 0) v (search.reached _ (search.marked _ here)) onto
      ];
    }

-- and has settled what it marked when no listed node is left
pub search_ended : (step : ℕ → ℕ → Type 0) (s : ℕ) (marks : List Bool) (found : List ℕ) (done : ℕ)
    → IsSearch step s marks found done → length found ≤ done → IsSettled step s (IsMarked marks)
search_ended step s marks found done search over = record {
  start = search.begun;
  closed = λ u v held onward.
      let place : Contains found u = search.listed u held in
      let is_u : get_or found place.0 0 ≡ u = get_or_default found place.0 0 u place.1 ∙ place.2
      in search.followed place.0 v (omega (arith, place.1, over)) (subst (λ (w : ℕ). step w v) (sym is_u) onward);
  reached = search.reached;
}

-- the same nodes, said in another way
pub entering_same : (Onto Onto' : ℕ → Type 0) (m0 : List Bool) (f0 : List ℕ) (m1 : List Bool) (f1 : List ℕ)
    → ((v : ℕ) → Onto v → Onto' v) → ((v : ℕ) → Onto' v → Onto v)
    → IsEntering Onto m0 f0 m1 f1 → IsEntering Onto' m0 f0 m1 f1
entering_same Onto Onto' m0 f0 m1 f1 there back e = record {
  added = e.added;
  grows = e.grows;
  kept = e.kept;
  all_of_them = λ v h. e.all_of_them v (back v h);
  only_them = λ v m. elim (e.only_them v m) [ inl old ↦ inl old | inr new ↦ inr (there v new) ];
  listed = e.listed;
  marked = e.marked;
  fresh = e.fresh;
}

-- the state of these parts
abbrev pub state_of : List Bool → List ℕ → ℕ → SearchState
state_of marks found followed = record { marks = marks; found = found; followed = followed }

-- one node fewer has no mark
unmarked_set : (marks : List Bool) (u : ℕ) → u < length marks → get_or marks u false ≡ false → unmarked (set marks u true) + 1 ≡ unmarked marks
unmarked_set marks u within none =
    let f : Bool → ℕ = λ b. cond (not b) 1 0 in
    let here : f (get_or marks u false) ≡ 1 = ap f none in
    let gone : f true ≡ 0 = refl in
    omega (arith, here, gone, sum_by-set f marks u true false within)

-- a search that comes on a node without a mark
pub enters_new : (marks : List Bool) (found : List ℕ) (followed u : ℕ) → u < length marks → get_or marks u false ≡ false
    → Enters (λ (v : ℕ). v ≡ u) (state_of marks found followed) (state_of (set marks u true) (found ++ u ∷ []) followed)
enters_new marks found followed u within none = record {
  one_each = length-set marks u true;
  same_followed = refl;
  same_left = omega (arith, unmarked_set marks u within none, length-append found (u ∷ []));
  entering = entering_new marks found u within none;
}

-- a search comes on nothing, on some nodes and then on others, or on the same nodes said in another way
pub enters_none : (search : SearchState) → Enters (λ (v : ℕ). ⊥) search search
enters_none search = record { one_each = refl; same_followed = refl; same_left = refl; entering = entering_none search.marks search.found }

pub enters_both : (One Other Both : ℕ → Type 0)
    → ((v : ℕ) → One v → Both v) → ((v : ℕ) → Other v → Both v) → ((v : ℕ) → Both v → One v ⊎ Other v)
    → (s0 s1 s2 : SearchState) → Enters One s0 s1 → Enters Other s1 s2 → Enters Both s0 s2
enters_both One Other Both one other both s0 s1 s2 first second = record {
  one_each = second.one_each ∙ first.one_each;
  same_followed = second.same_followed ∙ first.same_followed;
  same_left = second.same_left ∙ first.same_left;
  entering = entering_both One Other Both one other both s0.marks s0.found s1.marks s1.found s2.marks s2.found first.entering second.entering;
}

pub enters_same : (Onto Onto' : ℕ → Type 0) (s0 s1 : SearchState) → ((v : ℕ) → Onto v → Onto' v) → ((v : ℕ) → Onto' v → Onto v)
    → Enters Onto s0 s1 → Enters Onto' s0 s1
enters_same Onto Onto' s0 s1 there back e = record {
  one_each = e.one_each;
  same_followed = e.same_followed;
  same_left = e.same_left;
  entering = entering_same Onto Onto' s0.marks s0.found s1.marks s1.found there back e.entering;
}

-- a search as it stands, along steps from s
abbrev pub Searches : (ℕ → ℕ → Type 0) → ℕ → SearchState → Type 0
Searches step s search = IsSearch step s search.marks search.found search.followed

-- it begins
pub searches_begun : (step : ℕ → ℕ → Type 0) (n s : ℕ) (search : SearchState) → IsBegun n s search → Searches step s search
searches_begun step n s search begun =
    subst (λ (done : ℕ). IsSearch step s search.marks search.found done) (sym begun.none_followed) (search_begun step n s search.marks search.found begun.entering)

-- it goes on where the node that it handed out was followed
pub searches_onward : (step : ℕ → ℕ → Type 0) (s : ℕ) (before handed after : SearchState) (node : ℕ)
    → Searches step s before → HandsOut before handed node → Enters (step node) handed after → Searches step s after
searches_onward step s before handed after node search out entered =
    let more : before.followed < length before.found = slice_get_within before.found before.followed node out.first in
    let is : get_or before.found before.followed 0 ≡ node = get_or_from_slice_get before.found before.followed node 0 out.first in
    let from_marks : IsEntering (step node) before.marks handed.found after.marks after.found =
    subst (λ (m : List Bool). IsEntering (step node) m handed.found after.marks after.found) out.same_marks entered.entering in
    let from_both : IsEntering (step node) before.marks before.found after.marks after.found =
    subst (λ (f : List ℕ). IsEntering (step node) before.marks f after.marks after.found) out.same_found from_marks in
    let at_node : IsEntering (step (get_or before.found before.followed 0)) before.marks before.found after.marks after.found =
    subst (λ (u : ℕ). IsEntering (step u) before.marks before.found after.marks after.found) (sym is) from_both in
    subst (λ (done : ℕ). IsSearch step s after.marks after.found done) (sym (entered.same_followed ∙ out.one_more))
    (search_onward step s before.marks before.found before.followed after.marks after.found search more at_node)

-- and has found exactly what paths reach when no found node is left to follow
pub searches_ended : (step : ℕ → ℕ → Type 0) (s : ℕ) (search : SearchState) → Searches step s search → length search.found ≤ search.followed
    → (t : ℕ) → IsMarked search.marks t ↔ Reachable step s t
searches_ended step s search is over =
    settled_is_reachable step s (IsMarked search.marks) (search_ended step s search.marks search.found search.followed is over)
