-- There are distances of all nodes to each node: offers that make a distance fall come to an end.
use Rattle.std.proofs.Common.{◌≡◌, ◌<◌, ◌≤◌, ◌+◌, ◌∙◌, ◌⊎◌, ℕ, zero, suc, List, [], ◌∷◌, Option, Some, None, length, map, set, slice_get, inl, inr, refl, sym, ap, subst, arith}
use Rattle.std.specs.Prelude.{⊤, Contains, sum_by}
use Rattle.std.specs.List.{range_with_len}
use Rattle.std.specs.Option.{option_map}
use Rattle.std.proofs.lemmas.Bool.{cases_eq, cases_lt}
use Rattle.std.proofs.lemmas.List.{length-set}
use Rattle.std.proofs.lemmas.List.FromFn.{length-map-range_with_len}
use Rattle.std.proofs.lemmas.List.Sums.{sum_by-set}
use Rattle.std.proofs.lemmas.Option.{get_or_from_slice_get, same_Some, slice_get-map, slice_get_within}
use Rattle.area_graph.specs.declared.area_types.Arc.{Arc}
use Rattle.mrt_graph.proofs.ListPlaces.{set_elsewhere, set_there}
use Rattle.mrt_graph.proofs.ListTests.{there}
use Rattle.mrt_graph.proofs.Members.{contains_cases, contains_first, contains_later, contains_none}
use Rattle.primary_alt.specs.steps.BackwardSearch.{HasAtMost, IsReached}
use Rattle.primary_alt.specs.steps.Distances.{AreDistances}
use Rattle.primary_alt.specs.Distances.{HasDistance}
use Rattle.primary_alt.proofs.BackwardSteps.{held, reached_by, search_ends}

-- less than a distance; less than none is all
abbrev IsLess : ℕ → Option ℕ → Type 0
IsLess d None = ⊤
IsLess d (Some e) = d < e

-- an offer over the arc to its tail makes no distance fall
abbrev Passes : List (Option ℕ) → Arc → Type 0
Passes known arc = (d : ℕ) → HasDistance known arc.to d → HasAtMost known arc.tail (arc.metric + d)

-- it makes one fall
record Falls (known : List (Option ℕ)) (arc : Arc) : Type 0 where
  rest : ℕ
  far : HasDistance known arc.to rest
  old : Option ℕ
  at : slice_get known arc.tail ≡ Some old
  less : IsLess (arc.metric + rest) old

-- what has one distance has no other
no_other : (known : List (Option ℕ)) (v d d' : ℕ) → HasDistance known v d → HasDistance known v d' → d ≡ d'
no_other known v d d' one other = same_Some d d' (same_Some (Some d) (Some d') (sym one ∙ other))

passes_or_falls : (known : List (Option ℕ)) (arc : Arc) → arc.tail < length known → Passes known arc ⊎ Falls known arc
passes_or_falls known arc within = go (slice_get known arc.to) refl
  where
    by_old : (d : ℕ) → HasDistance known arc.to d → (old : Option ℕ) → slice_get known arc.tail ≡ Some old → Passes known arc ⊎ Falls known arc
    by_old d far None at = inr (record { rest = d; far = far; old = None; at = at; less = tt })
    by_old d far (Some e) at = elim (cases_lt (arc.metric + d) e) [
      | inl less ↦ inr (record { rest = d; far = far; old = Some e; at = at; less = less })
      | inr upto ↦ inl (λ d' has. record { least = e; there = at; upto = omega (arith, upto, no_other known arc.to d d' far has) })
    ]

    go : (o : Option (Option ℕ)) → slice_get known arc.to ≡ o → Passes known arc ⊎ Falls known arc
    go None at = inl (λ d has. let clash : ◌≡◌ {A = Option (Option ℕ)} None (Some (Some d)) = sym at ∙ has in cc)
    go (Some None) at = inl (λ d has. let clash : ◌≡◌ {A = Option (Option ℕ)} (Some None) (Some (Some d)) = sym at ∙ has in cc)
    go (Some (Some d)) at = let tail = there known arc.tail within in by_old d at tail.0 tail.1

-- all arcs pass, or one makes a distance fall
all_or_one : (known : List (Option ℕ)) (arcs : List Arc) → ((arc : Arc) → Contains arcs arc → arc.tail < length known)
    → ((arc : Arc) → Contains arcs arc → Passes known arc) ⊎ ((arc : Arc) × Contains arcs arc × Falls known arc)
all_or_one known [] within = inl (λ arc has. absurd (contains_none arc has))
all_or_one known (arc ∷ more) within = elim (passes_or_falls known arc (within arc (contains_first arc more))) [
  | inr falls ↦ inr (arc, contains_first arc more, falls)
  | inl passes ↦ elim (all_or_one known more (λ a has. within a (contains_later arc a more has))) [
    | inr one ↦ inr (one.0, contains_later arc one.0 more one.1, one.2)
    | inl all ↦ inl (λ a has. elim (contains_cases arc a more has) [
      | inl same ↦ subst (λ (b : Arc). Passes known b) (sym same) passes
      | inr later ↦ all a later
    ])
  ]
]

-- the distances so far: t has distance 0, and each is a walk's
record AreSoFar (arcs : List Arc) (t count : ℕ) (known : List (Option ℕ)) : Type 0 where
  one_each : length known ≡ count
  begun : HasAtMost known t 0
  sound : (v d : ℕ) → HasDistance known v d → IsReached arcs t v d

-- the distances where one has fallen
abbrev fallen : List (Option ℕ) → ℕ → ℕ → List (Option ℕ)
fallen known node d = set known node (Some d)

has_fallen : (known : List (Option ℕ)) (node d v e : ℕ) → node < length known → v ≡ node → HasDistance (fallen known node d) v e → d ≡ e
has_fallen known node d v e within here has =
    no_other (fallen known node d) node d e (set_there known node (Some d) within) (subst (λ (x : ℕ). HasDistance (fallen known node d) x e) here has)

lower : (known : List (Option ℕ)) (node d : ℕ) (old : Option ℕ) → slice_get known node ≡ Some old → IsLess d old → (v e : ℕ) → HasAtMost known v e → HasAtMost (fallen known node d) v e
lower known node d old at less v e has = elim (cases_eq v node) [
  | inl here ↦ record {
    least = d;
    there = subst (λ (x : ℕ). HasDistance (fallen known node d) x d) (sym here) (set_there known node (Some d) (slice_get_within known node old at));
    upto = by_old old (same_Some old (Some has.least) (sym at ∙ subst (λ (x : ℕ). HasDistance known x has.least) here has.there)) less;
  }
  | inr other ↦ record { least = has.least; there = set_elsewhere known node v (Some d) other ∙ has.there; upto = has.upto }
]
  where
    by_old : (o : Option ℕ) → o ≡ Some has.least → IsLess d o → d ≤ e
    by_old None same less = cc
    by_old (Some f) same less = omega (arith, less, same_Some f has.least same, has.upto)

falls_on : (arcs : List Arc) (t count : ℕ) (known : List (Option ℕ)) (arc : Arc) → Contains arcs arc → (f : Falls known arc) → AreSoFar arcs t count known
    → AreSoFar arcs t count (fallen known arc.tail (arc.metric + f.rest))
falls_on arcs t count known arc has f is = record {
  one_each = length-set known arc.tail (Some (arc.metric + f.rest)) ∙ is.one_each;
  begun = lower known arc.tail (arc.metric + f.rest) f.old f.at f.less t 0 is.begun;
  sound = λ v d at. elim (cases_eq v arc.tail) [
    | inl here ↦
        reached_by arcs t arc f.rest v d has here
        (sym (has_fallen known arc.tail (arc.metric + f.rest) v d (slice_get_within known arc.tail f.old f.at) here at)) (is.sound arc.to f.rest f.far)
    | inr other ↦ is.sound v d (sym (set_elsewhere known arc.tail v (Some (arc.metric + f.rest)) other) ∙ at)
  ];
}

-- how many have no distance, and the sum of all distances
abbrev one_if_none : Option ℕ → ℕ
one_if_none None = 1
one_if_none (Some d) = 0

abbrev as_number : Option ℕ → ℕ
as_number None = 0
as_number (Some d) = d

abbrev missing : List (Option ℕ) → ℕ
missing known = sum_by one_if_none known

abbrev total : List (Option ℕ) → ℕ
total known = sum_by as_number known

changed : (by : Option ℕ → ℕ) (known : List (Option ℕ)) (node d : ℕ) (old : Option ℕ) → slice_get known node ≡ Some old
    → sum_by by (fallen known node d) + by old ≡ sum_by by known + by (Some d)
changed by known node d old at =
    ap (λ (o : Option ℕ). sum_by by (fallen known node d) + by o) (sym (get_or_from_slice_get known node old None at))
    ∙ sum_by-set by known node (Some d) None (slice_get_within known node old at)

less_left : (known : List (Option ℕ)) (node d : ℕ) (old : Option ℕ) → slice_get known node ≡ Some old → IsLess d old
    → (missing (fallen known node d) < missing known) ⊎ ((missing (fallen known node d) ≤ missing known) × (total (fallen known node d) < total known))
less_left known node d None at less = inl (omega (arith, changed one_if_none known node d None at))
less_left known node d (Some e) at less = inr (
  omega (arith, changed one_if_none known node d (Some e) at),
  omega (arith, changed as_number known node d (Some e) at, less),
)

module _ (arcs : List Arc) (t count : ℕ) (tails : (arc : Arc) → Contains arcs arc → arc.tail < count) where
  Found : Type 0
  Found = (known : List (Option ℕ)) × (length known ≡ count) × AreDistances arcs t known

  done : (known : List (Option ℕ)) → AreSoFar arcs t count known → ((arc : Arc) → Contains arcs arc → Passes known arc) → Found
  unfolding Found
  done known is all = (
    known,
    is.one_each,
    search_ends arcs t known (record {
      begun = is.begun;
      sound = is.sound;
      passed = λ v d has. inr (λ arc has' to. all arc has' d (subst (λ (x : ℕ). HasDistance known x d) (sym to) has));
      within = λ v d waits. absurd (contains_none (held v d) waits);
    }),
  )

  one_step : (m s : ℕ) → ((k : List (Option ℕ)) → missing k < m → AreSoFar arcs t count k → Found)
      → ((k : List (Option ℕ)) → missing k ≤ m → total k < s → AreSoFar arcs t count k → Found)
      → (known : List (Option ℕ)) → missing known ≤ m → total known ≤ s → AreSoFar arcs t count known → Found
  one_step m s fewer lower known few low is = elim (all_or_one known arcs (λ arc has. omega (arith, tails arc has, is.one_each))) [
    | inl all ↦ done known is all
    | inr one ↦
        let arc = one.0 in
        let f = one.2 in
        let next = falls_on arcs t count known arc one.1 f is in
        elim (less_left known arc.tail (arc.metric + f.rest) f.old f.at f.less) [
          | inl new ↦ fewer (fallen known arc.tail (arc.metric + f.rest)) (omega (arith, new, few)) next
          | inr less ↦ lower (fallen known arc.tail (arc.metric + f.rest)) (omega (arith, less.0, few)) (omega (arith, less.1, low)) next
        ]
  ]

  down : (m : ℕ) → ((k : List (Option ℕ)) → missing k < m → AreSoFar arcs t count k → Found)
      → (s : ℕ) (known : List (Option ℕ)) → missing known ≤ m → total known ≤ s → AreSoFar arcs t count known → Found
  down m fewer zero known few low is = one_step m zero fewer (λ k few' low' is'. absurd (omega (arith, low'))) known few low is
  down m fewer (suc s) known few low is = one_step m (suc s) fewer (λ k few' low' is'. down m fewer s k few' (omega (arith, low')) is') known few low is

  across : (m : ℕ) (known : List (Option ℕ)) → missing known ≤ m → AreSoFar arcs t count known → Found
  across zero known few is = down zero (λ k few' is'. absurd (omega (arith, few'))) (total known) known few (omega arith) is
  across (suc m) known few is = down (suc m) (λ k few' is'. across m k (omega (arith, few')) is') (total known) known few (omega arith) is

  nothing : List (Option ℕ)
  nothing = map (λ v. None) (range_with_len 0 count)

  none_there : (v d : ℕ) → ¬ HasDistance nothing v d
  unfolding nothing
  none_there v d has = go (slice_get (range_with_len 0 count) v) (sym (slice_get-map (λ (x : ℕ). None) (range_with_len 0 count) v) ∙ has)
    where
      go : (o : Option ℕ) → option_map (λ (x : ℕ). None) o ≡ Some (Some d) → ⊥
      go None is = cc
      go (Some x) is = cc

  many : length nothing ≡ count
  unfolding nothing
  many = length-map-range_with_len (λ (x : ℕ). None) 0 count

  pub distances_exist : t < count → (known : List (Option ℕ)) × (length known ≡ count) × AreDistances arcs t known
  unfolding Found
  distances_exist within =
      let begin = fallen nothing t 0 in
      let low : t < length nothing = omega (arith, many, within) in
      across (missing begin) begin (omega arith) (record {
        one_each = length-set nothing t (Some 0) ∙ many;
        begun = record { least = 0; there = set_there nothing t (Some 0) low; upto = omega arith };
        sound = λ v d has. elim (cases_eq v t) [
          | inl here ↦ record { walk = []; leads = here; costs = has_fallen nothing t 0 v d low here has }
          | inr other ↦ absurd (none_there v d (sym (set_elsewhere nothing t v (Some 0) other) ∙ has))
        ];
      })
