-- The backward search: it begins, takes an offer, and ends with the distances.
use Rattle.std.proofs.Common.{◌≡◌, ◌<◌, ◌≤◌, ◌+◌, ◌∙◌, ◌⊎◌, ℕ, List, [], ◌∷◌, Option, Some, None, length, inl, inr, refl, sym, ap, subst, arith}
use Rattle.std.specs.Prelude.{Contains, IsPermutation}
use Rattle.std.specs.declared.cmp.Reverse.{Reverse}
use Rattle.std.proofs.lemmas.List.Sorted.{Contains-permutation, IsPermutation-sym}
use Rattle.std.proofs.lemmas.Option.{same_Some, slice_get_within}
use Rattle.area_graph.specs.declared.area_types.Arc.{Arc}
use Rattle.mrt_graph.proofs.ListPlaces.{place_of}
use Rattle.mrt_graph.proofs.Members.{contains_cases, contains_later, contains_none}
use Rattle.primary_alt.specs.declared.backward.Offer.{Offer}
use Rattle.primary_alt.specs.steps.ArcsInto.{AreInto}
use Rattle.primary_alt.specs.ArcWalk.{ArcWalk, cost_of}
use Rattle.primary_alt.specs.steps.BackwardSearch.{HasAtMost, IsLeafOf, IsOffered, IsPassed, IsReached, IsRelaxed, IsSearching, Waits}
use Rattle.primary_alt.specs.steps.Distances.{AreDistances}
use Rattle.primary_alt.specs.Distances.{HasDistance}

-- an offer as the heap holds it
abbrev pub held : ℕ → ℕ → Reverse Offer
held v distance = record { 0 = record { distance = distance; node = v } }

-- a leaf's distance is no smaller than that of the node that its one arc leaves: there is nothing to pass on
leaf_passed : (arcs : List Arc) (known : List (Option ℕ)) (u v distance d : ℕ) → HasAtMost known u distance → distance ≤ d → IsLeafOf arcs u v → IsPassed arcs known v d
leaf_passed arcs known u v distance d has upto leaf = λ arc there to.
    subst (λ (x : ℕ). HasAtMost known x (arc.metric + d)) (sym (leaf arc there to))
    (record { least = has.least; there = has.there; upto = omega (arith, has.upto, upto) })

-- the first offer, of 0 to t
pub search_begins : (arcs : List Arc) (t : ℕ) (known after : List (Option ℕ)) (heap heap' : List (Reverse Offer)) → t < length known
    → ((v d : ℕ) → ¬ HasDistance known v d) → ((v d : ℕ) → ¬ Waits heap v d) → IsOffered arcs t t 0 known after heap heap' → IsSearching arcs t after heap'
search_begins arcs t known after heap heap' within none empty is = record {
  begun = is.taken;
  sound = λ v d has. elim (is.from v d has) [
    | inl old ↦ absurd (none v d old)
    | inr new ↦ record { walk = []; leads = new.0; costs = sym new.1 }
  ];
  passed = λ v d has. elim (is.from v d has) [
    | inl old ↦ absurd (none v d old)
    | inr new ↦ elim new.2 [ inl waits ↦ inl waits | inr leaf ↦ inr (leaf_passed arcs after t v 0 d is.taken (omega arith) leaf) ]
  ];
  within = λ v d waits. elim (is.only v d waits) [
    | inl old ↦ absurd (empty v d old)
    | inr here ↦ omega (arith, here, within, is.one_each)
  ];
}

-- it does not depend on how the heap lies
pub searching_moved : (arcs : List Arc) (t : ℕ) (known : List (Option ℕ)) (heap heap' : List (Reverse Offer)) → IsPermutation heap heap'
    → IsSearching arcs t known heap → IsSearching arcs t known heap'
searching_moved arcs t known heap heap' p is = record {
  begun = is.begun;
  sound = is.sound;
  passed = λ v d has. elim (is.passed v d has) [
    | inl waits ↦ inl (Contains-permutation heap heap' (held v d) p waits)
    | inr passed ↦ inr passed
  ];
  within = λ v d waits. is.within v d (Contains-permutation heap' heap (held v d) (IsPermutation-sym heap heap' p) waits);
}

-- the first of the heap is one or another
first_or_later : (node distance v d : ℕ) (heap : List (Reverse Offer)) → Waits (held node distance ∷ heap) v d → ((v ≡ node) × (d ≡ distance)) ⊎ Waits heap v d
first_or_later node distance v d heap waits = elim (contains_cases (held node distance) (held v d) heap waits) [
  | inl same ↦ inl (ap (λ (r : Reverse Offer). r.0.node) same, ap (λ (r : Reverse Offer). r.0.distance) same)
  | inr later ↦ inr later
]

-- a node at a smaller distance than offered: the offer is passed over
pub offer_stale : (arcs : List Arc) (t node distance : ℕ) (known : List (Option ℕ)) (heap : List (Reverse Offer)) → ¬ HasDistance known node distance
    → IsSearching arcs t known (held node distance ∷ heap) → IsSearching arcs t known heap
offer_stale arcs t node distance known heap stale is = record {
  begun = is.begun;
  sound = is.sound;
  passed = λ v d has. elim (is.passed v d has) [
    | inl waits ↦ elim (first_or_later node distance v d heap waits) [
      | inl same ↦ absurd (stale (subst (λ (x : ℕ). HasDistance known x distance) same.0 (subst (λ (x : ℕ). HasDistance known v x) same.1 has)))
      | inr later ↦ inl later
    ]
    | inr passed ↦ inr passed
  ];
  within = λ v d waits. is.within v d (contains_later (held node distance) (held v d) heap waits);
}

-- a distance that stays is passed on as before
passed_still : (arcs : List Arc) (known after : List (Option ℕ)) (v d : ℕ) → ((u e : ℕ) → HasAtMost known u e → HasAtMost after u e)
    → IsPassed arcs known v d → IsPassed arcs after v d
passed_still arcs known after v d lower passed = λ arc there to. lower arc.tail (arc.metric + d) (passed arc there to)

-- an arc before a walk
pub reached_by : (arcs : List Arc) (t : ℕ) (arc : Arc) (distance v d : ℕ) → Contains arcs arc → v ≡ arc.tail → d ≡ arc.metric + distance
    → IsReached arcs t arc.to distance → IsReached arcs t v d
reached_by arcs t arc distance v d there tail sum reached = record {
  walk = arc ∷ reached.walk;
  leads = (there, sym tail, reached.leads);
  costs = omega (arith, reached.costs, sum);
}

-- the offer stands: it is passed on over the arcs to the node
pub offer_passed : (arcs row : List Arc) (t node distance : ℕ) (known after : List (Option ℕ)) (heap heap' : List (Reverse Offer))
    → HasDistance known node distance → AreInto arcs node row → IsRelaxed arcs row node (length row) distance known after heap heap'
    → IsSearching arcs t known (held node distance ∷ heap) → IsSearching arcs t after heap'
offer_passed arcs row t node distance known after heap heap' stands into relaxed is = record {
  begun = relaxed.lower t 0 is.begun;
  sound = λ v d has. elim (relaxed.from v d has) [
    | inl old ↦ is.sound v d old
    | inr new ↦
        let arc = into.only new.0 new.1 in
        reached_by arcs t new.0 distance v d arc.0 new.2 new.3
        (subst (λ (x : ℕ). IsReached arcs t x distance) (sym arc.1) (is.sound node distance stands))
  ];
  passed = λ v d has. elim (relaxed.from v d has) [
    | inl old ↦ elim (is.passed v d old) [
      | inl waits ↦ elim (first_or_later node distance v d heap waits) [
        | inl same ↦ inr (λ arc there to.
            let at = place_of row arc (into.all arc there (to ∙ same.0)) in
            subst (λ (x : ℕ). HasAtMost after arc.tail (arc.metric + x)) (sym same.1)
            (relaxed.taken at.0 arc (slice_get_within row at.0 arc at.1) at.1))
        | inr later ↦ inl (relaxed.kept v d later)
      ]
      | inr passed ↦ inr (passed_still arcs known after v d relaxed.lower passed)
    ]
    | inr new ↦ elim new.4 [
      | inl waits ↦ inl waits
      | inr leaf ↦
          let settled = relaxed.lower node distance (record { least = distance; there = stands; upto = omega arith }) in
          inr (leaf_passed arcs after node v distance d settled (omega (arith, new.3)) leaf)
    ]
  ];
  within = λ v d waits. elim (relaxed.only v d waits) [
    | inl old ↦ omega (arith, relaxed.one_each, is.within v d (contains_later (held node distance) (held v d) heap old))
    | inr low ↦ omega (arith, relaxed.one_each, low)
  ];
}

-- nothing waits: no walk costs less than the distance of its first node
least_walk : (arcs : List Arc) (t : ℕ) (known : List (Option ℕ)) → HasAtMost known t 0
    → ((v d : ℕ) → HasDistance known v d → IsPassed arcs known v d) → (walk : List Arc) (v : ℕ) → ArcWalk arcs v walk t → HasAtMost known v (cost_of walk)
least_walk arcs t known begun passed [] v w = subst (λ (x : ℕ). HasAtMost known x 0) (sym w) begun
least_walk arcs t known begun passed (arc ∷ more) v w =
    let rest = least_walk arcs t known begun passed more arc.to w.2 in
    let offered = passed arc.to rest.least rest.there arc w.0 refl in
    subst (λ (x : ℕ). HasAtMost known x (arc.metric + cost_of more)) w.1
    (record { least = offered.least; there = offered.there; upto = omega (arith, offered.upto, rest.upto) })

pub search_ends : (arcs : List Arc) (t : ℕ) (known : List (Option ℕ)) → IsSearching arcs t known [] → AreDistances arcs t known
search_ends arcs t known is = record {
  some = λ v d has.
      let reached = is.sound v d has in
      record {
        walk = reached.walk;
        leads = reached.leads;
        costs = reached.costs;
        least = λ other w.
            let found = least_walk arcs t known is.begun passed other v w in
            omega (arith, found.upto, same_Some d found.least (same_Some (Some d) (Some found.least) (sym has ∙ found.there)));
      };
  none = λ v none walk w. let found = least_walk arcs t known is.begun passed walk v w in
      absurd (nothing found.least (same_Some None (Some found.least) (sym none ∙ found.there)));
}
  where
    passed : (v d : ℕ) → HasDistance known v d → IsPassed arcs known v d
    passed v d has = elim (is.passed v d has) [ inl waits ↦ absurd (contains_none (held v d) waits) | inr done ↦ done ]

    nothing : (d : ℕ) → ¬ ◌≡◌ {A = Option ℕ} None (Some d)
    nothing d same = cc
