-- An offer of a distance to a node: it is taken, or the node has no greater one.
use Rattle.std.proofs.Common.{◌≡◌, ◌<◌, ◌≤◌, ◌+◌, ◌*◌, ◌^◌, ◌∙◌, ℕ, cond, List, ◌∷◌, Option, Some, None, length, set, slice_get, inl, inr, refl, sym, ap, subst, arith}
use Rattle.std.specs.Prelude.{Contains, IsPermutation}
use Rattle.std.specs.Option.{is_some}
use Rattle.std.specs.declared.cmp.Reverse.{Reverse}
use Rattle.std.proofs.lemmas.Bool.{cases_eq}
use Rattle.std.proofs.lemmas.List.{length-set}
use Rattle.std.proofs.lemmas.List.Sorted.{Contains-permutation, IsPermutation-sym}
use Rattle.std.proofs.lemmas.List.Sums.{sum_by-set}
use Rattle.std.proofs.lemmas.Option.{get_or_from_slice_get, same_Some, slice_get_within}
use Rattle.area_graph.specs.declared.area_types.Arc.{Arc}
use Rattle.mrt_graph.proofs.ListPlaces.{set_elsewhere, set_there}
use Rattle.mrt_graph.proofs.Members.{contains_cases, contains_first, contains_later}
use Rattle.primary_alt.specs.declared.backward.Offer.{Offer}
use Rattle.primary_alt.specs.steps.ArcsInto.{AreInto}
use Rattle.primary_alt.specs.steps.BackwardSearch.{AreSmall, HasAtMost, IsAdded, IsOffered, WaitsUnlessLeaf, reached, room_of}
use Rattle.primary_alt.specs.Distances.{HasDistance}

pub added_by : (arcs : List Arc) (u : ℕ) (offer : Reverse Offer) (heap heap' : List (Reverse Offer)) → IsPermutation (offer ∷ heap) heap'
    → IsAdded arcs u offer.0.node offer.0.distance heap heap'
added_by arcs u offer heap heap' p = record {
  there = inl (Contains-permutation (offer ∷ heap) heap' offer p (contains_first offer heap));
  kept = λ v d has. Contains-permutation (offer ∷ heap) heap' _ p (contains_later offer _ heap has);
  only = λ v d has. elim (contains_cases offer _ heap (Contains-permutation heap' (offer ∷ heap) _ (IsPermutation-sym (offer ∷ heap) heap' p) has)) [
    | inl same ↦ inr (ap (λ (r : Reverse Offer). r.0.node) same)
    | inr old ↦ inl old
  ];
}

-- a row of arcs that leave u
pub added_none : (arcs row : List Arc) (u v distance : ℕ) (heap : List (Reverse Offer)) → AreInto arcs v row
    → ((arc : Arc) → Contains row arc → arc.tail ≡ u) → IsAdded arcs u v distance heap heap
added_none arcs row u v distance heap into leave = record {
  there = inr (λ arc there to. leave arc (into.all arc there to));
  kept = λ w d waits. waits;
  only = λ w d waits. inl waits;
}

-- a distance of a node is what stands there
what_stands : (known : List (Option ℕ)) (v d : ℕ) (old : Option ℕ) → slice_get known v ≡ Some old → HasDistance known v d → old ≡ Some d
what_stands known v d old at has = same_Some old (Some d) (sym at ∙ has)

-- of how many nodes a distance is known, once one more has one
abbrev one_if_some : Option ℕ → ℕ
one_if_some o = cond (is_some o) 1 0

reached_after : (known : List (Option ℕ)) (node distance : ℕ) (old : Option ℕ) → slice_get known node ≡ Some old
    → reached (set known node (Some distance)) + one_if_some old ≡ reached known + 1
reached_after known node distance old at =
    ap (λ (o : Option ℕ). reached (set known node (Some distance)) + one_if_some o) (sym (get_or_from_slice_get known node old None at))
    ∙ sum_by-set one_if_some known node (Some distance) None (slice_get_within known node old at)

-- the node has a distance that is no greater
pub offer_left : (arcs : List Arc) (u node distance : ℕ) (known : List (Option ℕ)) (heap : List (Reverse Offer)) (old : Option ℕ) → slice_get known node ≡ Some old
    → distance < 2 ^ 32 → room_of old ≤ distance → IsOffered arcs u node distance known known heap heap
offer_left arcs u node distance known heap None at small upto = absurd (omega (arith, small, upto))
offer_left arcs u node distance known heap (Some least) at small upto = record {
  one_each = refl;
  taken = record { least = least; there = at; upto = upto };
  lower = λ v d has. has;
  from = λ v d has. inl has;
  kept = λ v d waits. waits;
  only = λ v d waits. inl waits;
  more = omega arith;
  small = λ are near. are;
}

-- where the offer is taken, the distances of other nodes stay
abbrev after : List (Option ℕ) → ℕ → ℕ → List (Option ℕ)
after known node distance = set known node (Some distance)

stands : (known : List (Option ℕ)) (node distance v d : ℕ) → v ≡ node → node < length known → HasDistance (after known node distance) v d → d ≡ distance
stands known node distance v d here within has =
    sym (same_Some distance d (same_Some (Some distance) (Some d) (sym (set_there known node (Some distance) within)
    ∙ subst (λ (x : ℕ). slice_get (after known node distance) x ≡ Some (Some d)) here has)))

taken_lower : (known : List (Option ℕ)) (node distance : ℕ) (old : Option ℕ) → slice_get known node ≡ Some old → distance < room_of old
    → (v d : ℕ) → HasAtMost known v d → HasAtMost (after known node distance) v d
taken_lower known node distance old at nearer v d has = elim (cases_eq v node) [
  | inl here ↦
      let was : old ≡ Some has.least = what_stands known node has.least old at (subst (λ (x : ℕ). HasDistance known x has.least) here has.there) in
      let less : distance < has.least = subst (λ (o : Option ℕ). distance < room_of o) was nearer in
      record {
        least = distance;
        there = subst (λ (x : ℕ). HasDistance (after known node distance) x distance) (sym here) (set_there known node (Some distance) (slice_get_within known node old at));
        upto = omega (arith, less, has.upto);
      }
  | inr other ↦ record { least = has.least; there = set_elsewhere known node v (Some distance) other ∙ has.there; upto = has.upto }
]

taken_small : (known : List (Option ℕ)) (node distance : ℕ) (old : Option ℕ) → slice_get known node ≡ Some old → distance < room_of old
    → reached known ≤ reached (after known node distance) → AreSmall known → distance ≤ 65535 * reached known → AreSmall (after known node distance)
taken_small known node distance None at nearer more are near = λ v d has. elim (cases_eq v node) [
  | inl here ↦
      omega (arith, near, reached_after known node distance None at, stands known node distance v d here (slice_get_within known node None at) has)
  | inr other ↦
      omega (arith, more, are v d (sym (set_elsewhere known node v (Some distance) other) ∙ has))
]
taken_small known node distance (Some old) at nearer more are near = λ v d has. elim (cases_eq v node) [
  | inl here ↦
      omega (arith, nearer, more, are node old at, stands known node distance v d here (slice_get_within known node (Some old) at) has)
  | inr other ↦
      omega (arith, more, are v d (sym (set_elsewhere known node v (Some distance) other) ∙ has))
]

at_most_one : (o : Option ℕ) → one_if_some o ≤ 1
at_most_one None = omega arith
at_most_one (Some d) = omega arith

pub offer_taken : (arcs : List Arc) (u node distance : ℕ) (known : List (Option ℕ)) (heap heap' : List (Reverse Offer)) (old : Option ℕ)
    → slice_get known node ≡ Some old → distance < room_of old → IsAdded arcs u node distance heap heap'
    → IsOffered arcs u node distance known (after known node distance) heap heap'
offer_taken arcs u node distance known heap heap' old at nearer added =
    let within = slice_get_within known node old at in
    let more : reached known ≤ reached (after known node distance) = omega (arith, reached_after known node distance old at, at_most_one old) in
    record {
      one_each = length-set known node (Some distance);
      taken = record { least = distance; there = set_there known node (Some distance) within; upto = omega arith };
      lower = taken_lower known node distance old at nearer;
      from = λ v d has. elim (cases_eq v node) [
        | inl here ↦
            let same : d ≡ distance = stands known node distance v d here within has in
            inr (here, same, subst (λ (x : ℕ). WaitsUnlessLeaf arcs u heap' x d) (sym here) (subst (λ (x : ℕ). WaitsUnlessLeaf arcs u heap' node x) (sym same) added.there))
        | inr other ↦ inl (sym (set_elsewhere known node v (Some distance) other) ∙ has)
      ];
      kept = added.kept;
      only = added.only;
      more = more;
      small = taken_small known node distance old at nearer more;
    }
