-- Offers over the arcs to a node, one after another.
use Rattle.std.proofs.Common.{◌≡◌, ◌<◌, ◌≤◌, ◌+◌, ◌*◌, ◌∙◌, ℕ, List, Option, Some, length, slice_get, inl, inr, refl, sym, subst, arith}
use Rattle.std.specs.declared.cmp.Reverse.{Reverse}
use Rattle.std.proofs.lemmas.Bool.{cases_lt}
use Rattle.std.proofs.lemmas.Option.{same_Some}
use Rattle.area_graph.specs.declared.area_types.Arc.{Arc}
use Rattle.mrt_graph.proofs.ListPlaces.{contains_at}
use Rattle.primary_alt.specs.declared.backward.Offer.{Offer}
use Rattle.primary_alt.specs.steps.BackwardSearch.{AreSmall, HasAtMost, IsOffered, IsRelaxed, Waits, WaitsUnlessLeaf, reached}

pub relaxed_none : (arcs row : List Arc) (u distance : ℕ) (known : List (Option ℕ)) (heap : List (Reverse Offer)) → AreSmall known
    → IsRelaxed arcs row u 0 distance known known heap heap
relaxed_none arcs row u distance known heap small = record {
  one_each = refl;
  taken = λ j arc early at. absurd (omega (arith, early));
  lower = λ v d has. has;
  from = λ v d has. inl has;
  kept = λ v d waits. waits;
  only = λ v d waits. inl waits;
  more = omega arith;
  small = small;
}

-- an offer by another sum
summed : (known : List (Option ℕ)) (v a b : ℕ) → HasAtMost known v (a + b) → HasAtMost known v (b + a)
summed known v a b has = record { least = has.least; there = has.there; upto = omega (arith, has.upto) }

-- what waits, or is a leaf's, stays so
still : (arcs : List Arc) (u v d : ℕ) (heap heap' : List (Reverse Offer)) → ((w e : ℕ) → Waits heap w e → Waits heap' w e) → WaitsUnlessLeaf arcs u heap v d
    → WaitsUnlessLeaf arcs u heap' v d
still arcs u v d heap heap' kept new = elim new [ inl waits ↦ inl (kept v d waits) | inr leaf ↦ inr leaf ]

pub relaxed_more : (arcs row : List Arc) (u k distance : ℕ) (arc : Arc) (before mid after : List (Option ℕ)) (heap heap' heap'' : List (Reverse Offer))
    → slice_get row k ≡ Some arc → arc.tail < length before → arc.metric < 65536 → distance + 65535 ≤ 65535 * reached before
    → IsRelaxed arcs row u k distance before mid heap heap' → IsOffered arcs u arc.tail (distance + arc.metric) mid after heap' heap''
    → IsRelaxed arcs row u (k + 1) distance before after heap heap''
relaxed_more arcs row u k distance arc before mid after heap heap' heap'' at within metric near first then = record {
  one_each = then.one_each ∙ first.one_each;
  taken = λ j other early there. elim (cases_lt j k) [
    | inl low ↦ then.lower other.tail _ (first.taken j other low there)
    | inr last ↦
        let same : j ≡ k = omega (arith, early, last) in
        let is : arc ≡ other = same_Some arc other (sym at ∙ subst (λ (i : ℕ). slice_get row i ≡ Some other) same there) in
        subst (λ (a : Arc). HasAtMost after a.tail (a.metric + distance)) is (summed after arc.tail distance arc.metric then.taken)
  ];
  lower = λ v d has. then.lower v d (first.lower v d has);
  from = λ v d has. elim (then.from v d has) [
    | inl old ↦ elim (first.from v d old) [
      | inl older ↦ inl older
      | inr new ↦ inr (new.0, new.1, new.2, new.3, still arcs u v d heap' heap'' then.kept new.4)
    ]
    | inr new ↦ inr (arc, contains_at row k arc at, new.0, omega (arith, new.1), new.2)
  ];
  kept = λ v d waits. then.kept v d (first.kept v d waits);
  only = λ v d waits. elim (then.only v d waits) [
    | inl old ↦ first.only v d old
    | inr tail ↦ inr (omega (arith, tail, within))
  ];
  more = omega (arith, first.more, then.more);
  small = then.small first.small (omega (arith, metric, near, first.more));
}
