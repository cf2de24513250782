use Rattle.std.proofs.Common.{◌≡◌, ◌<◌, ◌+◌, ◌∙◌, ℕ, List, Option, Some, None, length, set, inl, inr, sym, subst, arith}
use Rattle.std.proofs.lemmas.Bool.{cases_eq}
use Rattle.std.proofs.lemmas.List.{length-set}
use Rattle.std.proofs.lemmas.Option.{same_Some, slice_get_within}
use Rattle.mrt_graph.proofs.ListPlaces.{set_elsewhere, set_there}
use Rattle.primary_alt.specs.Distances.{HasDistance}
use Rattle.primary_alt.proofs.backward.forget.Goals as goal

-- one distance less
forgotten : (known : List (Option ℕ)) (v : ℕ) → v < length known → ((u d : ℕ) → u < v → ¬ HasDistance known u d) → (u d : ℕ) → u < v + 1 → ¬ HasDistance (set known v None) u d
forgotten known v within none u d low has = elim (cases_eq u v) [
  | inl same ↦ absurd (clash d (same_Some None (Some d) (sym (set_there known v None within) ∙ subst (λ (x : ℕ). HasDistance (set known v None) x d) same has)))
  | inr other ↦ none u d (omega (arith, low, other)) (sym (set_elsewhere known v u None other) ∙ has)
]
  where
    clash : (d : ℕ) → ¬ ◌≡◌ {A = Option ℕ} None (Some d)
    clash d same = cc

pub loop-v-preserved : goal.loop-v-preserved
loop-v-preserved c =
    let within : c.loop-v.v < length c.loop-v.known.items = omega (arith, c.loop-v-test.true, c.len-v-end.ensures, c.loop-v.invariant.one_each, c.args.known.now.ok.0) in
    record {
      one_each = length-set c.loop-v.known.items c.loop-v.v None ∙ c.loop-v.invariant.one_each;
      none = λ u d low. forgotten c.loop-v.known.items c.loop-v.v within (λ x e early. c.loop-v.invariant.none x e early) u d low;
    }

pub returns : goal.returns
returns c = record {
  one_each = c.loop-v.invariant.one_each;
  none = λ v d has.
      c.loop-v.invariant.none v d
      (omega (arith, slice_get_within c.loop-v.known.items v (Some d) has, c.loop-v-test.false, c.len-v-end.ensures, c.loop-v.invariant.one_each, c.args.known.now.ok.0)) has;
}
