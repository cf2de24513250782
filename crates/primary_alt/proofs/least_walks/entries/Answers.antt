use Rattle.std.proofs.Common.{◌≡◌, ◌<◌, ◌+◌, ◌∙◌, ℕ, List, Option, Some, length, set, slice_get, inl, inr, sym, subst, arith}
use Rattle.std.proofs.lemmas.Bool.{cases_eq}
use Rattle.std.proofs.lemmas.List.{length-set}
use Rattle.std.proofs.lemmas.Option.{same_Some, slice_get_within}
use Rattle.area_graph.specs.Parts.{AreaParts}
use Rattle.mrt_graph.proofs.ListPlaces.{set_elsewhere, set_there}
use Rattle.primary_alt.specs.declared.shortest.Primary.{Primary}
use Rattle.primary_alt.specs.Primaries.{IsPrimary}
use Rattle.primary_alt.proofs.least_walks.entries.Goals as goal

-- one primary more
one_more : (area : AreaParts) (s : ℕ) (entries : List (Option Primary)) (t : ℕ) (one : Option Primary) → t < length entries
    → ((u : ℕ) (entry : Option Primary) → u < t → slice_get entries u ≡ Some entry → IsPrimary area s u entry) → IsPrimary area s t one
    → (u : ℕ) (entry : Option Primary) → u < t + 1 → slice_get (set entries t one) u ≡ Some entry → IsPrimary area s u entry
one_more area s entries t one within each is u entry low at = elim (cases_eq u t) [
  | inl same ↦
      let there : one ≡ entry = same_Some one entry (sym (set_there entries t one within) ∙ subst (λ (k : ℕ). slice_get (set entries t one) k ≡ Some entry) same at) in
      subst (λ (k : ℕ). IsPrimary area s k entry) (sym same) (subst (λ (e : Option Primary). IsPrimary area s t e) there is)
  | inr other ↦ each u entry (omega (arith, low, other)) (sym (set_elsewhere entries t u one other) ∙ at)
]

pub loop-t-init : goal.loop-t-init
loop-t-init c = record {
  one_each = omega (arith, c.in_ok-entries.ensures.len, c.in_ok-entries.entries.ok.0, c.requires.begins);
  each = λ t entry low. absurd (omega (arith, low));
}

pub overflow_cast-t : goal.overflow_cast-t
overflow_cast-t c = omega (arith, c.loop-t-test.true, c.requires.begins, c.requires.kept.few_nodes)

pub entry-requires-clause-to : goal.entry-requires-clause-to
entry-requires-clause-to c = omega (arith, c.loop-t-test.true, c.requires.begins, c.new.ensures)

pub index_mut-requires : goal.index_mut-requires
index_mut-requires c = omega (arith, c.loop-t-test.true, c.requires.begins, c.loop-t.invariant.one_each, c.loop-t.entries.ok.0)

pub loop-t-preserved : goal.loop-t-preserved
loop-t-preserved c = record {
  one_each = length-set c.loop-t.entries.items c.loop-t.t c.entry.result ∙ c.loop-t.invariant.one_each;
  each = one_more c.args.area.now c.args.source c.loop-t.entries.items c.loop-t.t c.entry.result (omega (arith, c.loop-t-test.true, c.requires.begins, c.loop-t.invariant.one_each))
      c.loop-t.invariant.each (subst (λ (k : ℕ). IsPrimary c.args.area.now c.args.source k c.entry.result) c.new.ensures c.entry.ensures);
}

pub returns : goal.returns
returns c = record {
  one_each = c.loop-t.invariant.one_each;
  each = λ t entry at.
      c.loop-t.invariant.each t entry
      (omega (arith, slice_get_within c.loop-t.entries.items t entry at, c.loop-t-test.false, c.requires.begins, c.loop-t.invariant.one_each)) at;
}
