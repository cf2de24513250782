-- The way to the root, head by head, as it is gone.
use Rattle.std.proofs.Common.{◌≡◌, ◌≢◌, ◌⊎◌, ◌∙◌, ◌<◌, ◌≤◌, ℕ, zero, suc, List, Option, Some, None, length, set, slice_get, inl, inr, refl, sym, ap, subst, arith}
use Rattle.std.specs.Prelude.{replicate}
use Rattle.std.proofs.lemmas.Bool.{cases_eq}
use Rattle.std.proofs.lemmas.Option.{same_Some}
use Rattle.mrt_graph.specs.Topology.{Topology}
use Rattle.mrt_graph.proofs.ListPlaces.{set_elsewhere, set_there}
use Rattle.link_direction.specs.Directions.{Directions}
use Rattle.mrt_rows.specs.Chain.{AreBelow, Climbs, There}
use Rattle.mrt_rows.proofs.ChainAims.{climb_on, further, root_alone}
use Rattle.mrt_rows.proofs.OrderedGraphs.{OrderedGraph}

-- where it has come to c, the nodes that it has passed are below their heads
pub record IsClimbed (g : Topology) (root : ℕ) (w : Directions) (t c : ℕ) (below : List (Option ℕ)) : Type 0 where
  pub to_c : Climbs root w t c
  pub is_below : (h b : ℕ) → slice_get below h ≡ Some (Some b) → Climbs root w t b × (b ≢ root) × (w.head b ≡ h)
  pub all : (b : ℕ) → Climbs root w t b → b ≢ root
      → ((slice_get below (w.head b) ≡ Some (Some b)) × (w.order c ≤ w.order (w.head b))) ⊎ Climbs root w c b

nothing : (k h b : ℕ) → slice_get (replicate k None) h ≡ Some (Some b) → ⊥
nothing zero h b at = cc
nothing (suc k) zero b at = cc
nothing (suc k) (suc h) b at = nothing k h b at

pub begun : (g : Topology) (root : ℕ) (w : Directions) (t k : ℕ) (below : List (Option ℕ)) → below ≡ replicate k None → IsClimbed g root w t t below
begun g root w t k below blank = record {
  to_c = There refl;
  is_below = λ h b at. absurd (nothing k h b (subst (λ (xs : List (Option ℕ)). slice_get xs h ≡ Some (Some b)) blank at));
  all = λ b to_b other. inr to_b;
}

module _ (og : OrderedGraph) (t c : ℕ) (below : List (Option ℕ)) (so_far : IsClimbed og.g og.root og.w t c below) where
  pub one_climbed : c < length og.g.ids → c ≢ og.root → length below ≡ length og.g.ids
      → IsClimbed og.g og.root og.w t (og.w.head c) (set below (og.w.head c) (Some c))
  one_climbed within other one_each = record {
    to_c = climb_on og.root og.w t c so_far.to_c other;
    is_below = λ h b at. elim (cases_eq h (og.w.head c)) [
      | inl same ↦
          let now = subst (λ (v : ℕ). slice_get (set below (og.w.head c) (Some c)) v ≡ Some (Some b)) same at in
          let b_is : c ≡ b = same_Some c b (same_Some (Some c) (Some b) (sym there ∙ now)) in
          subst (λ (v : ℕ). Climbs og.root og.w t v × (v ≢ og.root) × (og.w.head v ≡ h)) b_is (so_far.to_c, other, sym same)
      | inr apart ↦ so_far.is_below h b (sym (set_elsewhere below (og.w.head c) h (Some c) apart) ∙ at)
    ];
    all = λ b to_b b_other. elim (so_far.all b to_b b_other) [
      | inl it ↦
          inl (
            set_elsewhere below (og.w.head c) (og.w.head b) (Some c) (λ same. omega (arith, ap og.w.order same, it.1, lower)) ∙ it.0,
            omega (arith, it.1, lower),
          )
      | inr ahead ↦ elim (cases_eq b c) [
        | inl same ↦ inl (
          ap (λ (v : ℕ). slice_get (set below (og.w.head c) (Some c)) (og.w.head v)) same ∙ there ∙ ap (λ (v : ℕ). Some (Some v)) (sym same),
          omega (arith, ap og.w.order (ap og.w.head same)),
        )
        | inr differ ↦ inr (further og c b differ ahead).1
      ]
    ];
  }
    where
      lower : og.w.order (og.w.head c) < og.w.order c
      lower = og.ordered.heads.lower c within other

      there : slice_get (set below (og.w.head c) (Some c)) (og.w.head c) ≡ Some (Some c)
      there = set_there below (og.w.head c) (Some c) (omega (arith, og.ordered.heads.head_within c within, one_each))

  pub all_climbed : c ≡ og.root → length below ≡ length og.g.ids → AreBelow og.g og.root og.w t below
  all_climbed at_root one_each = record {
    one_each = one_each;
    ends = subst (λ (v : ℕ). Climbs og.root og.w t v) at_root so_far.to_c;
    is_below = so_far.is_below;
    all = λ b to_b b_other. elim (so_far.all b to_b b_other) [
      | inl it ↦ it.0
      | inr ahead ↦ absurd (b_other (root_alone og.root og.w c b at_root ahead))
    ];
  }
