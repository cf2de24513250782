-- What the blocks aim at, as the way to the root is gone head by head.
use Rattle.std.proofs.Common.{◌≡◌, ◌≢◌, ◌⊎◌, ◌∙◌, ◌<◌, ◌≤◌, ◌+◌, ◌*◌, ℕ, Bool, true, List, Some, length, set, slice_get, inl, inr, refl, sym, ap, subst, arith}
use Rattle.std.proofs.lemmas.Bool.{cases_eq, cases_lt}
use Rattle.std.proofs.lemmas.List.{get_or-set_other, get_or-set_same}
use Rattle.mrt_graph.specs.Topology.{Topology}
use Rattle.link_direction.specs.Directions.{Directions}
use Rattle.block_spf.specs.BlockAims.{aim_at}
use Rattle.block_spf.specs.LeastPath.{HasMoreLinks}
use Rattle.block_spf.proofs.SideBySide.{row_within}
use Rattle.mrt_rows.specs.Chain.{AreWayAims, Climbs, IsOnWay, There}
use Rattle.mrt_rows.proofs.ChainAims.{climb_low, climb_on, further, root_alone}
use Rattle.mrt_rows.proofs.OrderedGraphs.{OrderedGraph}

-- where the way from t has come to c, the nodes that it has passed are aimed at by their blocks, and these are marked
pub record IsGone (g : Topology) (root : ℕ) (w : Directions) (t c : ℕ) (aim : ℕ → ℕ) (marks : List Bool) : Type 0 where
  pub to_c : Climbs root w t c
  pub on : (b : ℕ) → Climbs root w t b → b ≢ root
      → ((aim (w.block b) ≡ b) × (HasMoreLinks g w (w.block b) → slice_get marks (w.block b) ≡ Some true) × (w.order c ≤ w.order (w.head b)))
      ⊎ Climbs root w c b
  pub off : (y : ℕ) → y < length g.ids → (aim (w.block y) ≡ w.head y) ⊎ IsOnWay root w t y (aim (w.block y))

pub none_gone : (g : Topology) (root : ℕ) (w : Directions) (t : ℕ) (aim : ℕ → ℕ) (marks : List Bool)
    → ((y : ℕ) → y < length g.ids → aim (w.block y) ≡ w.head y) → IsGone g root w t t aim marks
none_gone g root w t aim marks heads = record { to_c = There refl; on = λ b to_b other. inr to_b; off = λ y within. inl (heads y within) }

module _ (og : OrderedGraph) (t c : ℕ) (t_within : t < length og.g.ids) (aim : ℕ → ℕ) (marks : List Bool)
    (so_far : IsGone og.g og.root og.w t c aim marks) where
  pub one_gone : c < length og.g.ids → c ≢ og.root → (after : ℕ → ℕ) → after (og.w.block c) ≡ c
      → ((k : ℕ) → k ≢ og.w.block c → after k ≡ aim k) → (now : List Bool)
      → (HasMoreLinks og.g og.w (og.w.block c) → slice_get now (og.w.block c) ≡ Some true)
      → ((k : ℕ) → slice_get marks k ≡ Some true → slice_get now k ≡ Some true) → IsGone og.g og.root og.w t (og.w.head c) after now
  one_gone within other after there elsewhere now marked stay = record {
    to_c = climb_on og.root og.w t c so_far.to_c other;
    on = λ b to_b b_other. elim (so_far.on b to_b b_other) [
      | inl it ↦ elim (cases_eq (og.w.block b) (og.w.block c)) [
        | inl same ↦
            let head = og.ordered.heads.one_head b c (climb_low og t b t_within to_b).0 within same in
            absurd (omega (arith, it.2, ap og.w.order head, lower))
        | inr apart ↦
            inl (elsewhere (og.w.block b) apart ∙ it.0, (λ more. stay (og.w.block b) (it.1 more)), omega (arith, it.2, lower))
      ]
      | inr ahead ↦ elim (cases_eq b c) [
        | inl same ↦
            inl (
              ap after (ap og.w.block same) ∙ there ∙ sym same,
              subst (λ (v : ℕ). HasMoreLinks og.g og.w (og.w.block v) → slice_get now (og.w.block v) ≡ Some true) (sym same) marked,
              omega (arith, ap og.w.order (ap og.w.head same)),
            )
        | inr differ ↦ inr (further og c b differ ahead).1
      ]
    ];
    off = λ y y_within. elim (cases_eq (og.w.block y) (og.w.block c)) [
      | inl same ↦
          inr (subst (λ (a : ℕ). IsOnWay og.root og.w t y a) (sym (ap after same ∙ there))
          (record { climbs = so_far.to_c; not_root = other; in_block = sym same }))
      | inr apart ↦ elim (so_far.off y y_within) [
        | inl home ↦ inl (elsewhere (og.w.block y) apart ∙ home)
        | inr it ↦ inr (subst (λ (a : ℕ). IsOnWay og.root og.w t y a) (sym (elsewhere (og.w.block y) apart)) it)
      ]
    ];
  }
    where
      lower : og.w.order (og.w.head c) < og.w.order c
      lower = og.ordered.heads.lower c within other

  pub all_gone : c ≡ og.root → AreWayAims og.g og.root og.w t aim marks
  all_gone at_root = record {
    on = λ b to_b b_other. elim (so_far.on b to_b b_other) [
      | inl it ↦ it.0
      | inr ahead ↦ absurd (b_other (root_alone og.root og.w c b at_root ahead))
    ];
    off = so_far.off;
    marked = λ b to_b b_other. elim (so_far.on b to_b b_other) [
      | inl it ↦ it.1
      | inr ahead ↦ absurd (b_other (root_alone og.root og.w c b at_root ahead))
    ];
  }

-- aims that are the same, and more marks
pub way_aims_too : (g : Topology) (root : ℕ) (w : Directions) (t : ℕ) (aim after : ℕ → ℕ) (marks now : List Bool) → ((k : ℕ) → after k ≡ aim k)
    → ((k : ℕ) → slice_get marks k ≡ Some true → slice_get now k ≡ Some true) → AreWayAims g root w t aim marks → AreWayAims g root w t after now
way_aims_too g root w t aim after marks now same stay are = record {
  on = λ c to_c other. same (w.block c) ∙ are.on c to_c other;
  off = λ y within. elim (are.off y within) [
    | inl home ↦ inl (same (w.block y) ∙ home)
    | inr it ↦ inr (subst (λ (a : ℕ). IsOnWay root w t y a) (sym (same (w.block y))) it)
  ];
  marked = λ c to_c other more. stay (w.block c) (are.marked c to_c other more);
}

-- places of different blocks, and different places of one block, are not the same
one_place : (width k b i j : ℕ) → i < width → j < width → k * width + i ≡ b * width + j → (k ≡ b) × (i ≡ j)
one_place width k b i j i_below j_below same = elim (cases_lt k b) [
  | inl low ↦ absurd (omega (arith, row_within k b width (b * width) refl low, i_below, same))
  | inr high ↦ elim (cases_lt b k) [
    | inl low ↦ absurd (omega (arith, row_within b k width (k * width) refl low, j_below, same))
    | inr low ↦
        let one : k ≡ b = omega (arith, high, low) in
        (one, omega (arith, same, ap (λ (x : ℕ). x * width) one))
  ]
]

-- one aim is put
module _ (aims : List ℕ) (width b j c : ℕ) (j_below : j < width) (room : b * width + j < length aims) where
  pub aim_there : aim_at (set aims (b * width + j) c) width j b ≡ c
  aim_there = get_or-set_same aims (b * width + j) c 0 room

  pub aim_elsewhere : (k : ℕ) → k ≢ b → aim_at (set aims (b * width + j) c) width j k ≡ aim_at aims width j k
  aim_elsewhere k other = get_or-set_other aims (b * width + j) (k * width + j) c 0 (λ same. other (one_place width k b j j j_below j_below same).0)

  pub aim_beside : (i k : ℕ) → i < width → i ≢ j → aim_at (set aims (b * width + j) c) width i k ≡ aim_at aims width i k
  aim_beside i k below other =
      get_or-set_other aims (b * width + j) (k * width + i) c 0 (λ same. other (one_place width k b i j below j_below same).1)
