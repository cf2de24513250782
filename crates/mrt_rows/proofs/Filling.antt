-- The rows of a source for all other nodes, put in the order of these.
use Rattle.std.proofs.Common.{◌≡◌, ◌≢◌, ◌∙◌, ◌<◌, ◌≤◌, ◌+◌, ◌-◌, ℕ, List, Option, Some, None, get_or, length, set, slice_get, unwrap_or, refl, sym, ap, subst, inl, inr, arith}
use Rattle.std.specs.List.{remove}
use Rattle.std.specs.Option.{option_map}
use Rattle.std.proofs.lemmas.Bool.{cases_eq, cases_lt, le-ltb, lt-ltb, ne_eqb}
use Rattle.std.proofs.lemmas.List.Edits.{get_or-remove_above, get_or-remove_below, length-remove}
use Rattle.std.proofs.lemmas.Option.{same_Some, slice_get-get_or, slice_get_within}
use Rattle.mrt_graph.specs.declared.cert.Row.{Row}
use Rattle.mrt_graph.specs.declared.cert.Tag.TheVariants as tags
use Rattle.mrt_graph.specs.Tags.{carried}
use Rattle.mrt_graph.proofs.ListPlaces.{set_elsewhere, set_there}
use Rattle.link_direction.specs.CommonBlock.{FromHead, HaveCommonBlock, ToHead}
use Rattle.block_spf.specs.declared.reach.Dir.TheVariants.{Up}
use Rattle.block_spf.specs.Turns.{AreTurns}
use Rattle.mrt_rows.specs.steps.ColumnOf.{IsRowIn}
use Rattle.mrt_rows.specs.steps.NearOf.{Apart, IsNearRow}
use Rattle.mrt_rows.specs.RowsOf.{AreRowsOf, rows_for}
use Rattle.mrt_rows.proofs.Carriers.{at_carrier, carrier_by}
use Rattle.mrt_rows.proofs.OneRow.{Far, HasTheRow, Near}
use Rattle.mrt_rows.proofs.OrderedGraphs.{OrderedGraph}
use Rattle.mrt_rows.proofs.RowsExist.{row_in, rows_have}

module _ (og : OrderedGraph) (s : ℕ) (s_within : s < length og.g.ids) where
  -- the nodes that have had their turns have their rows, and so has the head of the source
  pub record IsFilling (nodes : List ℕ) (count : ℕ) (rows : List Row) : Type 0 where
    pub over : (j v : ℕ) → j < count → slice_get nodes j ≡ Some v → s ≢ v → HasTheRow og s v (slice_get rows v)
    pub home : s ≢ og.root → HasTheRow og s (og.w.head s) (slice_get rows (og.w.head s))

  home_near : (o : Option Row) → IsNearRow og.g og.root og.w s (og.w.head s) o → HasTheRow og s (og.w.head s) o
  home_near (Some row) near = record { row = row; is = refl; the = Near near }
  home_near None (Apart apart) = absurd (apart (og.w.block s) (og.w.head s) (ToHead refl refl refl))

  -- none has had its turn
  pub filling_home : (nodes : List ℕ) (rows : List Row)
      → (s ≢ og.root → IsNearRow og.g og.root og.w s (og.w.head s) (slice_get rows (og.w.head s))) → IsFilling nodes 0 rows
  filling_home nodes rows near = record {
    over = λ j v below at two. absurd (omega (arith, below));
    home = λ other. home_near (slice_get rows (og.w.head s)) (near other);
  }

  -- a near row; and where there is none, that for the carrier, carried
  row_or : (t : ℕ) (o near : Option Row) (from : Row) → IsNearRow og.g og.root og.w s t near → Some from ≡ option_map carried o
      → (((k h : ℕ) → ¬ HaveCommonBlock og.w s t k h) → HasTheRow og s (carrier_by og.w og.root s t) o) → HasTheRow og s t (Some (unwrap_or near from))
  row_or t o (Some row) from near made far = record { row = row; is = refl; the = Near near }
  row_or t o None from (Apart apart) made far =
      let it = far apart in
      record { row = carried it.row; is = made ∙ ap (option_map carried) it.is; the = Far (Apart apart) it.the }

  module _ (nodes : List ℕ) (turns : AreTurns og.g og.w Up nodes) (i v : ℕ) (at : slice_get nodes i ≡ Some v) (rows : List Row)
      (filling : IsFilling nodes i rows) where
    -- the source has no row for itself
    pub filling_past : s ≡ v → IsFilling nodes (i + 1) rows
    filling_past same = record {
      over = λ j u below at_j two. elim (cases_eq j i) [
        | inl here ↦ absurd (two (same ∙ same_Some v u (sym at ∙ ap (slice_get nodes) (sym here) ∙ at_j)))
        | inr other ↦ filling.over j u (omega (arith, below, other)) at_j two
      ];
      home = filling.home;
    }

    -- the row for v
    module _ (two : s ≢ v) (from : Row) (near : Option Row) (is : IsNearRow og.g og.root og.w s v near)
        (to_other : v ≢ og.root → Some from ≡ option_map carried (slice_get rows (og.w.head v)))
        (to_root : v ≡ og.root → Some from ≡ option_map carried (slice_get rows (og.w.head s))) where
      row_for : HasTheRow og s v (Some (unwrap_or near from))
      row_for =
          row_or v (slice_get rows (carrier_by og.w og.root s v)) near from is
          (at_carrier (λ (x : ℕ). Some from ≡ option_map carried (slice_get rows x)) og.w og.root s v to_other to_root)
          (λ apart. at_carrier (λ (x : ℕ). HasTheRow og s x (slice_get rows x)) og.w og.root s v
          (λ other. before other (λ same. apart (og.w.block v) s (FromHead refl (sym same) refl)))
          (λ same. filling.home (λ s_root. two (s_root ∙ sym same))))
        where
          v_within : v < length og.g.ids
          v_within = turns.within i v at

          before : v ≢ og.root → s ≢ og.w.head v → HasTheRow og s (og.w.head v) (slice_get rows (og.w.head v))
          before other apart =
              let head_within = og.ordered.heads.head_within v v_within in
              filling.over (og.w.order (og.w.head v) - 1) (og.w.head v)
              (omega (arith, turns.by_turn i v at, og.ordered.heads.lower v v_within other, og.ordered.orders.from_one (og.w.head v) head_within))
              (turns.of_each (og.w.head v) head_within) apart

      -- it is put: so are those that were there, and that for v
      put : length rows ≡ length og.g.ids → (u : ℕ) → (u ≢ v → HasTheRow og s u (slice_get rows u))
          → HasTheRow og s u (slice_get (set rows v (unwrap_or near from)) u)
      put one_each u was = elim (cases_eq u v) [
        | inl same ↦ rw (same, set_there rows v (unwrap_or near from) (omega (arith, turns.within i v at, one_each))) row_for
        | inr other ↦ rw (set_elsewhere rows v u (unwrap_or near from) other) (was other)
      ]

      pub filling_on : length rows ≡ length og.g.ids → IsFilling nodes (i + 1) (set rows v (unwrap_or near from))
      filling_on one_each = record {
        over = λ j u below at_j apart. put one_each u (λ other.
            let later : j ≢ i = λ here. other (same_Some u v (sym at_j ∙ ap (slice_get nodes) here ∙ at)) in
            filling.over j u (omega (arith, below, later)) at_j apart);
        home = λ other. put one_each (og.w.head s) (λ apart. filling.home other);
      }

  -- all have had their turns
  pub filled : (nodes : List ℕ) → AreTurns og.g og.w Up nodes → (count : ℕ) (rows : List Row) → length nodes ≤ count → IsFilling nodes count rows
      → (t : ℕ) → t < length og.g.ids → s ≢ t → IsRowIn og.g og.root og.w s t (slice_get rows t)
  filled nodes turns count rows all filling t t_within two =
      let at = turns.of_each t t_within in
      row_in og s t (slice_get rows t) s_within t_within two
      (filling.over (og.w.order t - 1) t (omega (arith, slice_get_within nodes (og.w.order t - 1) t at, all)) at two)

-- the rows by destination, without the place of the source
abbrev no_row : Row
no_row = record { blue = 0; red = 0; tag = tags.Carried }

for_removed : (s t : ℕ) (rows : List Row) → s < length rows → t < length rows → s ≢ t → rows_for s (remove rows s) t ≡ slice_get rows t
for_removed s t rows s_within t_within two = elim (cases_lt t s) [
  | inl below ↦
      rw (ne_eqb t s (λ same. two (sym same)), lt-ltb t s below)
      (slice_get-get_or (remove rows s) t no_row (omega (arith, below, s_within, length-remove rows s s_within))
      ∙ ap (λ (row : Row). Some row) (get_or-remove_below rows s no_row t below s_within) ∙ sym (slice_get-get_or rows t no_row t_within))
  | inr above ↦
      let next : t - 1 + 1 ≡ t = omega (arith, above, two) in
      rw (ne_eqb t s (λ same. two (sym same)), le-ltb t s above)
      (slice_get-get_or (remove rows s) (t - 1) no_row (omega (arith, above, two, t_within, length-remove rows s s_within))
      ∙ ap (λ (row : Row). Some row) (get_or-remove_above rows s no_row (t - 1) (omega (arith, above, two)) s_within
      ∙ ap (λ (k : ℕ). get_or rows k no_row) next)
      ∙ sym (slice_get-get_or rows t no_row t_within))
]

pub rows_removed : (og : OrderedGraph) (s : ℕ) (rows : List Row) → s < length og.g.ids → length rows ≡ length og.g.ids
    → ((t : ℕ) → t < length og.g.ids → s ≢ t → IsRowIn og.g og.root og.w s t (slice_get rows t))
    → AreRowsOf og.g og.root og.w s (remove rows s)
rows_removed og s rows s_within one_each each = record {
  one_each = length-remove rows s (omega (arith, s_within, one_each)) ∙ one_each;
  each = rows_have og s (rows_for s (remove rows s)) s_within (λ t t_within two.
      subst (λ (o : Option Row). IsRowIn og.g og.root og.w s t o)
      (sym (for_removed s t rows (omega (arith, s_within, one_each)) (omega (arith, t_within, one_each)) two)) (each t t_within two));
}
