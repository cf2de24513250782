-- Rows put at their places, one after another.
use Rattle.std.proofs.Common.{◌≡◌, ◌≢◌, ◌⊎◌, ◌∙◌, ◌<◌, ◌≤◌, ◌+◌, ◌-◌, ◌*◌, ◌==◌, ℕ, List, Some, nat_lt, length, set, refl, sym, subst, inl, inr, arith}
use Rattle.std.proofs.Math.Nat.{mul-le-mul_left, mul_comm}
use Rattle.std.proofs.lemmas.Bool.{and_parts, cases_Bool, cases_eq, cases_lt, eqb-false, ltb-true, not-true}
use Rattle.mrt_graph.specs.declared.cert.Row.{Row}
use Rattle.mrt_graph.specs.Certificate.{are_two}
use Rattle.mrt_graph.specs.RowPlace.{place_of_row}
use Rattle.mrt_graph.proofs.ListPlaces.{set_elsewhere, set_there}
use Rattle.mrt_rows.specs.steps.RowsOf.{row_among}
use Rattle.mrt_rows.proofs.AllRows.{row_is}
use Rattle.mrt_graph.proofs.RowPlaces.{column, column_above, column_below}

-- the columns of two nodes differ
column_within : (n s t : ℕ) → s < n → t < n → s ≢ t → column s t < n - 1
column_within n s t s_within t_within two = elim (cases_lt t s) [
  | inl below ↦ omega (arith, column_below s t below, below, s_within)
  | inr above ↦ omega (arith, column_above s t (omega (arith, above, two)), t_within, above, two)
]

columns_differ : (s t v : ℕ) → s ≢ t → s ≢ v → t ≢ v → column s t ≢ column s v
columns_differ s t v t_two v_two differ same = elim (cases_lt t s) [
  | inl t_below ↦ elim (cases_lt v s) [
    | inl v_below ↦ differ (sym (column_below s t t_below) ∙ same ∙ column_below s v v_below)
    | inr v_above ↦
        omega (arith, same, column_below s t t_below, column_above s v (omega (arith, v_above, v_two)), t_below, v_above, v_two)
  ]
  | inr t_above ↦ elim (cases_lt v s) [
    | inl v_below ↦
        omega (arith, same, column_below s v v_below, column_above s t (omega (arith, t_above, t_two)), v_below, t_above, t_two)
    | inr v_above ↦
        differ (omega (
          arith,
          same,
          column_above s t (omega (arith, t_above, t_two)),
          column_above s v (omega (arith, v_above, v_two)),
          t_above,
          v_above,
          t_two,
          v_two,
        ))
  ]
]

rows_apart : (m s u a b : ℕ) → s < u → a < m → s * m + a ≢ u * m + b
rows_apart m s u a b less within same =
    let next : m * (s + 1) ≤ m * u = mul-le-mul_left m (omega (arith, less)) in
    let left : m * (s + 1) ≡ s * m + m = omega arith in
    let right : m * u ≡ u * m = mul_comm m u in
    omega (arith, next, left, right, within, same)

-- two rows have two places
pub places_differ : (n s t u v : ℕ) → s < n → t < n → s ≢ t → u < n → v < n → u ≢ v → (u ≢ s) ⊎ (v ≢ t)
    → place_of_row n u v ≢ place_of_row n s t
places_differ n s t u v s_within t_within two u_within v_within uv_two differ same = elim (cases_eq u s) [
  | inl here ↦ elim differ [
    | inl other ↦ other here
    | inr other ↦
        let here_same : s * (n - 1) + column s v ≡ s * (n - 1) + column s t =
        subst (λ (x : ℕ). x * (n - 1) + column x v ≡ s * (n - 1) + column s t) here same in
        columns_differ s v t (λ back. uv_two (here ∙ back)) two other (omega (arith, here_same))
  ]
  | inr apart ↦ elim (cases_lt u s) [
    | inl below ↦ rows_apart (n - 1) u s (column u v) (column s t) below (column_within n u v u_within v_within uv_two) same
    | inr above ↦
        rows_apart (n - 1) s u (column s t) (column u v) (omega (arith, above, apart)) (column_within n s t s_within t_within two) (sym same)
  ]
]

pub place_within : (n s t : ℕ) → s < n → t < n → s ≢ t → place_of_row n s t < n * (n - 1)
place_within n s t s_within t_within two =
    let next : (n - 1) * (s + 1) ≤ (n - 1) * n = mul-le-mul_left (n - 1) (omega (arith, s_within)) in
    let left : (n - 1) * (s + 1) ≡ s * (n - 1) + (n - 1) = omega arith in
    let right : (n - 1) * n ≡ n * (n - 1) = mul_comm (n - 1) n in
    let inside = column_within n s t s_within t_within two in
    omega (arith, next, left, right, inside)

-- a row put at its place
module _ (n s t : ℕ) (row : Row) (rows : List Row) (s_within : s < n) (t_within : t < n) (two : s ≢ t) where
  pub put_there : length rows ≡ n * (n - 1) → row_among n (set rows (place_of_row n s t) row) s t ≡ Some row
  put_there room =
      row_is n (set rows (place_of_row n s t) row) s t s_within t_within two
      ∙ set_there rows (place_of_row n s t) row (omega (arith, room, place_within n s t s_within t_within two))

  pub put_elsewhere : (u v : ℕ) → (u ≢ s) ⊎ (v ≢ t) → row_among n (set rows (place_of_row n s t) row) u v ≡ row_among n rows u v
  put_elsewhere u v differ = elim (cases_Bool (are_two n u v)) [
    | inl are ↦
        let later = and_parts (nat_lt u n) _ are in
        let apart = and_parts (nat_lt v n) _ later.1 in
        let u_within = ltb-true u n later.0 in
        let v_within = ltb-true v n apart.0 in
        let uv_two = eqb-false u v (not-true (u == v) apart.1) in
        row_is n (set rows (place_of_row n s t) row) u v u_within v_within uv_two
        ∙ set_elsewhere rows (place_of_row n s t) (place_of_row n u v) row
        (places_differ n s t u v s_within t_within two u_within v_within uv_two differ)
        ∙ sym (row_is n rows u v u_within v_within uv_two)
    | inr not_two ↦ rw not_two refl
  ]
