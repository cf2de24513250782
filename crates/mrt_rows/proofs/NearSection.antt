-- The near rows of a node are those in its part of a certificate's rows.
use Rattle.std.proofs.Common.{◌≡◌, ◌≢◌, ◌∙◌, ◌<◌, ◌≤◌, ◌+◌, ◌-◌, ◌*◌, ◌++◌, ℕ, zero, suc, List, [], ◌∷◌, Option, None, drop, filter, length, nat_lt, slice_get, take, if◌then◌else◌, refl, sym, ap, inl, inr, arith, append-nil}
use Rattle.std.proofs.Math.Seq.{take-add}
use Rattle.std.proofs.lemmas.Bool.{cases_eq, cases_lt, eq-eqb, le-ltb, lt-ltb}
use Rattle.std.proofs.lemmas.List.Elements.{filter-append}
use Rattle.mrt_graph.specs.declared.cert.Row.{Row}
use Rattle.mrt_graph.specs.Certificate.{Certificate, row_of}
use Rattle.mrt_graph.specs.RowPlace.{place_of_row}
use Rattle.mrt_graph.proofs.RowPlaces.{column_above, column_below, row_at}
use Rattle.mrt_graph.specs.Tags.{is_near}
use Rattle.mrt_rows.specs.steps.NearOf.{near_first, near_in}
use Rattle.mrt_rows.specs.NearOf.{near_rows_of}

get_take : (xs : List Row) (n i : ℕ) → i < n → slice_get (take n xs) i ≡ slice_get xs i
get_take [] zero i within = absurd (omega (arith, within))
get_take [] (suc n) i within = refl
get_take (x ∷ xs) zero i within = absurd (omega (arith, within))
get_take (x ∷ xs) (suc n) zero within = refl
get_take (x ∷ xs) (suc n) (suc i) within = get_take xs n i (omega (arith, within))

get_drop : (xs : List Row) (k i j : ℕ) → k + i ≡ j → slice_get (drop k xs) i ≡ slice_get xs j
get_drop xs zero i j is = ap (λ (x : ℕ). slice_get xs x) (omega (arith, is))
get_drop [] (suc k) i j is = refl
get_drop (x ∷ xs) (suc k) i zero is = absurd (omega (arith, is))
get_drop (x ∷ xs) (suc k) i (suc j) is = get_drop xs k i j (omega (arith, is))

-- the row at a place, where it is near
near_at : (xs : List Row) (i : ℕ) → near_in (slice_get xs i) ≡ filter is_near (take 1 (drop i xs))
near_at [] zero = refl
near_at [] (suc i) = refl
near_at (x ∷ xs) zero = refl
near_at (x ∷ xs) (suc i) = near_at xs i

near_more : (xs : List Row) (i : ℕ) → filter is_near (take i xs) ++ near_in (slice_get xs i) ≡ filter is_near (take (i + 1) xs)
near_more xs i =
    ap (λ (rows : List Row). filter is_near (take i xs) ++ rows) (near_at xs i) ∙ sym (filter-append is_near (take i xs) (take 1 (drop i xs)))
    ∙ ap (λ (rows : List Row). filter is_near rows) (sym (take-add i 1 xs))

take_twice : (xs : List Row) (n : ℕ) → take n (take n xs) ≡ take n xs
take_twice xs zero = refl
take_twice [] (suc n) = refl
take_twice (x ∷ xs) (suc n) = ap (λ (rows : List Row). x ∷ rows) (take_twice xs n)

-- s has no row for itself
pub none_for_itself : (c : Certificate) (s : ℕ) → row_of c s s ≡ None
none_for_itself c s = elim (cases_lt s (length c.nodes)) [
  | inl within ↦ rw (lt-ltb s (length c.nodes) within, eq-eqb s s refl) refl
  | inr past ↦ rw (le-ltb s (length c.nodes) past) refl
]

module _ (c : Certificate) (s : ℕ) (s_within : s < length c.nodes) where
  abbrev n : ℕ
  n = length c.nodes

  abbrev section : List Row
  section = take (n - 1) (drop (s * (n - 1)) c.rows)

  -- how many of the nodes before t are not s
  abbrev others : ℕ → ℕ
  others t = if nat_lt s t then t - 1 else t

  others_below : (t : ℕ) → t ≤ s → others t ≡ t
  others_below t below = rw (le-ltb s t below) refl

  others_above : (t : ℕ) → s < t → others t ≡ t - 1
  others_above t above = rw (lt-ltb s t above) refl

  in_section : (t i : ℕ) → t < n → s ≢ t → i < n - 1 → place_of_row n s t ≡ s * (n - 1) + i → row_of c s t ≡ slice_get section i
  in_section t i t_within two i_within place =
      row_at c n s t refl s_within t_within two ∙ ap (λ (k : ℕ). slice_get c.rows k) place
      ∙ sym (get_drop c.rows (s * (n - 1)) i (s * (n - 1) + i) refl) ∙ sym (get_take (drop (s * (n - 1)) c.rows) (n - 1) i i_within)

  first_near : (t : ℕ) → t ≤ n → near_first (row_of c s) t ≡ filter is_near (take (others t) section)
  first_near zero low = ap (λ (k : ℕ). filter is_near (take k section)) (sym (others_below zero (omega arith)))
  first_near (suc t) low =
      let so_far = first_near t (omega (arith, low)) in
      elim (cases_lt t s) [
        | inl below ↦
            let next : t + 1 ≡ others (suc t) = omega (arith, others_below (suc t) (omega (arith, below))) in
            ap (λ (rows : List Row). rows ++ near_in (row_of c s t)) (so_far ∙ ap (λ (k : ℕ). filter is_near (take k section)) (others_below t (omega (arith, below))))
            ∙ ap (λ (o : Option Row). filter is_near (take t section) ++ near_in o)
            (in_section t t (omega (arith, low)) (λ same. omega (arith, same, below)) (omega (arith, below, s_within))
            (ap (λ (k : ℕ). s * (n - 1) + k) (column_below s t below)))
            ∙ near_more section t ∙ ap (λ (k : ℕ). filter is_near (take k section)) next
        | inr not_below ↦ elim (cases_eq t s) [
          | inl same ↦
              let next : others t ≡ others (suc t) =
              omega (arith, same, others_below t (omega (arith, same)), others_above (suc t) (omega (arith, same))) in
              ap (λ (rows : List Row). rows ++ near_in (row_of c s t)) so_far
              ∙ ap (λ (o : Option Row). filter is_near (take (others t) section) ++ near_in o) (ap (row_of c s) same ∙ none_for_itself c s)
              ∙ append-nil (filter is_near (take (others t) section)) ∙ ap (λ (k : ℕ). filter is_near (take k section)) next
          | inr other ↦
              let above : s < t = omega (arith, not_below, other) in
              let next : t - 1 + 1 ≡ others (suc t) = omega (arith, others_above (suc t) (omega (arith, above)), above) in
              ap (λ (rows : List Row). rows ++ near_in (row_of c s t)) (so_far ∙ ap (λ (k : ℕ). filter is_near (take k section)) (others_above t above))
              ∙ ap (λ (o : Option Row). filter is_near (take (t - 1) section) ++ near_in o)
              (in_section t (t - 1) (omega (arith, low)) (λ same. other (sym same)) (omega (arith, low, above))
              (ap (λ (k : ℕ). s * (n - 1) + k) (column_above s t above)))
              ∙ near_more section (t - 1) ∙ ap (λ (k : ℕ). filter is_near (take k section)) next
        ]
      ]

  pub all_near : near_first (row_of c s) n ≡ near_rows_of c s
  all_near =
      first_near n (omega arith) ∙ ap (λ (k : ℕ). filter is_near (take k section)) (others_above n s_within)
      ∙ ap (λ (rows : List Row). filter is_near rows) (take_twice (drop (s * (n - 1)) c.rows) (n - 1))
