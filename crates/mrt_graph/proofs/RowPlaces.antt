-- Where rows stand in a certificate.
use Rattle.std.proofs.Common.{◌≡◌, ◌≢◌, ◌∙◌, ◌<◌, ◌≤◌, ◌+◌, ◌-◌, ◌*◌, ◌/◌, ◌%◌, ℕ, zero, suc, true, not, nat_lt, length, slice_get, if◌then◌else◌, refl, ap, subst, inl, inr, arith}
use Rattle.std.proofs.Math.Nat.{div-add-mod, mul-le-mul_left, mul-le-mul_right, mul_comm, suc-mul}
use Rattle.std.proofs.lemmas.Bool.{and_from, cases_lt, le-ltb, lt-ltb, ne_eqb}
use Rattle.mrt_graph.specs.Certificate.{Certificate, are_two, row_of}
use Rattle.mrt_graph.specs.RowPlace.{place_of_row}

-- the place of t among the nodes but s
abbrev pub column : ℕ → ℕ → ℕ
column s t = if nat_lt t s then t else t - 1

pub column_below : (s t : ℕ) → t < s → column s t ≡ t
column_below s t below = rw (lt-ltb t s below) refl

pub column_above : (s t : ℕ) → s < t → column s t ≡ t - 1
column_above s t above = rw (le-ltb t s (omega arith)) refl

-- the row for two nodes stands at its place
pub row_at : (c : Certificate) (n s t : ℕ) → length c.nodes ≡ n → s < n → t < n → s ≢ t
    → row_of c s t ≡ slice_get c.rows (place_of_row n s t)
row_at c n s t count s_within t_within two =
    let are : are_two n s t ≡ true =
    and_from _ _ (lt-ltb s n s_within) (and_from _ _ (lt-ltb t n t_within) (ap not (ne_eqb s t two))) in
    rw (count, are) refl

pub place_low : (n s t : ℕ) → s < n → t < n → s ≢ t → place_of_row n s t < n * (n - 1)
place_low n s t s_within t_within two =
    let up : suc s * (n - 1) ≤ n * (n - 1) = mul-le-mul_right (n - 1) (omega (arith, s_within)) in
    let more : suc s * (n - 1) ≡ s * (n - 1) + (n - 1) = suc-mul s (n - 1) in
    elim (cases_lt t s) [
      | inl below ↦ omega (arith, up, more, column_below s t below, below, s_within)
      | inr above ↦ omega (arith, up, more, column_above s t (omega (arith, above, two)), t_within, above, two)
    ]

-- the two nodes whose row stands at a place
pub record Placed (n k : ℕ) : Type 0 where
  pub source : ℕ
  pub target : ℕ
  pub source_within : source < n
  pub target_within : target < n
  pub two : source ≢ target
  pub place : place_of_row n source target ≡ k

placed_in : (n s c k : ℕ) → s < n → c + 1 < n → s * (n - 1) + c ≡ k → Placed n k
placed_in n s c k s_within c_within is = elim (cases_lt c s) [
  | inl below ↦ record {
    source = s;
    target = c;
    source_within = s_within;
    target_within = omega (arith, c_within);
    two = λ same. omega (arith, below, same);
    place = ap (λ (x : ℕ). s * (n - 1) + x) (column_below s c below) ∙ is;
  }
  | inr above ↦
      let later : column s (c + 1) ≡ c + 1 - 1 = column_above s (c + 1) (omega (arith, above)) in
      let same : column s (c + 1) ≡ c = later ∙ omega arith in
      record {
        source = s;
        target = c + 1;
        source_within = s_within;
        target_within = c_within;
        two = λ same. omega (arith, above, same);
        place = ap (λ (x : ℕ). s * (n - 1) + x) same ∙ is;
      }
]

-- each place is that of a row
pub placed : (n k : ℕ) → k < n * (n - 1) → Placed n k
placed zero k within = absurd (omega (arith, within))
placed (suc zero) k within = absurd (omega (arith, within))
placed (suc (suc m)) k within = placed_in (suc (suc m)) (k / (suc m)) (k % (suc m)) k source_in column_in place_is
  where
    parts : suc m * (k / suc m) + k % suc m ≡ k
    parts = div-add-mod k (suc m)

    column_in : k % suc m + 1 < suc (suc m)
    column_in = omega arith

    less_one : suc (suc m) - 1 ≡ suc m
    less_one = omega arith

    few : k < suc m * suc (suc m)
    few = subst (λ (x : ℕ). k < x) (ap (λ (x : ℕ). suc (suc m) * x) less_one ∙ mul_comm (suc (suc m)) (suc m)) within

    source_in : k / suc m < suc (suc m)
    source_in = elim (cases_lt (k / suc m) (suc (suc m))) [
      | inl below ↦ below
      | inr above ↦ absurd (omega (arith, parts, few, mul-le-mul_left (suc m) above))
    ]

    place_is : k / suc m * (suc (suc m) - 1) + k % suc m ≡ k
    place_is =
        ap (λ (x : ℕ). k / suc m * x + k % suc m) less_one
        ∙ ap (λ (x : ℕ). x + k % suc m) (mul_comm (k / suc m) (suc m)) ∙ parts
