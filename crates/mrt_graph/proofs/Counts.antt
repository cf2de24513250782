-- How many numbers below another pass a test.
use Rattle.std.proofs.Common.{◌≡◌, ◌∙◌, ◌<◌, ◌≤◌, ◌+◌, ◌-◌, ◌==◌, ◌++◌, ℕ, zero, suc, Bool, true, false, List, [], ◌∷◌, filter, length, inl, inr, refl, sym, ap, subst, arith, length-append, nat_lt}
use Rattle.std.specs.List.{range_with_len}
use Rattle.std.proofs.lemmas.Bool.{cases_Bool, cases_eq, cases_lt, eq-eqb, le-ltb, lt-ltb, ne_eqb}
use Rattle.std.proofs.lemmas.List.{append-nil}
use Rattle.std.proofs.lemmas.List.Elements.{filter-append}
use Rattle.mrt_graph.specs.Groups.{count_below}
use Rattle.mrt_graph.proofs.Pairs.{range_more}
use Rattle.mrt_graph.proofs.Tallies.{one_if}

pub filter_more : (p : ℕ → Bool) (n : ℕ) → filter p (range_with_len 0 (n + 1)) ≡ filter p (range_with_len 0 n) ++ filter p (n ∷ [])
filter_more p n = ap (filter p) (range_more n) ∙ filter-append p (range_with_len 0 n) (n ∷ [])

pub filter_here : (p : ℕ → Bool) (n : ℕ) → p n ≡ true → filter p (range_with_len 0 (n + 1)) ≡ filter p (range_with_len 0 n) ++ n ∷ []
filter_here p n passes =
    let one : filter p (n ∷ []) ≡ n ∷ [] = rw passes refl in
    filter_more p n ∙ ap (λ (xs : List ℕ). filter p (range_with_len 0 n) ++ xs) one

pub filter_not_here : (p : ℕ → Bool) (n : ℕ) → p n ≡ false → filter p (range_with_len 0 (n + 1)) ≡ filter p (range_with_len 0 n)
filter_not_here p n fails =
    let none : filter p (n ∷ []) ≡ [] = rw fails refl in
    filter_more p n ∙ ap (λ (xs : List ℕ). filter p (range_with_len 0 n) ++ xs) none ∙ append-nil (filter p (range_with_len 0 n))

one_counted : (p : ℕ → Bool) (n : ℕ) → length (filter p (n ∷ [])) ≡ one_if (p n)
one_counted p n = elim (cases_Bool (p n)) [ inl passes ↦ rw passes refl | inr fails ↦ rw fails refl ]

-- one number more
pub count_more : (p : ℕ → Bool) (n : ℕ) → count_below p (n + 1) ≡ count_below p n + one_if (p n)
count_more p n =
    ap length (filter_more p n) ∙ length-append (filter p (range_with_len 0 n)) (filter p (n ∷ []))
    ∙ ap (λ (k : ℕ). count_below p n + k) (one_counted p n)

pub count_suc : (p : ℕ → Bool) (n : ℕ) → count_below p (suc n) ≡ count_below p n + one_if (p n)
count_suc p n = let same : suc n ≡ n + 1 = omega arith in ap (count_below p) same ∙ count_more p n

pub count_here : (p : ℕ → Bool) (n : ℕ) → p n ≡ true → count_below p (n + 1) ≡ count_below p n + 1
count_here p n passes = count_more p n ∙ ap (λ (b : Bool). count_below p n + one_if b) passes

pub count_not_here : (p : ℕ → Bool) (n : ℕ) → p n ≡ false → count_below p (n + 1) ≡ count_below p n
count_not_here p n fails = let more = count_more p n ∙ ap (λ (b : Bool). count_below p n + one_if b) fails in omega (arith, more)

pub count_up : (p : ℕ → Bool) (m k : ℕ) → count_below p m ≤ count_below p (m + k)
count_up p m zero = let same : m + 0 ≡ m = omega arith in omega (arith, ap (count_below p) same)
count_up p m (suc k) =
    let same : m + suc k ≡ suc (m + k) = omega arith in
    omega (arith, ap (count_below p) same, count_suc p (m + k), count_up p m k)

-- among more numbers at least as many pass
pub count_grows : (p : ℕ → Bool) (m n : ℕ) → m ≤ n → count_below p m ≤ count_below p n
count_grows p m n up =
    let same : m + (n - m) ≡ n = omega (arith, up) in
    omega (arith, ap (count_below p) same, count_up p m (n - m))

-- where two tests agree they count alike
pub count_alike : (p q : ℕ → Bool) (n : ℕ) → ((v : ℕ) → v < n → p v ≡ q v) → count_below p n ≡ count_below q n
count_alike p q zero same = refl
count_alike p q (suc n) same =
    let here : one_if (p n) ≡ one_if (q n) = ap one_if (same n (omega arith)) in
    omega (arith, count_suc p n, count_suc q n, here, count_alike p q n (λ v below. same v (omega (arith, below))))

-- where one test passes what either of two others does, and never both
pub count_both : (p q r : ℕ → Bool) (n : ℕ) → ((v : ℕ) → v < n → one_if (p v) ≡ one_if (q v) + one_if (r v))
    → count_below p n ≡ count_below q n + count_below r n
count_both p q r zero parts = refl
count_both p q r (suc n) parts =
    let here = parts n (omega arith) in
    omega (arith, count_suc p n, count_suc q n, count_suc r n, here, count_both p q r n (λ v below. parts v (omega (arith, below))))

pub count_none : (p : ℕ → Bool) (n : ℕ) → ((v : ℕ) → v < n → p v ≡ false) → count_below p n ≡ 0
count_none p zero none = refl
count_none p (suc n) none =
    let here : one_if (p n) ≡ 0 = ap one_if (none n (omega arith)) in
    omega (arith, count_suc p n, here, count_none p n (λ v below. none v (omega (arith, below))))

-- one number is below t or not
pub count_one : (a n : ℕ) → count_below (λ v. v == a) n ≡ one_if (nat_lt a n)
count_one a zero = rw (le-ltb a 0 (omega arith)) refl
count_one a (suc n) = elim (cases_eq n a) [
  | inl same ↦
      let here : one_if (n == a) ≡ 1 = ap one_if (eq-eqb n a same) in
      let before : one_if (nat_lt a n) ≡ 0 = ap one_if (le-ltb a n (omega (arith, same))) in
      let after : one_if (nat_lt a (suc n)) ≡ 1 = ap one_if (lt-ltb a (suc n) (omega (arith, same))) in
      omega (arith, count_suc (λ v. v == a) n, count_one a n, here, before, after)
  | inr other ↦
      let here : one_if (n == a) ≡ 0 = ap one_if (ne_eqb n a other) in
      elim (cases_lt a n) [
        | inl below ↦
            let before : one_if (nat_lt a n) ≡ 1 = ap one_if (lt-ltb a n below) in
            let after : one_if (nat_lt a (suc n)) ≡ 1 = ap one_if (lt-ltb a (suc n) (omega (arith, below))) in
            omega (arith, count_suc (λ v. v == a) n, count_one a n, here, before, after)
        | inr above ↦
            let before : one_if (nat_lt a n) ≡ 0 = ap one_if (le-ltb a n above) in
            let after : one_if (nat_lt a (suc n)) ≡ 0 = ap one_if (le-ltb a (suc n) (omega (arith, above, other))) in
            omega (arith, count_suc (λ v. v == a) n, count_one a n, here, before, after)
      ]
]

-- those below v among those that pass
pub count_lower : (p : ℕ → Bool) (v n : ℕ) → v ≤ n → length (filter (λ u. nat_lt u v) (filter p (range_with_len 0 n))) ≡ count_below p v
count_lower p v n up =
    let same : v + (n - v) ≡ n = omega (arith, up) in
    subst (λ (m : ℕ). length (filter (λ u. nat_lt u v) (filter p (range_with_len 0 m))) ≡ count_below p v) same (past (n - v))
  where
    lower : ℕ → Bool
    lower u = nat_lt u v

    up_to : (m : ℕ) → m ≤ v → filter lower (filter p (range_with_len 0 m)) ≡ filter p (range_with_len 0 m)
    up_to zero within = refl
    up_to (suc m) within =
        let more : suc m ≡ m + 1 = omega arith in
        let is : lower m ≡ true = lt-ltb m v (omega (arith, within)) in
        let one : filter lower (filter p (m ∷ [])) ≡ filter p (m ∷ []) = elim (cases_Bool (p m)) [ inl passes ↦ rw (passes, is) refl | inr fails ↦ rw fails refl ] in
        let front = up_to m (omega (arith, within)) in
        ap (λ (k : ℕ). filter lower (filter p (range_with_len 0 k))) more
        ∙ ap (filter lower) (filter_more p m) ∙ filter-append lower (filter p (range_with_len 0 m)) (filter p (m ∷ []))
        ∙ ap (λ (xs : List ℕ). xs ++ filter lower (filter p (m ∷ []))) front
        ∙ ap (λ (xs : List ℕ). filter p (range_with_len 0 m) ++ xs) one
        ∙ sym (filter_more p m) ∙ ap (λ (k : ℕ). filter p (range_with_len 0 k)) (sym more)

    past : (k : ℕ) → length (filter lower (filter p (range_with_len 0 (v + k)))) ≡ count_below p v
    past zero =
        let none : v + 0 ≡ v = omega arith in
        ap (λ (m : ℕ). length (filter lower (filter p (range_with_len 0 m)))) none ∙ ap length (up_to v (omega arith))
    past (suc k) =
        let more : v + suc k ≡ v + k + 1 = omega arith in
        let not : lower (v + k) ≡ false = le-ltb (v + k) v (omega arith) in
        let none : length (filter lower (filter p ((v + k) ∷ []))) ≡ 0 =
        elim (cases_Bool (p (v + k))) [ inl passes ↦ rw (passes, not) refl | inr fails ↦ rw fails refl ] in
        let parts = ap (λ (m : ℕ). length (filter lower (filter p (range_with_len 0 m)))) more
        ∙ ap (λ (xs : List ℕ). length (filter lower xs)) (filter_more p (v + k))
        ∙ ap length (filter-append lower (filter p (range_with_len 0 (v + k))) (filter p ((v + k) ∷ [])))
        ∙ length-append (filter lower (filter p (range_with_len 0 (v + k)))) (filter lower (filter p ((v + k) ∷ []))) in
        omega (arith, parts, none, past k)
