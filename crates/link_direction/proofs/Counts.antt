-- How many of the first numbers pass a test.
use Rattle.std.proofs.Common.{◌≡◌, ◌≢◌, ◌<◌, ◌≤◌, ◌+◌, ℕ, zero, suc, Bool, true, false, inl, inr, refl, subst, arith}
use Rattle.std.proofs.lemmas.Bool.{cases_Bool, cases_eq}
use Rattle.link_direction.specs.steps.Counting.{count_to}

pub same_count : (p q : ℕ → Bool) (n : ℕ) → ((e : ℕ) → p e ≡ q e) → count_to p n ≡ count_to q n
same_count p q zero same = refl
same_count p q (suc n) same = rw (same n) (omega (arith, same_count p q n same))

pub at_most : (p : ℕ → Bool) (n : ℕ) → count_to p n ≤ n
at_most p zero = omega arith
at_most p (suc n) = elim (cases_Bool (p n)) [
  | inl passes ↦ rw passes (omega (arith, at_most p n))
  | inr fails ↦ rw fails (omega (arith, at_most p n))
]

pub some_counted : (p : ℕ → Bool) (n e : ℕ) → e < n → p e ≡ true → 1 ≤ count_to p n
some_counted p zero e within passes = absurd (omega (arith, within))
some_counted p (suc n) e within passes = elim (cases_eq e n) [
  | inl same ↦ rw (subst (λ (d : ℕ). p d ≡ true) same passes) (omega arith)
  | inr other ↦ omega (arith, some_counted p n e (omega (arith, within, other)) passes)
]

pub none_counted : (p : ℕ → Bool) (n e : ℕ) → count_to p n ≡ 0 → e < n → p e ≡ false
none_counted p n e none within = elim (cases_Bool (p e)) [
  | inl passes ↦ absurd (omega (arith, none, some_counted p n e within passes))
  | inr fails ↦ fails
]

pub all_fail : (p : ℕ → Bool) (n : ℕ) → ((e : ℕ) → p e ≡ false) → count_to p n ≡ 0
all_fail p zero fails = refl
all_fail p (suc n) fails = rw (fails n) (omega (arith, all_fail p n fails))

-- of two tests that differ at one number alone, which the one passes, that one counts one more
pub one_more : (p q : ℕ → Bool) (n e : ℕ) → e < n → p e ≡ true → q e ≡ false → ((d : ℕ) → d ≢ e → q d ≡ p d) → count_to p n ≡ count_to q n + 1
one_more p q zero e within passes fails others = absurd (omega (arith, within))
one_more p q (suc n) e within passes fails others = elim (cases_eq e n) [
  | inl same ↦
      let here : p n ≡ true = subst (λ (d : ℕ). p d ≡ true) same passes in
      let gone : q n ≡ false = subst (λ (d : ℕ). q d ≡ false) same fails in
      let before : count_to p n ≡ count_to q n = below p q n n (omega arith) (λ d less. others d (omega (arith, same, less))) in
      rw (here, gone) (omega (arith, before))
  | inr other ↦
      let rest : count_to p n ≡ count_to q n + 1 = one_more p q n e (omega (arith, within, other)) passes fails others in
      let last : q n ≡ p n = others n (omega (arith, other)) in
      rw last (omega (arith, rest))
]
  where
    below : (p q : ℕ → Bool) (k n : ℕ) → k ≤ n → ((d : ℕ) → d < n → q d ≡ p d) → count_to p k ≡ count_to q k
    below p q zero n less same = refl
    below p q (suc k) n less same = rw (same k (omega (arith, less))) (omega (arith, below p q k n (omega (arith, less)) same))
