-- A test holds at each place or fails first at one, and never both.
use Rattle.std.proofs.Common.{◌≡◌, ◌<◌, ◌⊎◌, inl, inr, ℕ, zero, suc, Bool, true, false, sym, subst, arith}
use Rattle.std.proofs.lemmas.Bool.{both_ways, cases_Bool, cases_eq, cases_order}
use Rattle.mrt_graph.specs.Places.{Each, IsFirst, EachPair, IsFirstPair}

-- ---- at most one of them

pub each_or_first : (test : ℕ → Bool) (n a : ℕ) → Each test n → IsFirst test n a → ⊥
each_or_first test n a each first = both_ways _ first.fails (each a first.within)

not_before : (test : ℕ → Bool) (n a b : ℕ) → IsFirst test n a → IsFirst test n b → a < b → ⊥
not_before test n a b first other less = both_ways _ first.fails (other.before a less)

pub one_first : (test : ℕ → Bool) (n a b : ℕ) → IsFirst test n a → IsFirst test n b → a ≡ b
one_first test n a b first other = elim (cases_order a b) [
  | inl same ↦ same
  | inr (inl less) ↦ absurd (not_before test n a b first other less)
  | inr (inr less) ↦ absurd (not_before test n b a other first less)
]

pub each_or_pair : (test : ℕ → ℕ → Bool) (n a b : ℕ) → EachPair test n → IsFirstPair test n a b → ⊥
each_or_pair test n a b each first = both_ways _ first.fails (each a b first.first_within first.second_within)

not_above : (test : ℕ → ℕ → Bool) (n a b x y : ℕ) → IsFirstPair test n a b → IsFirstPair test n x y → a < x → ⊥
not_above test n a b x y first other less = both_ways _ first.fails (other.before_first a b less first.second_within)

not_beside : (test : ℕ → ℕ → Bool) (n a b x y : ℕ) → IsFirstPair test n a b → IsFirstPair test n x y → a ≡ x → b < y → ⊥
not_beside test n a b x y first other same less =
    both_ways _ first.fails (subst (λ (z : ℕ). test z b ≡ true) (sym same) (other.before_second b less))

pub one_pair : (test : ℕ → ℕ → Bool) (n a b x y : ℕ) → IsFirstPair test n a b → IsFirstPair test n x y
    → (a ≡ x) × (b ≡ y)
one_pair test n a b x y first other = elim (cases_order a x) [
  | inl same ↦ (
    same,
    elim (cases_order b y) [
      | inl equal ↦ equal
      | inr (inl less) ↦ absurd (not_beside test n a b x y first other same less)
      | inr (inr less) ↦ absurd (not_beside test n x y a b other first (sym same) less)
    ],
  )
  | inr (inl less) ↦ absurd (not_above test n a b x y first other less)
  | inr (inr less) ↦ absurd (not_above test n x y a b other first less)
]

-- ---- at least one of them

-- below a place all holds, or something fails first; where the one is known of the place itself, so it is up to it
pub first_of : (Holds : ℕ → Type 0) (Fails : ℕ → Type 0) → (n : ℕ) → ((a : ℕ) → a < n → Holds a ⊎ Fails a)
    → ((a : ℕ) → a < n → Holds a) ⊎ ((a : ℕ) × ((a < n) × (Fails a × ((x : ℕ) → x < a → Holds x))))
first_of Holds Fails zero each = inl (λ a within. absurd (omega (arith, within)))
first_of Holds Fails (suc n) each = elim (first_of Holds Fails n (λ a within. each a (omega (arith, within)))) [
  | inl held ↦ elim (each n (omega arith)) [
    | inl here ↦ inl (λ a within. elim (cases_eq a n) [
      | inl same ↦ subst Holds (sym same) here
      | inr other ↦ held a (omega (arith, within, other))
    ])
    | inr fails ↦ inr (n, (omega arith, (fails, held)))
  ]
  | inr found ↦ inr (found.0, (omega (arith, found.1.0), found.1.1))
]

pub each_first : (test : ℕ → Bool) (n : ℕ) → Each test n ⊎ ((a : ℕ) × IsFirst test n a)
each_first test n = elim (first_of (λ a. test a ≡ true) (λ a. test a ≡ false) n (λ a within. cases_Bool (test a))) [
  | inl each ↦ inl each
  | inr found ↦ inr (found.0, record { within = found.1.0; fails = found.1.1.0; before = found.1.1.1 })
]

pub pairs_first : (test : ℕ → ℕ → Bool) (n : ℕ) → EachPair test n ⊎ ((a : ℕ) × ((b : ℕ) × IsFirstPair test n a b))
pairs_first test n =
    elim (first_of (λ a. Each (test a) n) (λ a. (b : ℕ) × IsFirst (test a) n b) n (λ a within. each_first (test a) n)) [
      | inl each ↦ inl (λ a b first second. each a first b second)
      | inr found ↦
          let beside = found.1.1.0 in
          inr (
            found.0,
            (
              beside.0,
              record {
                first_within = found.1.0;
                second_within = beside.1.within;
                fails = beside.1.fails;
                before_first = λ x y below within. found.1.1.1 x below y within;
                before_second = beside.1.before;
              },
            ),
          )
    ]
