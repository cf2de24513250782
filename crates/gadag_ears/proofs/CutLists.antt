-- The list cut at the node whose turn it is, with the nodes of an ear put in.
use Rattle.std.proofs.Common.{◌≡◌, ◌⊎◌, ◌≤◌, ◌+◌, ◌++◌, ◌==◌, ℕ, List, [], ◌∷◌, inl, inr, sym, subst, arith, append_assoc}
use Rattle.std.specs.Prelude.{Contains}
use Rattle.std.proofs.lemmas.List.Elements.{Contains-append_left, Contains-append_right, Contains-append_cases}
use Rattle.mrt_graph.proofs.Members.{contains_cases, contains_first, contains_later}
use Rattle.mrt_graph.proofs.Tallies.{tally_append}
use Rattle.gadag_ears.proofs.Once.{times, some_of}

pub in_over : (over : List ℕ) (x : ℕ) (later : List ℕ) (v : ℕ) → Contains over v → Contains (over ++ x ∷ later) v
in_over over x later v c = Contains-append_left over (x ∷ later) v c

pub in_turn : (over : List ℕ) (x : ℕ) (later : List ℕ) → Contains (over ++ x ∷ later) x
in_turn over x later = Contains-append_right over (x ∷ later) x (contains_first x later)

pub in_later : (over : List ℕ) (x : ℕ) (later : List ℕ) (v : ℕ) → Contains later v → Contains (over ++ x ∷ later) v
in_later over x later v c = Contains-append_right over (x ∷ later) v (contains_later x v later c)

-- where a member stands
pub data StandsIn (over : List ℕ) (x : ℕ) (later : List ℕ) (v : ℕ) : Type 0 where
  Before : Contains over v → StandsIn over x later v
  Here : v ≡ x → StandsIn over x later v
  After : Contains later v → StandsIn over x later v

pub stands_in : (over : List ℕ) (x : ℕ) (later : List ℕ) (v : ℕ) → Contains (over ++ x ∷ later) v → StandsIn over x later v
stands_in over x later v c = elim (Contains-append_cases over (x ∷ later) v c) [
  | inl before ↦ Before before
  | inr rest ↦ elim (contains_cases x v later rest) [ inl same ↦ Here same | inr after ↦ After after ]
]

-- a list with the nodes of an ear put in
pub kept_in : (over : List ℕ) (x : ℕ) (later new : List ℕ) (v : ℕ) → Contains (over ++ x ∷ later) v → Contains (over ++ x ∷ (new ++ later)) v
kept_in over x later new v c = by (stands_in over x later v c)
  where
    by : StandsIn over x later v → Contains (over ++ x ∷ (new ++ later)) v
    by (Before c) = in_over over x (new ++ later) v c
    by (Here same) = subst (λ (w : ℕ). Contains (over ++ x ∷ (new ++ later)) w) (sym same) (in_turn over x (new ++ later))
    by (After c) = in_later over x (new ++ later) v (Contains-append_right new later v c)

pub put_in : (over : List ℕ) (x : ℕ) (later new : List ℕ) (v : ℕ) → Contains new v → Contains (over ++ x ∷ (new ++ later)) v
put_in over x later new v c = in_later over x (new ++ later) v (Contains-append_left new later v c)

pub put_cases : (over : List ℕ) (x : ℕ) (later new : List ℕ) (v : ℕ) → Contains (over ++ x ∷ (new ++ later)) v
    → Contains new v ⊎ Contains (over ++ x ∷ later) v
put_cases over x later new v c = by (stands_in over x (new ++ later) v c)
  where
    by : StandsIn over x (new ++ later) v → Contains new v ⊎ Contains (over ++ x ∷ later) v
    by (Before c) = inr (in_over over x later v c)
    by (Here same) = inr (subst (λ (w : ℕ). Contains (over ++ x ∷ later) w) (sym same) (in_turn over x later))
    by (After c) = elim (Contains-append_cases new later v c) [ inl added ↦ inl added | inr after ↦ inr (in_later over x later v after) ]

-- the turn goes on to the next node
pub turned : (over : List ℕ) (x y : ℕ) (later : List ℕ) → (over ++ x ∷ []) ++ y ∷ later ≡ over ++ x ∷ y ∷ later
turned over x y later = append_assoc over (x ∷ []) (y ∷ later)

-- how often a node stands in such a list
pub times_cut : (over : List ℕ) (x : ℕ) (later : List ℕ) (v : ℕ) → times v (over ++ x ∷ later) ≡ times v over + times v (x ∷ later)
times_cut over x later v = tally_append (λ u. u == v) over (x ∷ later)

pub times_put : (over : List ℕ) (x : ℕ) (later new : List ℕ) (v : ℕ)
    → times v (over ++ x ∷ (new ++ later)) ≡ times v new + times v (over ++ x ∷ later)
times_put over x later new v =
    omega (
      arith,
      tally_append (λ u. u == v) over (x ∷ (new ++ later)),
      tally_append (λ u. u == v) new later,
      tally_append (λ u. u == v) over (x ∷ later),
    )

-- in a list without repeats the node whose turn it is does not stand after itself
pub not_after : (over : List ℕ) (x : ℕ) (later : List ℕ) → ((v : ℕ) → times v (over ++ x ∷ later) ≤ 1) → Contains later x → ⊥
not_after over x later once c =
    omega (arith, once x, times_cut over x later x, some_of x later c, some_of x (x ∷ []) (contains_first x []))
