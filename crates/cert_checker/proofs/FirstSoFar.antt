-- What is kept after one more row, and after rows that keep each rule.
use Rattle.std.proofs.Common.{◌≡◌, ◌⊎◌, ◌∙◌, ◌<◌, ◌≤◌, ◌==◌, ◌&&◌, ◌||◌, ℕ, Bool, true, false, Option, Some, None, nat_lt, inl, inr, sym, subst, arith}
use Rattle.std.proofs.lemmas.Bool.{and_parts, both_ways, cases_lt, cond_both, eq-eqb, eqb-true, lt-ltb, ltb-true, or_cases, or_left, or_right, and_from}
use Rattle.cert_checker.specs.declared.fault.Fault.{Fault}
use Rattle.cert_checker.specs.steps.RowFaults.{FailsFirst, FirstRead, IsAfter, IsFirstSoFar, Precedes, first_of, is_before}
use Rattle.mrt_graph.specs.Rules.{Rule, rule_number}
use Rattle.mrt_graph.proofs.RuleFaults.{one_rule}

-- ---- places

comes_before : (a b x y : ℕ) → (nat_lt a x || ((a == x) && nat_lt b y)) ≡ true → Precedes a b x y
comes_before a b x y holds = elim (or_cases (nat_lt a x) _ holds) [
  | inl less ↦ inl (ltb-true a x less)
  | inr level ↦ let both = and_parts (a == x) (nat_lt b y) level in inr (eqb-true a x both.0, ltb-true b y both.1)
]

is_told : (a b x y : ℕ) → Precedes a b x y → (nat_lt a x || ((a == x) && nat_lt b y)) ≡ true
is_told a b x y (inl less) = or_left _ _ (lt-ltb a x less)
is_told a b x y (inr level) = or_right (nat_lt a x) _ (and_from _ _ (eq-eqb a x level.0) (lt-ltb b y level.1))

further : (x y s t a b : ℕ) → Precedes x y s t → Precedes s t a b → Precedes x y a b
further x y s t a b (inl less) (inl up) = inl (omega (arith, less, up))
further x y s t a b (inl less) (inr level) = inl (omega (arith, less, level.0))
further x y s t a b (inr level) (inl up) = inl (omega (arith, level.0, up))
further x y s t a b (inr level) (inr same) = inr (level.0 ∙ same.0, omega (arith, level.1, same.1))

module _ (test : Rule → ℕ → ℕ → Bool) (n : ℕ) (read more : ℕ → ℕ → Type 0) where
  -- what is read beside keeps each rule
  pub widened : ((x y : ℕ) → more x y → read x y ⊎ ((rule : Rule) → test rule x y ≡ true)) → (kept : Option Fault) → IsFirstSoFar test n read kept → IsFirstSoFar test n more kept
  widened from None held = λ rule x y has. elim (from x y has) [ inl old ↦ held rule x y old | inr each ↦ each rule ]
  widened from (Some fault) first = record {
    rule = first.rule;
    numbered = first.numbered;
    source = first.source;
    target = first.target;
    fails = first.fails;
    before = λ x y has below. elim (from x y has) [ inl old ↦ first.before x y old below | inr each ↦ each first.rule ];
    earlier = λ other less x y has. elim (from x y has) [ inl old ↦ first.earlier other less x y old | inr each ↦ each other ];
  }

  module _ (s t : ℕ) (s_in : s < n) (t_in : t < n) (from : (x y : ℕ) → more x y → read x y ⊎ ((x ≡ s) × (y ≡ t))) where
    also : (rule : Rule) → ((x y : ℕ) → read x y → test rule x y ≡ true) → test rule s t ≡ true → (x y : ℕ) → more x y → test rule x y ≡ true
    also rule held here x y has = elim (from x y has) [ inl old ↦ held x y old | inr is ↦ rw (is.0, is.1) here ]

    module _ (number : ℕ) (first : FailsFirst (λ rule. test rule s t) number) where
      abbrev fault : Fault
      fault = record { rule = number; a = s; b = t }

      -- the new fault is the first one
      new : ((x y : ℕ) → read x y → Precedes x y s t → test first.rule x y ≡ true) → ((other : Rule) → rule_number other < number → (x y : ℕ) → read x y → test other x y ≡ true)
          → FirstRead test n more fault
      new before earlier = record {
        rule = first.rule;
        numbered = first.numbered;
        source = s_in;
        target = t_in;
        fails = first.fails;
        before = λ x y has below. elim (from x y has) [ inl old ↦ before x y old below | inr is ↦ absurd (itself x y is below) ];
        earlier = λ other less. also other (earlier other less) (first.earlier other less);
      }
        where
          itself : (x y : ℕ) → (x ≡ s) × (y ≡ t) → Precedes x y s t → ⊥
          itself x y is (inl less) = omega (arith, is.0, less)
          itself x y is (inr level) = omega (arith, is.1, level.1)

      sooner : (kept : Fault) → FirstRead test n read kept → is_before fault kept ≡ true → FirstRead test n more fault
      sooner kept known before = elim (or_cases (nat_lt number kept.rule) _ before) [
        | inl is ↦
            let less : number < kept.rule = ltb-true number kept.rule is in
            new (λ x y has below. known.earlier first.rule (omega (arith, less, first.numbered)) x y has) (λ other lesser. known.earlier other (omega (arith, lesser, less)))
        | inr level ↦
            let both = and_parts (number == kept.rule) _ level in
            let equal : number ≡ kept.rule = eqb-true number kept.rule both.0 in
            let one : known.rule ≡ first.rule = one_rule known.rule first.rule (known.numbered ∙ sym equal ∙ sym first.numbered) in
            let here = comes_before s t kept.a kept.b both.1 in
            new (λ x y has below. subst (λ (rule : Rule). test rule x y ≡ true) one (known.before x y has (further x y s t kept.a kept.b below here)))
            (λ other lesser. known.earlier other (omega (arith, lesser, equal)))
      ]

      -- the one that was kept stays
      later : (kept : Fault) → FirstRead test n read kept → is_before fault kept ≡ false → FirstRead test n more kept
      later kept known behind = record {
        rule = known.rule;
        numbered = known.numbered;
        source = known.source;
        target = known.target;
        fails = known.fails;
        before = λ x y has below. elim (from x y has) [ inl old ↦ known.before x y old below | inr is ↦ rw (is.0, is.1) (here (rw (is.0, is.1) at below)) ];
        earlier = λ other less. also other (known.earlier other less) (first.earlier other (omega (arith, less, up)));
      }
        where
          up : kept.rule ≤ number
          up = elim (cases_lt number kept.rule) [
            | inl less ↦ absurd (both_ways (is_before fault kept) behind (or_left _ _ (lt-ltb number kept.rule less)))
            | inr over ↦ over
          ]

          here : Precedes s t kept.a kept.b → test known.rule s t ≡ true
          here place = elim (cases_lt kept.rule number) [
            | inl less ↦ first.earlier known.rule (omega (arith, less, known.numbered))
            | inr over ↦
                absurd (both_ways (is_before fault kept) behind (or_right (nat_lt number kept.rule) _ (and_from _ _ (eq-eqb number kept.rule (omega (arith, up, over))) (is_told s t kept.a kept.b place))))
          ]

      first_is : (before : Option Fault) → IsFirstSoFar test n read before → FirstRead test n more (first_of before fault)
      first_is None held = new (λ x y has below. held first.rule x y has) (λ other less. held other)
      first_is (Some kept) known = cond_both (is_before fault kept) fault kept (λ (f : Fault). FirstRead test n more f) (sooner kept known) (later kept known)

    -- the row of s for t is read beside
    pub judged_more : (before after : Option Fault) → IsFirstSoFar test n read before → IsAfter test s t before after → IsFirstSoFar test n more after
    judged_more before after known (inl clean) =
        subst (λ (kept : Option Fault). IsFirstSoFar test n more kept) (sym clean.1)
        (widened (λ x y has. elim (from x y has) [ inl old ↦ inl old | inr is ↦ inr (λ rule. rw (is.0, is.1) (clean.0 rule)) ]) before known)
    judged_more before after known (inr fault) = subst (λ (kept : Option Fault). IsFirstSoFar test n more kept) (sym fault.2) (first_is fault.0 fault.1 before known)
