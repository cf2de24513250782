-- Offers, one after another.
use Rattle.std.proofs.Common.{◌<◌, ◌≤◌, ◌+◌, ◌∙◌, ℕ, List, slice_index, inl, inr, refl, sym, ap, subst, arith}
use Rattle.std.proofs.lemmas.Bool.{cases_lt}
use Rattle.block_spf.specs.steps.Known.{AreOffered, IsNoLater, IsOne, Known, known}

pub no_later_same : (a : Known) → IsNoLater a a
no_later_same a = inr (refl, omega arith)

pub no_later_by : (a b c : Known) → IsNoLater a b → IsNoLater b c → IsNoLater a c
no_later_by a b c (inl less) (inl next) = inl (omega (arith, less, next))
no_later_by a b c (inl less) (inr tie) = inl (omega (arith, less, tie.0))
no_later_by a b c (inr tie) (inl next) = inl (omega (arith, tie.0, next))
no_later_by a b c (inr tie) (inr next) = inr (tie.0 ∙ next.0, omega (arith, tie.1, next.1))

pub no_later_cost : (a b : Known) → IsNoLater a b → a.cost ≤ b.cost
no_later_cost a b (inl less) = omega (arith, less)
no_later_cost a b (inr tie) = omega (arith, tie.0)

-- the offers of the first ends, lanes or sources
pub record OfFirst (count : ℕ) (Of : ℕ → ℕ → Known → Type 0) (i : ℕ) (offer : Known) : Type 0 where
  pub index : ℕ
  pub early : index < count
  pub is : Of index i offer

pub none_yet : (Of : ℕ → ℕ → Known → Type 0) (a : ℕ → Known) → AreOffered (OfFirst 0 Of) a a
none_yet Of a = record {
  from = λ i. inl refl;
  kept = λ i. no_later_same (a i);
  taken = λ i offer of. absurd (omega (arith, of.early));
}

-- one more
pub offered_more : (Of : ℕ → ℕ → Known → Type 0) (Then : ℕ → Known → Type 0) (n : ℕ) (a b c : ℕ → Known) → ((i : ℕ) (offer : Known) → Then i offer → Of n i offer)
    → ((i : ℕ) (offer : Known) → Of n i offer → Then i offer) → AreOffered (OfFirst n Of) a b → AreOffered Then b c → AreOffered (OfFirst (n + 1) Of) a c
offered_more Of Then n a b c to back first next = record {
  from = λ i. elim (next.from i) [
    | inl same ↦ elim (first.from i) [
      | inl old ↦ inl (same ∙ old)
      | inr new ↦ inr (
        omega (arith, new.0, ap (λ (k : Known). k.cost) same),
        record { index = new.1.index; early = omega (arith, new.1.early); is = subst (λ (k : Known). Of new.1.index i k) (sym same) new.1.is },
      )
    ]
    | inr new ↦ inr (new.0, record { index = n; early = omega arith; is = to i (c i) new.1 })
  ];
  kept = λ i. no_later_by (c i) (b i) (a i) (next.kept i) (first.kept i);
  taken = λ i offer of. elim (cases_lt of.index n) [
    | inl early ↦ no_later_by (c i) (b i) offer (next.kept i) (first.taken i offer (record { index = of.index; early = early; is = of.is }))
    | inr late ↦
        next.taken i offer (back i offer (subst (λ (p : ℕ). Of p i offer) (omega (arith, late, of.early)) of.is))
  ];
}

pub offered_none : (Of : ℕ → ℕ → Known → Type 0) (n : ℕ) (a b : ℕ → Known) → ((i : ℕ) (offer : Known) → Of n i offer → ⊥) → AreOffered (OfFirst n Of) a b
    → AreOffered (OfFirst (n + 1) Of) a b
offered_none Of n a b none first =
    offered_more Of (λ i offer. ⊥) n a b b (λ i offer no. absurd no) none first
    (record { from = λ i. inl refl; kept = λ i. no_later_same (b i); taken = λ i offer no. absurd no })

-- all of them
pub offered_all : (Of : ℕ → ℕ → Known → Type 0) (Offer : ℕ → Known → Type 0) (n : ℕ) (a b : ℕ → Known) → ((i : ℕ) (offer : Known) → OfFirst n Of i offer → Offer i offer)
    → ((i : ℕ) (offer : Known) → Offer i offer → OfFirst n Of i offer) → AreOffered (OfFirst n Of) a b → AreOffered Offer a b
offered_all Of Offer n a b to back first = record {
  from = λ i. elim (first.from i) [ inl old ↦ inl old | inr new ↦ inr (new.0, to i (b i) new.1) ];
  kept = first.kept;
  taken = λ i offer of. first.taken i offer (back i offer of);
}

-- the offers of the lanes at a node, one after another
abbrev pub LaneOffer : List ℕ → List ℕ → ℕ → ℕ → ℕ → ℕ → Known → Type 0
LaneOffer costs places metric at lane i offer = IsOne (at + lane) (known (slice_index costs lane + metric) (slice_index places lane)) i offer
