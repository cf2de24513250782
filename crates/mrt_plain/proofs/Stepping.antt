-- A visit of a node comes on what its links lead to, one after another.
use Rattle.std.proofs.Common.{◌≡◌, ◌<◌, ◌+◌, ℕ, Option, Some, inl, inr, subst, arith}
use Rattle.std.proofs.lemmas.Bool.{cases_lt}
use Rattle.mrt_graph.specs.Search.{Enters, SearchState}
use Rattle.mrt_graph.proofs.Searching.{enters_none, enters_both, enters_same}

-- what the first n of some ways lead to
abbrev pub LeadsBelow : (ℕ → Option ℕ) → ℕ → ℕ → Type 0
LeadsBelow ways n v = (k : ℕ) × (k < n) × (ways k ≡ Some v)

-- nothing yet
pub first_way : (ways : ℕ → Option ℕ) (search : SearchState) → Enters (LeadsBelow ways 0) search search
first_way ways search =
    enters_same (λ (v : ℕ). ⊥) (LeadsBelow ways 0) search search (λ v h. absurd h) (λ v h. absurd (omega (arith, h.1))) (enters_none search)

-- one way more
pub next_way : (ways : ℕ → Option ℕ) (n : ℕ) (s0 s1 s2 : SearchState) → Enters (LeadsBelow ways n) s0 s1 → Enters (λ (v : ℕ). ways n ≡ Some v) s1 s2
    → Enters (LeadsBelow ways (n + 1)) s0 s2
next_way ways n s0 s1 s2 before here =
    enters_both (LeadsBelow ways n) (λ (v : ℕ). ways n ≡ Some v) (LeadsBelow ways (n + 1))
    (λ v h. (h.0, omega (arith, h.1), h.2))
    (λ v h. (n, omega arith, h))
    (λ v h. elim (cases_lt h.0 n) [
      | inl below ↦ inl (h.0, below, h.2)
      | inr above ↦
          let last : h.0 ≡ n = omega (arith, h.1)
          in inr (subst (λ (k : ℕ). ways k ≡ Some v) last h.2)
    ])
    s0 s1 s2 before here

-- a way past the last leads nowhere
pub all_ways : (ways : ℕ → Option ℕ) (n : ℕ) (s0 s1 : SearchState) → ((k v : ℕ) → ways k ≡ Some v → k < n)
    → Enters (LeadsBelow ways n) s0 s1 → Enters (λ (v : ℕ). (k : ℕ) × (ways k ≡ Some v)) s0 s1
all_ways ways n s0 s1 last e =
    enters_same (LeadsBelow ways n) (λ (v : ℕ). (k : ℕ) × (ways k ≡ Some v)) s0 s1
    (λ v h. (h.0, h.2)) (λ v h. (h.0, last h.0 v h.1, h.1)) e
