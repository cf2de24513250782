-- Where a rank falls along the hops, they arrive, and meet no node twice.
use Rattle.std.proofs.Common.{◌≡◌, ◌≢◌, ◌⊎◌, ◌∙◌, ◌<◌, ◌≤◌, ℕ, zero, suc, true, false, List, [], ◌∷◌, Option, Some, eqb, length, inl, inr, sym, subst, arith}
use Rattle.std.proofs.lemmas.Bool.{cases_eq, or_cases, eqb-true, ne_eqb}
use Rattle.std.proofs.lemmas.Map.Steps.{length-le_from_distinct_below}
use Rattle.std.specs.List.{AllByRecursion, IsDistinct, list_any}
use Rattle.mrt_graph.specs.Hop.{Hop}
use Rattle.mrt_graph.proofs.Members.{Has}
use Rattle.mrt_graph.proofs.Trails.{Differ, Follows, nodes_behind, nodes_on}

-- the next hop from s leads to t, or into N to a smaller rank
pub record Descends (next : ℕ → Option Hop) (rank : ℕ → ℕ) (N : ℕ → Type 0) (t s : ℕ) : Type 0 where
  pub hop : Hop
  pub takes : next s ≡ Some hop
  pub goes : (hop.to ≡ t) ⊎ (N hop.to × (rank hop.to < rank s))

-- the hops from s arrive at t, and each node after them is t, or is in N and has a smaller rank than s
pub record Arrives (next : ℕ → Option Hop) (rank : ℕ → ℕ) (N : ℕ → Type 0) (t s : ℕ) : Type 0 where
  pub hops : List Hop
  pub follows : Follows next t s hops
  pub behind : (y : ℕ) → Has (nodes_behind hops) y → (y ≡ t) ⊎ (N y × (rank y < rank s))
  pub differ : Differ (nodes_on s hops)

stays : (next : ℕ → Option Hop) (rank : ℕ → ℕ) (N : ℕ → Type 0) (t s : ℕ) → s ≡ t → Arrives next rank N t s
stays next rank N t s same = record { hops = []; follows = same; behind = λ y h. absurd h; differ = (λ h. h, tt) }

straight : (next : ℕ → Option Hop) (rank : ℕ → ℕ) (N : ℕ → Type 0) (t s : ℕ) (hop : Hop) → s ≢ t → next s ≡ Some hop → hop.to ≡ t → Arrives next rank N t s
straight next rank N t s hop other takes there = record {
  hops = hop ∷ [];
  follows = (other, (takes, there));
  behind = λ y h. elim h [ inl same ↦ inl (sym same ∙ there) | inr none ↦ absurd none ];
  differ = (λ h. elim h [ inl same ↦ other (sym same ∙ there) | inr none ↦ none ], (λ h. h, tt));
}

onward : (next : ℕ → Option Hop) (rank : ℕ → ℕ) (N : ℕ → Type 0) (t s : ℕ) (hop : Hop) → s ≢ t → next s ≡ Some hop → N hop.to → rank hop.to < rank s
    → Arrives next rank N t hop.to → Arrives next rank N t s
onward next rank N t s hop other takes within falls rest = record {
  hops = hop ∷ rest.hops;
  follows = (other, (takes, rest.follows));
  behind = λ y h. elim h [
    | inl same ↦ inr (subst N same within, subst (λ (k : ℕ). rank k < rank s) same falls)
    | inr later ↦ elim (rest.behind y later) [
      | inl there ↦ inl there
      | inr lower ↦ inr (lower.0, omega (arith, lower.1, falls))
    ]
  ];
  differ = (
    λ h. elim h [
      | inl same ↦ omega (arith, subst (λ (k : ℕ). rank k < rank s) same falls)
      | inr later ↦ elim (rest.behind s later) [
        | inl there ↦ other there
        | inr lower ↦ omega (arith, lower.1, falls)
      ]
    ],
    rest.differ,
  );
}

-- if from each node of N other than t the next hop leads to t, or into N to a smaller rank, then the hops from each node
-- of N arrive at t; the bound is for the induction
arrives : (next : ℕ → Option Hop) (rank : ℕ → ℕ) (N : ℕ → Type 0) (t : ℕ) → ((s : ℕ) → N s → s ≢ t → Descends next rank N t s)
    → (bound s : ℕ) → N s → rank s < bound → Arrives next rank N t s
arrives next rank N t descends zero s within below = absurd (omega (arith, below))
arrives next rank N t descends (suc bound) s within below = elim (cases_eq s t) [
  | inl same ↦ stays next rank N t s same
  | inr other ↦
      let d = descends s within other in
      elim d.goes [
        | inl there ↦ straight next rank N t s d.hop other d.takes there
        | inr lower ↦ onward next rank N t s d.hop other d.takes lower.0 lower.1 (arrives next rank N t descends bound d.hop.to lower.0 (omega (arith, lower.1, below)))
      ]
]

-- the same with no bound
pub arrives_from : (next : ℕ → Option Hop) (rank : ℕ → ℕ) (N : ℕ → Type 0) (t : ℕ) → ((s : ℕ) → N s → s ≢ t → Descends next rank N t s)
    → (s : ℕ) → N s → Arrives next rank N t s
arrives_from next rank N t descends s within = arrives next rank N t descends (suc (rank s)) s within (omega arith)

not_listed : (x : ℕ) (xs : List ℕ) → (Has xs x → ⊥) → AllByRecursion (λ y. eqb x y ≡ false) xs
not_listed x [] none = tt
not_listed x (y ∷ ys) none = (ne_eqb x y (λ same. none (inl (sym same))), not_listed x ys (λ h. none (inr h)))

distinct : (xs : List ℕ) → Differ xs → IsDistinct eqb xs
unfolding IsDistinct
distinct [] differ = tt
distinct (x ∷ xs) differ = (not_listed x xs differ.0, distinct xs differ.1)

listed : (q : ℕ) (xs : List ℕ) → list_any (eqb q) xs ≡ true → Has xs q
listed q [] h = cc
listed q (x ∷ xs) h = elim (or_cases (eqb q x) (list_any (eqb q) xs) h) [
  | inl same ↦ inl (sym (eqb-true q x same))
  | inr later ↦ inr (listed q xs later)
]

-- pairwise different numbers below n are at most n
pub at_most : (n : ℕ) (xs : List ℕ) → Differ xs → ((x : ℕ) → Has xs x → x < n) → length xs ≤ n
at_most n xs differ below = length-le_from_distinct_below xs n (distinct xs differ) (λ q h. below q (listed q xs h))
