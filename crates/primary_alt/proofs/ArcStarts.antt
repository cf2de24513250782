-- Where the arcs of each node begin.
use Rattle.std.proofs.Common.{◌≡◌, ◌+◌, ◌∙◌, ◌==◌, ℕ, List, [], ◌∷◌, length, inl, inr, refl, arith}
use Rattle.std.specs.Prelude.{nat_lt}
use Rattle.std.specs.List.{filter}
use Rattle.std.proofs.lemmas.Bool.{cases_eq, cases_lt, eq-eqb, le-ltb, lt-ltb, ne_eqb}
use Rattle.area_graph.specs.declared.area_types.Arc.{Arc}
use Rattle.area_graph.specs.steps.Starts.{below}
use Rattle.mrt_graph.proofs.Tallies.{count_is_tally, length_is_tally, tally}

share : (s : ℕ) (arcs : List Arc) → tally (λ arc. nat_lt arc.tail (s + 1)) arcs ≡ tally (λ arc. nat_lt arc.tail s) arcs + tally (λ arc. arc.tail == s) arcs
share s [] = refl
share s (arc ∷ arcs) = elim (cases_lt arc.tail s) [
  | inl less ↦
      let a = lt-ltb arc.tail (s + 1) (omega (arith, less)) in
      let b = lt-ltb arc.tail s less in
      let e = ne_eqb arc.tail s (λ same. omega (arith, same, less)) in
      rw (a, b, e) (omega (arith, share s arcs))
  | inr upto ↦ elim (cases_eq arc.tail s) [
    | inl same ↦
        let a = lt-ltb arc.tail (s + 1) (omega (arith, same)) in
        let b = le-ltb arc.tail s upto in
        let e = eq-eqb arc.tail s same in
        rw (a, b, e) (omega (arith, share s arcs))
    | inr other ↦
        let a = le-ltb arc.tail (s + 1) (omega (arith, other, upto)) in
        let b = le-ltb arc.tail s upto in
        let e = ne_eqb arc.tail s other in
        rw (a, b, e) (omega (arith, share s arcs))
  ]
]

-- the arcs of node s stand between those of lower nodes and the others
pub starts_on : (s : ℕ) (arcs : List Arc) → below (s + 1) arcs ≡ below s arcs + length (filter (λ arc. arc.tail == s) arcs)
starts_on s arcs =
    omega (
      arith,
      count_is_tally (λ (arc : Arc). nat_lt arc.tail (s + 1)) arcs,
      count_is_tally (λ (arc : Arc). nat_lt arc.tail s) arcs,
      length_is_tally (λ (arc : Arc). arc.tail == s) arcs,
      share s arcs,
    )

none_below_zero : (arcs : List Arc) → tally (λ arc. nat_lt arc.tail 0) arcs ≡ 0
none_below_zero [] = refl
none_below_zero (arc ∷ arcs) = let e = le-ltb arc.tail 0 (omega arith) in rw e (omega (arith, none_below_zero arcs))

pub starts_at_zero : (arcs : List Arc) → below 0 arcs ≡ 0
starts_at_zero arcs = count_is_tally (λ (arc : Arc). nat_lt arc.tail 0) arcs ∙ none_below_zero arcs
