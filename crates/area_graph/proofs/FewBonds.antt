-- An area has no more bonds than arcs, and of pairs half as many at most.
use Rattle.std.proofs.Common.{◌≡◌, ◌≢◌, ◌⊎◌, ◌∙◌, ◌<◌, ◌≤◌, ◌+◌, ◌*◌, ◌==◌, ℕ, zero, suc, Bool, true, false, List, [], ◌∷◌, Some, length, get_or, slice_get, inl, inr, refl, sym, subst, arith}
use Rattle.std.specs.Prelude.{◌&&◌, nat_le, nat_lt, if◌then◌else◌}
use Rattle.std.specs.List.{AllByRecursion, count_by, filter}
use Rattle.std.proofs.lemmas.Bool.{cases_Bool, cases_eq, cases_order, eq-eqb, le-leb, lt-leb, le-ltb, lt-ltb, ne_eqb}
use Rattle.std.proofs.lemmas.List.Sums.{count_by-le-length, sum_by-cons}
use Rattle.std.proofs.lemmas.Option.{slice_get-get_or}
use Rattle.mrt_graph.specs.declared.node_id.NodeId.{NodeId}
use Rattle.area_graph.specs.AreaInvariant.{HasArcs, IsArea, IsBond, arcs_over}
use Rattle.area_graph.specs.Parts.{AreaParts}
use Rattle.area_graph.specs.declared.area_types.Arc.{Arc}
use Rattle.area_graph.specs.declared.area_types.Bond.{Bond}
use Rattle.mrt_graph.proofs.Tallies.{one_if}

-- how many arcs are of the first n bonds
abbrev arcs_below : ℕ → List Arc → ℕ
arcs_below n arcs = count_by (λ arc. nat_lt arc.bond n) arcs

one_if_few : (b : Bool) → one_if b ≤ 1
one_if_few true = omega arith
one_if_few false = omega arith

one_more : (bond n : ℕ) (rest : Bool) → one_if (nat_lt bond n) + one_if ((bond == n) && rest) ≤ one_if (nat_lt bond (suc n))
one_more bond n rest = elim (cases_order bond n) [
  | inl same ↦
      rw (le-ltb bond n (omega (arith, same)), eq-eqb bond n same, lt-ltb bond (suc n) (omega (arith, same))) (omega (arith, one_if_few rest))
  | inr apart ↦ elim apart [
    | inl below ↦
        rw (lt-ltb bond n below, ne_eqb bond n (λ same. omega (arith, below, same)), lt-ltb bond (suc n) (omega (arith, below))) (omega arith)
    | inr above ↦
        rw (le-ltb bond n (omega (arith, above)), ne_eqb bond n (λ same. omega (arith, above, same)), le-ltb bond (suc n) (omega (arith, above))) (omega arith)
  ]
]

below_more : (n tail : ℕ) (arcs : List Arc) → arcs_below n arcs + arcs_over arcs n tail ≤ arcs_below (suc n) arcs
below_more n tail [] = omega arith
below_more n tail (arc ∷ arcs) =
    omega (
      arith,
      one_more arc.bond n (arc.tail == tail),
      below_more n tail arcs,
      sum_by-cons (λ a. one_if (nat_lt a.bond n)) arc arcs,
      sum_by-cons (λ a. one_if ((a.bond == n) && (a.tail == tail))) arc arcs,
      sum_by-cons (λ a. one_if (nat_lt a.bond (suc n))) arc arcs,
    )

-- an arc of the bond leaves some node
record IsUsed (arcs : List Arc) (number : ℕ) : Type 0 where
  tail : ℕ
  once : arcs_over arcs number tail ≡ 1

all_below : (arcs : List Arc) (n : ℕ) → ((k : ℕ) → k < n → IsUsed arcs k) → n ≤ arcs_below n arcs
all_below arcs zero used = omega arith
all_below arcs (suc n) used =
    let last : IsUsed arcs n = used n (omega arith) in
    omega (arith, all_below arcs n (λ k early. used k (omega (arith, early))), below_more n last.tail arcs, last.once)

-- what stands past the end
pub no_bond : Bond
no_bond = record { a = 0; b = 0; paired = false; data_a = 0; data_b = 0; metric_a = 0; metric_b = 0 }

pub bonds_few : (area : AreaParts) → IsArea area → length area.bonds ≤ length area.arcs
bonds_few area kept =
    let used : (k : ℕ) → k < length area.bonds → IsUsed area.arcs k =
    λ k early. record {
      tail = (get_or area.bonds k no_bond).a;
      once = (kept.arcs_of_bonds k (get_or area.bonds k no_bond) (slice_get-get_or area.bonds k no_bond early)).there;
    } in
    omega (arith, all_below area.arcs (length area.bonds) used, count_by-le-length (λ (arc : Arc). nat_lt arc.bond (length area.bonds)) area.arcs)

-- how many arcs are of bond number n and of those after it
abbrev arcs_from : ℕ → List Arc → ℕ
arcs_from n arcs = count_by (λ arc. nat_le n arc.bond) arcs

two_more : (bond tail n a b : ℕ) → a ≢ b
    → one_if ((bond == n) && (tail == a)) + one_if ((bond == n) && (tail == b)) + one_if (nat_le (suc n) bond) ≤ one_if (nat_le n bond)
two_more bond tail n a b differ = elim (cases_order bond n) [
  | inl same ↦
      rw (eq-eqb bond n same, lt-leb (suc n) bond (omega (arith, same)), le-leb n bond (omega (arith, same))) (tails (cases_eq tail a))
  | inr apart ↦ elim apart [
    | inl below ↦
        rw (ne_eqb bond n (λ same. omega (arith, below, same)), lt-leb (suc n) bond (omega (arith, below)), lt-leb n bond below) (omega arith)
    | inr above ↦
        rw (ne_eqb bond n (λ same. omega (arith, above, same)), le-leb n bond (omega (arith, above))) (omega (arith, one_if_few (nat_le (suc n) bond)))
  ]
]
  where
    tails : (tail ≡ a) ⊎ (tail ≢ a) → one_if (tail == a) + one_if (tail == b) + 0 ≤ 1
    tails (inl first) = rw (eq-eqb tail a first, ne_eqb tail b (λ second. differ (sym first ∙ second))) (omega arith)
    tails (inr other) = rw (ne_eqb tail a other) (omega (arith, one_if_few (tail == b)))

from_more : (n a b : ℕ) (arcs : List Arc) → a ≢ b → arcs_over arcs n a + arcs_over arcs n b + arcs_from (suc n) arcs ≤ arcs_from n arcs
from_more n a b [] differ = omega arith
from_more n a b (arc ∷ arcs) differ =
    omega (
      arith,
      two_more arc.bond arc.tail n a b differ,
      from_more n a b arcs differ,
      sum_by-cons (λ x. one_if ((x.bond == n) && (x.tail == a))) arc arcs,
      sum_by-cons (λ x. one_if ((x.bond == n) && (x.tail == b))) arc arcs,
      sum_by-cons (λ x. one_if (nat_le (suc n) x.bond)) arc arcs,
      sum_by-cons (λ x. one_if (nat_le n x.bond)) arc arcs,
    )

-- of bonds numbered from n on, each of which has its arcs, those that pass a test that pairs alone pass take two arcs each
passing_few : (ids : List NodeId) (arcs : List Arc) (test : Bond → Bool) → ((bond : Bond) → test bond ≡ true → bond.paired ≡ true)
    → (bonds : List Bond) (n : ℕ) → AllByRecursion (IsBond ids) bonds
    → ((k : ℕ) (bond : Bond) → slice_get bonds k ≡ Some bond → HasArcs arcs (n + k) bond)
    → 2 * length (filter test bonds) ≤ arcs_from n arcs
passing_few ids arcs test pairs [] n kept has = omega arith
passing_few ids arcs test pairs (bond ∷ bonds) n kept has =
    let rest = passing_few ids arcs test pairs bonds (suc n) kept.1
    (λ k other at. subst (λ (m : ℕ). HasArcs arcs m other) (omega arith) (has (suc k) other at)) in
    let here : HasArcs arcs n bond = subst (λ (m : ℕ). HasArcs arcs m bond) (omega arith) (has 0 bond refl) in
    let more = from_more n bond.a bond.b arcs kept.0.different in
    elim (cases_Bool (test bond)) [
      | inl passes ↦
          let back : arcs_over arcs n bond.b ≡ 1 = subst (λ (p : Bool). arcs_over arcs n bond.b ≡ (if p then 1 else 0)) (pairs bond passes) here.back in
          rw passes (omega (arith, rest, more, here.there, back))
      | inr fails ↦ rw fails (omega (arith, rest, more))
    ]

pub pairs_few : (area : AreaParts) → IsArea area → (test : Bond → Bool) → ((bond : Bond) → test bond ≡ true → bond.paired ≡ true)
    → 2 * length (filter test area.bonds) ≤ length area.arcs
pairs_few area kept test pairs =
    omega (
      arith,
      passing_few area.ids area.arcs test pairs area.bonds 0 kept.bonds_kept
          (λ k bond at. subst (λ (m : ℕ). HasArcs area.arcs m bond) (omega arith) (kept.arcs_of_bonds k bond at)),
      count_by-le-length (λ (arc : Arc). nat_le 0 arc.bond) area.arcs,
    )
