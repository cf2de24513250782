-- Parts of nothing, on the way to a later one.
use Rattle.std.proofs.Common.{◌≡◌, ◌≤◌, ◌<◌, ◌+◌, ◌-◌, ℕ, zero, suc, List, [], subst, arith}
use Rattle.text_parts.specs.steps.Adds.{Adds}
use Rattle.text_parts.specs.Parts.{AreParts}
use Rattle.text_parts.proofs.Adding.{nothing, one_part_more}

passed_on : (IsPart : ℕ → List ℕ → Type 0) (from count : ℕ) (before text : List ℕ) → ((k : ℕ) → from ≤ k → k < from + count → IsPart k [])
    → Adds (AreParts IsPart from) before text → Adds (AreParts IsPart (from + count)) before text
passed_on IsPart from zero before text none parts =
    let same : from ≡ from + zero = omega arith in
    subst (λ (n : ℕ). Adds (AreParts IsPart n) before text) same parts
passed_on IsPart from (suc count) before text none parts =
    let same : from + count + 1 ≡ from + suc count = omega arith in
    let earlier = passed_on IsPart from count before text (λ k low high. none k low (omega (arith, high))) parts in
    subst (λ (n : ℕ). Adds (AreParts IsPart n) before text) same
    (one_part_more IsPart (from + count) before text text earlier (nothing (IsPart (from + count)) text (none (from + count) (omega arith) (omega arith))))

-- where no number from one to another has a part
pub passed : (IsPart : ℕ → List ℕ → Type 0) (from until : ℕ) (before text : List ℕ) → from ≤ until → ((k : ℕ) → from ≤ k → k < until → IsPart k [])
    → Adds (AreParts IsPart from) before text → Adds (AreParts IsPart until) before text
passed IsPart from until before text onward none parts =
    let same : from + (until - from) ≡ until = omega (arith, onward) in
    subst (λ (n : ℕ). Adds (AreParts IsPart n) before text) same
    (passed_on IsPart from (until - from) before text (λ k low high. none k low (omega (arith, high, onward))) parts)
