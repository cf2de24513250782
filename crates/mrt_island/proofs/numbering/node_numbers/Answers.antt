use Rattle.std.proofs.Common.{◌≡◌, ◌+◌, ◌<◌, ◌++◌, ◌∙◌, ℕ, List, Bool, [], ◌∷◌, false, length, get_or, sym, ap, arith}
use Rattle.std.proofs.lemmas.List.{get_or_append_left, get_or_push}
use Rattle.std.proofs.lemmas.List.Sums.{count_by_more_no, count_by_more_yes}
use borrow.Author.Count.{below_more}
use Rattle.mrt_island.specs.Numbering.{number_inside}
use Rattle.mrt_island.proofs.numbering.node_numbers.Goals as goal
use Rattle.mrt_island.proofs.numbering.node_numbers.Goals.{then-flag, else-flag}

-- a number more
one_more : (inside : List Bool) (k number : ℕ) (before after : List ℕ) → length before ≡ k → after ≡ before ++ number ∷ [] → number ≡ number_inside inside k
    → ((s : ℕ) → s < k → get_or before s 0 ≡ number_inside inside s) → (s : ℕ) → s < k + 1 → get_or after s 0 ≡ number_inside inside s
one_more inside k number before after long grown is so_far =
    below_more (λ (s : ℕ). get_or after s 0 ≡ number_inside inside s) k
    (λ s early. ap (λ (xs : List ℕ). get_or xs s 0) grown ∙ get_or_append_left before (number ∷ []) 0 s (omega (arith, long, early)) ∙ so_far s early)
    (ap (λ (xs : List ℕ). get_or xs k 0) grown ∙ get_or_push before number 0 k long ∙ is)

pub loop-flag-preserved : goal.loop-flag-preserved
loop-flag-preserved c =
    let inside = c.args.inside.now in
    let k = c.loop-flag.flag-index in
    let kept = c.loop-flag.invariant in
    let long : length c.loop-flag.numbers.items ≡ k = sym c.loop-flag.numbers.ok.0 ∙ kept.count in
    let so_far = one_more inside k c.new.result c.loop-flag.numbers.items c.push_reserved.new.self.items long c.push_reserved.ensures.items (c.new.ensures ∙ kept.next) kept.so_far in
    elim c.if-flag.branch [
      | then-flag w ↦ record {
        room = omega (arith, c.push_reserved.ensures.capacity);
        count = omega (arith, c.push_reserved.ensures.len);
        few = omega (arith, w.number-is);
        next = omega (arith, w.number-is, kept.next, count_by_more_yes (λ (flag : Bool). flag) inside k false c.loop-flag-test.true w.if-flag.true);
        so_far = so_far;
      }
      | else-flag w ↦ record {
        room = omega (arith, c.push_reserved.ensures.capacity);
        count = omega (arith, c.push_reserved.ensures.len);
        few = omega (arith, w.number-is);
        next = omega (arith, w.number-is, kept.next, count_by_more_no (λ (flag : Bool). flag) inside k false c.loop-flag-test.true w.if-flag.false);
        so_far = so_far;
      }
    ]
