use Rattle.std.proofs.Common.{◌≡◌, ◌⊎◌, ◌<◌, ◌≤◌, ◌+◌, ◌-◌, ◌++◌, ◌∙◌, ℕ, List, drop, get_or, get_or-drop, get_or-take, length, length-take-le, slice_index, take, inl, inr, ap, arith, rules}
use Rattle.std.proofs.lemmas.List.{get_or-append_right, get_or-replicate, get_or_append_left}
use Rattle.block_spf.proofs.SideBySide.{range_length}
use Rattle.block_spf.proofs.aiming.put_all.Goals as goal

-- a list with other elements in the place of the k from `at` on
abbrev with_part : List ℕ → ℕ → ℕ → List ℕ → List ℕ
with_part xs at k ys = take at xs ++ (ys ++ drop k (drop at xs))

in_part : (xs ys : List ℕ) (at k i : ℕ) → at + k ≤ length xs → length ys ≡ k → i < k → slice_index (with_part xs at k ys) (at + i) ≡ slice_index ys i
in_part xs ys at k i room long within =
    let same : at + i - at ≡ i = omega arith in
    get_or-append_right (take at xs) (ys ++ drop k (drop at xs)) at (at + i) 0 (length-take-le at xs (omega (arith, room))) (omega arith)
    ∙ get_or_append_left ys (drop k (drop at xs)) 0 (at + i - at) (omega (arith, long, within)) ∙ ap (λ (m : ℕ). get_or ys m 0) same

outside : (xs ys : List ℕ) (at k i : ℕ) → at + k ≤ length xs → length ys ≡ k → (i < at) ⊎ (at + k ≤ i) → slice_index (with_part xs at k ys) i ≡ slice_index xs i
outside xs ys at k i room long out =
    let front : length (take at xs) ≡ at = length-take-le at xs (omega (arith, room)) in
    elim out [
      | inl low ↦ get_or_append_left (take at xs) (ys ++ drop k (drop at xs)) 0 i (omega (arith, front, low)) ∙ get_or-take at xs i 0 low
      | inr high ↦
          let same : at + (k + (i - at - k)) ≡ i = omega (arith, high) in
          get_or-append_right (take at xs) (ys ++ drop k (drop at xs)) at i 0 front (omega (arith, high))
          ∙ get_or-append_right ys (drop k (drop at xs)) k (i - at) 0 long (omega (arith, high))
          ∙ get_or-drop k (drop at xs) (i - at - k) 0 ∙ get_or-drop at xs (k + (i - at - k)) 0 ∙ ap (λ (m : ℕ). get_or xs m 0) same
    ]

pub returns-clause-there : goal.returns-clause-there
returns-clause-there c = λ j low.
    let many = range_length c.args.aims.now c.args.at c.args.width c.requires in
    in_part c.args.aims.now c.fill.new.self c.args.at (c.args.at + c.args.width - c.args.at) j (omega (arith, c.requires)) (omega (arith, c.fill.ensures.len, many)) (omega (arith, low))
    ∙ ap (λ (xs : List ℕ). get_or xs j 0) (c.fill.ensures.after (λ y same. search rules))
    ∙ get_or-replicate _ j c.args.node 0 (omega (arith, low, many))

pub returns-clause-elsewhere : goal.returns-clause-elsewhere
returns-clause-elsewhere c = λ i out.
    let many = range_length c.args.aims.now c.args.at c.args.width c.requires in
    outside c.args.aims.now c.fill.new.self c.args.at (c.args.at + c.args.width - c.args.at) i (omega (arith, c.requires)) (omega (arith, c.fill.ensures.len, many)) (elim out [
      | inl low ↦ inl low
      | inr high ↦ inr (omega (arith, high))
    ])
