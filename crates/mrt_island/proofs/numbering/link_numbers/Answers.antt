use Rattle.std.proofs.Common.{◌≡◌, ◌+◌, ◌<◌, ◌∙◌, ◌++◌, ◌∷◌, [], Bool, true, false, List, Option, None, Some, ℕ, length, get_or, drop, sym, ap, subst, arith, append_assoc}
use Rattle.std.proofs.lemmas.List.{append-nil, at_drop_more, drop_all}
use Rattle.mrt_island.specs.steps.Numbering.{AreFlagNumbers}
use Rattle.mrt_island.proofs.LinkNumbers.{flag_numbers, numbers_from}
use Rattle.mrt_island.proofs.numbering.link_numbers.Goals as goal
use Rattle.mrt_island.proofs.numbering.link_numbers.Goals.{then-flag, else-flag}

-- what is put for a flag begins the numbers of those from it on
number_here : (flags : List Bool) (k number told next : ℕ) → k < length flags → get_or flags k false ≡ true → told ≡ number → next ≡ number + 1
    → numbers_from number (drop k flags) ≡ Some told ∷ numbers_from next (drop (k + 1) flags)
number_here flags k number told next within set is more =
    let rest = drop (k + 1) flags in
    at_drop_more (numbers_from number) flags k false within ∙ ap (λ (b : Bool). numbers_from number (b ∷ rest)) set
    ∙ ap (λ (n : ℕ). Some n ∷ numbers_from (number + 1) rest) (sym is) ∙ ap (λ (n : ℕ). Some told ∷ numbers_from n rest) (sym more)

none_here : (flags : List Bool) (k number next : ℕ) → k < length flags → get_or flags k false ≡ false → next ≡ number
    → numbers_from number (drop k flags) ≡ None ∷ numbers_from next (drop (k + 1) flags)
none_here flags k number next within clear same =
    let rest = drop (k + 1) flags in
    at_drop_more (numbers_from number) flags k false within ∙ ap (λ (b : Bool). numbers_from number (b ∷ rest)) clear ∙ ap (λ (n : ℕ). None ∷ numbers_from n rest) (sym same)

put_here : (all : List (Option ℕ)) (x : Option ℕ) (before after from rest : List (Option ℕ)) → after ≡ before ++ x ∷ [] → from ≡ x ∷ rest → before ++ from ≡ all → after ++ rest ≡ all
put_here all x before after from rest grown here so_far =
    ap (λ (xs : List (Option ℕ)). xs ++ rest) grown ∙ append_assoc before (x ∷ []) rest ∙ ap (λ (xs : List (Option ℕ)). before ++ xs) (sym here) ∙ so_far

pub loop-flag-preserved : goal.loop-flag-preserved
loop-flag-preserved c =
    let flags = c.args.flags.now in
    let k = c.loop-flag.flag-index in
    let kept = c.loop-flag.invariant in
    elim c.if-flag.branch [
      | then-flag w ↦ record {
        room = rw w.numbers-is (omega (arith, w.push_reserved.ensures.capacity));
        count = rw w.numbers-is (omega (arith, w.push_reserved.ensures.len));
        few = omega (arith, w.number-is);
        so_far = put_here _ (Some w.new.result) c.loop-flag.numbers.items c.if-flag.numbers.items _ _ (ap (λ v. v.items) w.numbers-is ∙ w.push_reserved.ensures.items)
            (number_here flags k c.loop-flag.number w.new.result c.if-flag.number c.loop-flag-test.true w.if-flag.true w.new.ensures w.number-is) kept.so_far;
      }
      | else-flag w ↦ record {
        room = rw w.numbers-is (omega (arith, w.push_reserved-else-flag.ensures.capacity));
        count = rw w.numbers-is (omega (arith, w.push_reserved-else-flag.ensures.len));
        few = omega (arith, w.number-is);
        so_far = put_here _ None c.loop-flag.numbers.items c.if-flag.numbers.items _ _ (ap (λ v. v.items) w.numbers-is ∙ w.push_reserved-else-flag.ensures.items)
            (none_here flags k c.loop-flag.number c.if-flag.number c.loop-flag-test.true w.if-flag.false w.number-is) kept.so_far;
      }
    ]

pub returns : goal.returns
returns c =
    let over : drop c.loop-flag.flag-index c.args.flags.now ≡ [] = drop_all c.loop-flag.flag-index c.args.flags.now (omega arith) in
    let all : c.loop-flag.numbers.items ≡ numbers_from 0 c.args.flags.now =
    sym (append-nil c.loop-flag.numbers.items)
    ∙ ap (λ (rest : List Bool). c.loop-flag.numbers.items ++ numbers_from c.loop-flag.number rest) (sym over) ∙ c.loop-flag.invariant.so_far in
    subst (λ (numbers : List (Option ℕ)). AreFlagNumbers c.args.flags.now numbers) (sym all) (flag_numbers c.args.flags.now)
