use Rattle.std.proofs.Common.{rules, ◌≡◌, ◌∙◌, ℕ, List, length, replicate, ap, sym, subst, arith}
use Rattle.std.proofs.lemmas.List.{length-replicate}
use Rattle.order_repair.specs.steps.Blocks.{AreChains}
use Rattle.order_repair.proofs.Chained.{no_chain}
use Rattle.order_repair.proofs.chains.Chains.new.Goals as goal

pub loop-at-init : goal.loop-at-init
loop-at-init c =
    let names = c.args.names.now in
    let none = length names in
    let firsts : c.in_ok-firsts.firsts.items ≡ replicate c.args.count none = c.in_ok-firsts.ensures.items_if_clones_equal (search rules) in
    let nexts : c.in_ok-nexts.nexts.items ≡ replicate none none = c.in_ok-nexts.ensures.items_if_clones_equal (search rules) in
    record {
      low = omega arith;
      one_first_each = ap length firsts ∙ length-replicate c.args.count none;
      chained = subst (λ (xs : List ℕ). AreChains names none xs c.in_ok-nexts.nexts.items) (sym firsts)
          (subst (λ (xs : List ℕ). AreChains names none (replicate c.args.count none) xs) (sym nexts) (no_chain names c.args.count));
    }

pub returns-clause-chained : goal.returns-clause-chained
returns-clause-chained c =
    let all : c.loop-at.at ≡ 0 = omega (arith, c.loop-at-test.false) in
    subst (λ (n : ℕ). AreChains c.args.names.now n c.loop-at.firsts.items c.loop-at.nexts.items) all c.loop-at.invariant.chained
