use Rattle.std.proofs.Common.{rules, ◌≡◌, ◌≤◌, ℕ, zero, suc, List, Some, length, slice_get, sym, subst, arith}
use Rattle.std.specs.Prelude.{replicate}
use Rattle.std.proofs.lemmas.Option.{same_Some}
use Rattle.mrt_rows.specs.TilesAimed.{AreTiles}
use Rattle.mrt_rows.proofs.column.Columns.new.Goals as goal

same_each : (n k j t : ℕ) → slice_get (replicate n k) j ≡ Some t → t ≡ k
same_each zero k j t at = cc
same_each (suc n) k zero t at = sym (same_Some k t at)
same_each (suc n) k (suc j) t at = same_each n k j t at

pub returns : goal.returns
returns c =
    let g = c.args.rooted.now.graph.now in
    let count = c.node_count-count.result in
    let past : length g.ids ≤ count = omega (arith, c.node_count-count.ensures.count) in
    let many : length c.in_ok-targets.targets.items ≡ c.args.width = search rules in
    record {
      common = c.in_ok-common.ensures;
      one_below_each = search rules;
      some_places = omega (arith, many, c.requires.some);
      each = subst (λ (k : ℕ). AreTiles g k c.in_ok-each.each) (sym many) c.in_ok-each.ensures;
      shared = c.in_ok-shared.ensures;
      aimed = λ j t at inside. (
          let blank : c.in_ok-targets.targets.items ≡ replicate c.args.width c.new-2.result = c.in_ok-targets.ensures.items_if_clones_equal (search rules) in
          absurd (omega (arith, past, inside, c.new-2.ensures, same_each c.args.width c.new-2.result j t (subst (λ (ts : List ℕ). slice_get ts j ≡ Some t) blank at))));
    }
