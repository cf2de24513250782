use Rattle.std.proofs.Common.{◌≡◌, ◌∙◌, ℕ, List, Some, slice_get, subst, arith}
use Rattle.order_repair.proofs.Listed.{blocks_within}
use Rattle.order_repair.proofs.block_lists.chains_of.Goals as goal

pub new-requires-clause-names : goal.new-requires-clause-names
new-requires-clause-names c k name at =
    let has = c.requires.directed in
    let is = subst (λ (xs : List ℕ). slice_get xs k ≡ Some name) (c.deref.ensures.value ∙ c.in_ok-blocks.ensures) at in
    omega (
      arith,
      c.node_count.ensures.count,
      blocks_within c.args.g.now c.args.d.now has.directions has.are.says c.requires.kept has.root has.are.ordered c.args.kind k name is,
    )
