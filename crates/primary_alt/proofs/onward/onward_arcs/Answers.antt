use Rattle.std.proofs.lemmas.List.Sorted.{IsNonDecreasingBy-from_sort_by_key}
use Rattle.std.proofs.Common.{rules}
use Rattle.primary_alt.specs.declared.onward.Onward.{Onward}
use Rattle.primary_alt.proofs.OnwardFound.{onward_moved}
use Rattle.primary_alt.proofs.onward.onward_arcs.Goals as goal

pub returns-clause-are : goal.returns-clause-are
returns-clause-are c =
    onward_moved c.args.arcs.now c.args.distances.now _ c.in_ok-onward.onward.items c.sort_unstable_by_key.new.self.items c.sort_unstable_by_key.ensures.permutation c.in_ok-onward.ensures

pub returns-clause-ascend : goal.returns-clause-ascend
returns-clause-ascend c =
    IsNonDecreasingBy-from_sort_by_key (λ (next : Onward). next.sum) c.sort_unstable_by_key.new.self.items c.sort_unstable_by_key.ensures.sorted (λ a r f called. search rules)
