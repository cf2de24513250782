use Rattle.std.proofs.Common.{List, rules, subst, sym}
use Rattle.std.specs.List.Sorted.{IsNonDecreasingBy}
use Rattle.std.proofs.lemmas.List.Sorted.{IsNonDecreasingBy-from_sort_by_key}
use Rattle.area_graph.specs.declared.area_types.Arc.{Arc}
use Rattle.primary_alt.proofs.arcs_into.ArcsInto.new.Goals as goal

pub starts_into-requires : goal.starts_into-requires
starts_into-requires c = record {
  ascend = subst (λ (xs : List Arc). IsNonDecreasingBy (λ (arc : Arc). arc.to) xs) (sym c.deref.ensures.value)
      (IsNonDecreasingBy-from_sort_by_key (λ (arc : Arc). arc.to) c.sort_unstable_by_key.new.self.items c.sort_unstable_by_key.ensures.sorted (λ a r f called. search rules));
}
