use Rattle.std.proofs.Common.{get_or, rules}
use Rattle.std.specs.Prelude.{nat_lt}
use Rattle.std.proofs.lemmas.Bool.{ltb-false, ltb-true}
use Rattle.std.proofs.lemmas.List.Sorted.{IsPartitionPoint-from_clause, IsPartitionedBy-ltb}
use Rattle.area_graph.specs.declared.area_types.Arc.{Arc}
use Rattle.primary_alt.proofs.arcs_into.start_into.Goals as goal

pub returns : goal.returns
returns c =
    let point = IsPartitionPoint-from_clause (λ (arc : Arc). nat_lt arc.to c.args.v) c.args.arcs.now c.partition_point.result c.partition_point.ensures.partitioned
    (IsPartitionedBy-ltb (λ (arc : Arc). arc.to) c.args.arcs.now c.args.v c.requires.ascend) (λ a r f called. search rules) in
    record {
      within = c.partition_point.ensures.bound;
      lower = λ k d low high. ltb-true (get_or c.args.arcs.now k d).to c.args.v (point.0 k d low high);
      others = λ k d low high. ltb-false (get_or c.args.arcs.now k d).to c.args.v (point.1 k d low high);
    }
