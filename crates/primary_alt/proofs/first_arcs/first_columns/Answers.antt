use Rattle.std.proofs.Common.{◌∙◌, ℕ, List, length, sym, subst, arith}
use Rattle.std.specs.Prelude.{IsPermutation}
use Rattle.area_graph.specs.declared.area_types.Arc.{Arc}
use Rattle.area_graph.specs.steps.Starts.{AreStarts}
use Rattle.primary_alt.proofs.first_arcs.first_columns.Goals as goal

pub columns_by-requires-clause-starts : goal.columns_by-requires-clause-starts
columns_by-requires-clause-starts c =
    subst (λ (xs : List ℕ). AreStarts (length c.args.area.now.ids) c.args.area.now.arcs xs) (sym c.deref.ensures.value) c.in_ok-starts.ensures

pub columns_by-requires-clause-same : goal.columns_by-requires-clause-same
columns_by-requires-clause-same c =
    subst (λ (xs : List Arc). IsPermutation xs c.in_ok-into.into.arcs.items) (c.in_ok-from_slice.ensures.items ∙ c.requires.arcs) c.in_ok-into.ensures.same

pub columns_by-requires-clause-rows : goal.columns_by-requires-clause-rows
columns_by-requires-clause-rows c = omega (arith, c.in_ok-into.ensures.rows, c.count-count.ensures.count)

pub columns_by-requires-clause-one_each : goal.columns_by-requires-clause-one_each
columns_by-requires-clause-one_each c = omega (arith, c.in_ok-known.ensures.len, c.in_ok-known.known.ok.0, c.count-count.ensures.count)
