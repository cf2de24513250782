use Rattle.std.proofs.Common.{subst}
use Rattle.std.proofs.lemmas.Option.{slice_get_within}
use Rattle.mrt_graph.specs.Topology.{Topology}
use Rattle.mrt_answer.specs.Texts.{IsComputedFile}
use Rattle.mrt_calls.proofs.Footings.{apart, are_parts, the_row}
use Rattle.mrt_calls.proofs.row_for.row_to.Goals as goal

pub row_by_column-row-requires-clause-kept : goal.row_by_column-row-requires-clause-kept
row_by_column-row-requires-clause-kept c =
    are_parts c.requires.footing.0 c.args.router c.args.footing.now c.requires.footing.1 c.parts-parts.result c.parts-parts.ensures

pub row_by_column-row-requires-clause-target : goal.row_by_column-row-requires-clause-target
row_by_column-row-requires-clause-target c =
    let target = c.requires.target in
    rw (c.parts-parts.ensures.island_is) (slice_get_within c.args.footing.now.net.island.graph.ids c.args.to target.0 target.1)

pub row_by_column-row-requires-clause-different : goal.row_by_column-row-requires-clause-different
row_by_column-row-requires-clause-different c =
    let target = c.requires.target in
    rw (c.parts-parts.ensures.source_is)
    (apart c.requires.footing.0 c.args.router c.args.footing.now c.requires.footing.1 c.parts-parts.result c.parts-parts.ensures c.args.to target.0 target.1 target.2)

pub row_by_column-row-requires-clause-made : goal.row_by_column-row-requires-clause-made
row_by_column-row-requires-clause-made c = c.in_ok-columns.ensures.made

pub returns : goal.returns
returns c =
    let own = c.in_ok-columns.ensures.computed in
    let given = c.requires.footing in
    let root = c.args.footing.now.net.island.root in
    the_row given.0 c.args.router c.args.footing.now given.1 c.parts-parts.result c.parts-parts.ensures own.file
    (subst (λ (g : Topology). IsComputedFile g root own.file) c.parts-parts.ensures.island_is own.certificate) c.args.to c.row_by_column-row.result
    c.row_in.result (c.row_by_column-row.ensures.row own.file own.of_columns) c.row_in.ensures
