use Rattle.std.proofs.Common.{subst}
use Rattle.mrt_graph.specs.Topology.{Topology}
use Rattle.mrt_answer.specs.Texts.{IsComputedFile}
use Rattle.mrt_calls.proofs.Footings.{are_parts, table_filled}
use Rattle.mrt_calls.proofs.table.put_footing.Goals as goal

pub fill-requires-clause-kept : goal.fill-requires-clause-kept
fill-requires-clause-kept c = are_parts c.requires.0 c.args.router c.args.footing.now c.requires.1 c.parts-parts.result c.parts-parts.ensures

pub fill-requires-clause-made : goal.fill-requires-clause-made
fill-requires-clause-made c = c.in_ok-columns.ensures.made

pub returns-clause-held : goal.returns-clause-held
returns-clause-held c = λ given is.
    let own = c.in_ok-columns.ensures.computed in
    let root = c.args.footing.now.net.island.root in
    table_filled given c.args.router c.args.footing.now is c.parts-parts.result c.parts-parts.ensures own.file
    (subst (λ (g : Topology). IsComputedFile g root own.file) c.parts-parts.ensures.island_is own.certificate) _ c.fill.result
    (c.fill.ensures.filled own.file own.of_columns)
