use Rattle.std.proofs.Common.{◌∙◌, sym}
use Rattle.mrt_rows.specs.steps.NearOf.{Apart}
use Rattle.mrt_rows.specs.steps.ListedDirections.{directions_by}
use Rattle.mrt_rows.proofs.RowOver.{apart_by, relates_by}
use Rattle.mrt_rows.proofs.of_source.RowMaker.row.Goals as goal

pub returns-then-is_apart : goal.returns-then-is_apart
returns-then-is_apart c =
    let w = directions_by c.args.rooted.now in
    let source = c.args.source.now in
    let relation = c.relation_of-relation.result in
    Apart (apart_by w source.node c.args.t relation
    (relates_by w source.node c.args.t source.place c.place.result c.requires.source.place c.place.ensures relation c.relation_of-relation.ensures)
    (sym c.is_apart.ensures ∙ c.if-is_apart.true))

pub row-requires-clause-relation : goal.row-requires-clause-relation
row-requires-clause-relation c = (c.place.result, c.place.ensures, c.relation_of-relation.ensures)
