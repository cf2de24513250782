use Rattle.std.proofs.Common.{◌∙◌, List, Option, length, ap}
use Rattle.mrt_graph.specs.declared.cert.Row.{Row}
use Rattle.graph_tests.proofs.tables.put_next_column.Goals as goal

pub put_column-requires : goal.put_column-requires
put_column-requires c =
    ap (λ (xs : List (Option Row)). length xs) c.in-Ok.ensures ∙ (c.column.ensures.sound c.args.to c.aim.ensures.aimed).a_place_each
