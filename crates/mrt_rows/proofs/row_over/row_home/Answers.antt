use Rattle.std.proofs.Common.{ap, arith, refl}
use Rattle.mrt_rows.proofs.OrderedGraphs.{OrderedGraph}
use Rattle.mrt_rows.proofs.RowOver.{over_head}
use Rattle.mrt_rows.proofs.row_over.row_home.Goals as goal

pub returns : goal.returns
returns c = λ g root w kept ordered by other.
    let og : OrderedGraph = record { g = g; root = root; w = w; kept = kept; ordered = ordered } in
    let s = c.args.source.now.node in
    over_head og s (w.head s) by.within (ordered.heads.head_within s by.within)
    (λ same. omega (arith, ordered.heads.lower s by.within other, ap w.order same)) c.args.source.now.home by.home c.args.source.now.sole
    c.end_row.result refl by.sole c.end_row.ensures.sole c.end_row.ensures.other
