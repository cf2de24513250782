use Rattle.std.proofs.Common.{subst}
use Rattle.std.proofs.lemmas.Result.{IfOk-weaker}
use Rattle.mrt_graph.specs.Certificate.{Certificate}
use Rattle.proxy_rows.specs.declared.labelled_graph.LabelledGraph.{LabelledGraph}
use Rattle.proxy_rows.specs.ProxyRows.{AreProxyRows, AreRowsOf}
use Rattle.proxy_rows.specs.steps.LabelledGraph.{with_rows}
use Rattle.proxy_rows.proofs.AnyRows.{read_with, whole}
use Rattle.proxy_rows.proofs.rows.proxy_rows_at.Goals as goal

pub rows_by-requires : goal.rows_by-requires
rows_by-requires g c =
    let words : LabelledGraph = record { graph = c.args.g; nodes = c.args.nodes; links = c.args.links } in
    record {
      read = (c.requires.read.cert.rows, read_with words c.args.at.now (g.R.RowsOf.rows c.args.rows.now) c.node_count.ensures.kept c.requires.read);
      count = c.node_count.ensures.count;
    }

pub returns-clause-rows : goal.returns-clause-rows
returns-clause-rows g c read =
    let words : LabelledGraph = record { graph = c.args.g; nodes = c.args.nodes; links = c.args.links } in
    let graph = c.args.g.now in
    let at = c.args.at.now in
    let rest = read.cert.rows in
    IfOk-weaker c.rows_by.result (λ rows. AreRowsOf graph (with_rows words rest) at rows.items) (λ rows. AreProxyRows graph read.cert read.a read.b rows.items)
    (λ rows are. record {
      at = at;
      attached = read.attached;
      rows = subst (λ (cert : Certificate). AreRowsOf graph cert at rows.items) (whole words read.cert read.nodes_are read.links_are) are;
    })
    (c.rows_by.ensures rest (read_with words at (g.R.RowsOf.rows c.args.rows.now) c.node_count.ensures.kept read))
