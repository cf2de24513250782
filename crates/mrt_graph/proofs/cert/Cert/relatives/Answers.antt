use Rattle.mrt_graph.proofs.HeldRows.{foldable_held}
use Rattle.mrt_graph.proofs.cert.Cert.relatives.Goals as goal

pub returns-in-Some-clause-foldable : goal.returns-in-Some-clause-foldable
returns-in-Some-clause-foldable c =
    let i = c.self.inside in
    foldable_held i.nodes.items i.links.items i.rows.items i.relatives c.in-Some.relatives c.args.self.now c.self.invariant c.in-Some.is c.self.view_is
