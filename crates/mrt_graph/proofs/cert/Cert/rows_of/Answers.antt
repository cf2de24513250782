use Rattle.std.proofs.Common.{None, List, Option, Some, sym, subst}
use Rattle.mrt_graph.specs.declared.cert.Row.{Row}
use Rattle.mrt_graph.specs.Kin.{Kin}
use Rattle.mrt_graph.specs.steps.NodeRows.{AreHeldRows}
use Rattle.mrt_graph.proofs.HeldRows.{held_of}
use Rattle.mrt_graph.proofs.cert.Cert.rows_of.Goals as goal

pub new-requires-clause-held : goal.new-requires-clause-held
new-requires-clause-held c =
    let i = c.self.inside in
    subst (λ (rows : List Row). AreHeldRows c.args.self.now rows None) (sym c.deref.ensures.value)
    (subst (λ (o : Option Kin). AreHeldRows c.args.self.now i.rows.items o) c.in-None.is
    (held_of i.nodes.items i.links.items i.rows.items i.relatives c.args.self.now c.self.view_is c.self.invariant))

pub new-requires-in-Some-clause-held : goal.new-requires-in-Some-clause-held
new-requires-in-Some-clause-held c =
    let i = c.self.inside in
    subst (λ (rows : List Row). AreHeldRows c.args.self.now rows (Some c.in-Some.relatives)) (sym c.deref-in-Some.ensures.value)
    (subst (λ (o : Option Kin). AreHeldRows c.args.self.now i.rows.items o) c.in-Some.is
    (held_of i.nodes.items i.links.items i.rows.items i.relatives c.args.self.now c.self.view_is c.self.invariant))
