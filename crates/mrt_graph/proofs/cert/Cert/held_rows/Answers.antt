use Rattle.std.proofs.Common.{◌∙◌, filter, ap}
use Rattle.mrt_graph.specs.Certificate.{Certificate}
use Rattle.mrt_graph.specs.Tags.{is_near}
use Rattle.mrt_graph.proofs.HeldRows.{near_held}
use Rattle.mrt_graph.proofs.cert.Cert.held_rows.Goals as goal

pub returns : goal.returns
returns c = record {
  near = ap (filter is_near) c.deref.ensures.value
      ∙ near_held c.self.inside.nodes.items c.self.inside.links.items c.self.inside.rows.items c.self.inside.relatives c.self.invariant
      ∙ ap (λ (cert : Certificate). filter is_near cert.rows) c.self.view_is;
}
