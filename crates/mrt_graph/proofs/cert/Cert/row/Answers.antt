use Rattle.std.proofs.Common.{◌≡◌, ◌<◌, ◌∙◌, [], List, length, sym, ap, subst}
use Rattle.mrt_graph.specs.declared.cert.CertNode.{CertNode}
use Rattle.mrt_graph.specs.declared.cert.Row.{Row}
use Rattle.mrt_graph.specs.Certificate.{Certificate, certificate_of}
use Rattle.mrt_graph.specs.steps.FoldedRows.{unfolded_row}
use Rattle.mrt_graph.proofs.HeldRows.{folded_row, kept, nodes_held, row_kept}
use Rattle.mrt_graph.proofs.cert.Cert.row.Goals as goal

pub returns-in-Some-clause-value : goal.returns-in-Some-clause-value
returns-in-Some-clause-value c =
    let i = c.self.inside in
    let same : (c.args.self.now).nodes ≡ i.nodes.items =
    sym (ap (λ (cert : Certificate). cert.nodes) c.self.view_is) ∙ nodes_held i.nodes.items i.links.items i.rows.items i.relatives in
    folded_row i.nodes.items i.links.items i.rows.items i.relatives c.in-Some.relatives c.args.self.now c.args.s c.args.t c.unfolded_row.result
    c.self.view_is c.in-Some.is c.self.invariant
    (subst (λ (ns : List CertNode). c.args.s < length ns) same c.requires.source) (subst (λ (ns : List CertNode). c.args.t < length ns) same c.requires.target) c.requires.different
    (c.unfolded_row.ensures
    ∙ ap (λ (ns : List CertNode). unfolded_row (certificate_of ns [] []) c.deref-in-Some.result.now c.args.s c.args.t) c.deref.ensures.value
    ∙ ap (λ (rs : List Row). unfolded_row (certificate_of i.nodes.items [] []) rs c.args.s c.args.t) c.deref-in-Some.ensures.value)

pub returns-in-Some-clause-within : goal.returns-in-Some-clause-within
returns-in-Some-clause-within c =
    let i = c.self.inside in
    row_kept c.args.self.now c.args.s c.args.t c.unfolded_row.result (kept i.nodes.items i.links.items i.rows.items i.relatives c.args.self.now c.self.invariant c.self.view_is)
    c.requires.source c.requires.target c.requires.different (returns-in-Some-clause-value c)
