use Rattle.std.proofs.Common.{◌≡◌, ◌<◌, ◌∙◌, ℕ, Some, length, sym, ap, subst, arith}
use Rattle.mrt_graph.specs.Certificate.{IsCertificate, row_of}
use Rattle.mrt_graph.specs.NodeRows.{RowsOfNode}
use Rattle.mrt_graph.proofs.HeldRows.{certificate_held, row_kept}
use Rattle.mrt_graph.proofs.node_rows.NodeRows.row.Goals as goal

pub row_among-requires-clause-held : goal.row_among-requires-clause-held
row_among-requires-clause-held c = rw c.in-None.is at c.self.invariant.held

pub row_among-requires-clause-target : goal.row_among-requires-clause-target
row_among-requires-clause-target c = omega (arith, c.requires.target, ap (λ (r : RowsOfNode). length r.cert.nodes) c.self.view_is)

pub row_among-requires-clause-different : goal.row_among-requires-clause-different
row_among-requires-clause-different c = λ e. c.requires.different (sym (ap (λ (r : RowsOfNode). r.node) c.self.view_is) ∙ e)

pub returns-in-None-clause-value : goal.returns-in-None-clause-value
returns-in-None-clause-value c =
    subst (λ (r : RowsOfNode). row_of r.cert r.node c.args.t ≡ Some c.row_among.result) c.self.view_is c.row_among.ensures

pub returns-in-None-clause-within : goal.returns-in-None-clause-within
returns-in-None-clause-within c =
    row_kept c.args.self.now.cert c.args.self.now.node c.args.t c.row_among.result
    (subst (λ (r : RowsOfNode). IsCertificate r.cert) c.self.view_is (certificate_held c.self.inside.cert.now c.self.inside.rows.now _ c.self.invariant.held))
    (subst (λ (r : RowsOfNode). r.node < length r.cert.nodes) c.self.view_is c.self.invariant.within) c.requires.target c.requires.different
    (returns-in-None-clause-value c)

pub row_by-requires-clause-held : goal.row_by-requires-clause-held
row_by-requires-clause-held c = rw c.in-Some.is at c.self.invariant.held

pub row_by-requires-clause-places : goal.row_by-requires-clause-places
row_by-requires-clause-places c = let of = rw c.in-Some.is at c.self.invariant.places in of.are

pub row_by-requires-clause-target : goal.row_by-requires-clause-target
row_by-requires-clause-target c = omega (arith, c.requires.target, ap (λ (r : RowsOfNode). length r.cert.nodes) c.self.view_is)

pub row_by-requires-clause-different : goal.row_by-requires-clause-different
row_by-requires-clause-different c = λ e.
    let of = rw c.in-Some.is at c.self.invariant.places in
    c.requires.different (sym (ap (λ (r : RowsOfNode). r.node) c.self.view_is) ∙ sym of.node ∙ e)

pub returns-in-Some-clause-value : goal.returns-in-Some-clause-value
returns-in-Some-clause-value c =
    let of = rw c.in-Some.is at c.self.invariant.places in
    subst (λ (r : RowsOfNode). row_of r.cert r.node c.args.t ≡ Some c.row_by.result) c.self.view_is
    (subst (λ (k : ℕ). row_of c.self.inside.cert.now k c.args.t ≡ Some c.row_by.result) of.node c.row_by.ensures)

pub returns-in-Some-clause-within : goal.returns-in-Some-clause-within
returns-in-Some-clause-within c =
    row_kept c.args.self.now.cert c.args.self.now.node c.args.t c.row_by.result
    (subst (λ (r : RowsOfNode). IsCertificate r.cert) c.self.view_is (certificate_held c.self.inside.cert.now c.self.inside.rows.now _ c.self.invariant.held))
    (subst (λ (r : RowsOfNode). r.node < length r.cert.nodes) c.self.view_is c.self.invariant.within) c.requires.target c.requires.different
    (returns-in-Some-clause-value c)
