use Rattle.std.proofs.Common.{◌∙◌, ℕ, List, Option, length, slice_get, sym, ap, arith}
use Rattle.std.proofs.lemmas.Bool.{eqb-false, eqb-true}
use Rattle.mrt_graph.specs.declared.cert.Row.{Row}
use Rattle.mrt_rows.proofs.Rooting.{og_of}
use Rattle.mrt_rows.proofs.TheColumns.{none_there, one_each, row_there}
use Rattle.mrt_rows.proofs.column_view.ColumnView.row.Goals as goal

pub row-requires-clause-aimed : goal.row-requires-clause-aimed
row-requires-clause-aimed c = c.self.invariant

pub row-requires-clause-source : goal.row-requires-clause-source
row-requires-clause-source c =
    let it = c.self.invariant in
    let v = c.self.inside in
    omega (
      arith,
      c.requires,
      ap (λ (column : List (Option Row)). length column) c.self.view_is,
      one_each (og_of it.rooted) v.to.node it.within v.column,
    )

pub row-requires-clause-two : goal.row-requires-clause-two
row-requires-clause-two c = eqb-false c.args.s c.self.inside.to.node (sym c.eq.ensures ∙ c.if-eq.false)

pub returns-then-eq : goal.returns-then-eq
returns-then-eq c =
    let it = c.self.invariant in
    let v = c.self.inside in
    ap (λ (column : List (Option Row)). slice_get column c.args.s) (sym c.self.view_is)
    ∙ ap (λ (s : ℕ). slice_get v.column.0 s) (eqb-true c.args.s v.to.node (sym c.eq.ensures ∙ c.if-eq.true))
    ∙ none_there (og_of it.rooted) v.to.node it.within v.column

pub returns : goal.returns
returns c =
    let it = c.self.invariant in
    let v = c.self.inside in
    ap (λ (column : List (Option Row)). slice_get column c.args.s) (sym c.self.view_is)
    ∙ row_there (og_of it.rooted) v.to.node it.within v.column c.args.s c.row.result
    (omega (
      arith,
      c.requires,
      ap (λ (column : List (Option Row)). length column) c.self.view_is,
      one_each (og_of it.rooted) v.to.node it.within v.column,
    ))
    (eqb-false c.args.s v.to.node (sym c.eq.ensures ∙ c.if-eq.false)) c.row.ensures
