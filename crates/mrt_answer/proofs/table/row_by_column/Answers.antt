use Rattle.std.proofs.Common.{ℕ, sym, subst}
use Rattle.mrt_rows.specs.CertOf.{IsCertOf}
use Rattle.mrt_answer.proofs.table.row_by_column.Goals as goal

pub table_row-requires-clause-sound : goal.table_row-requires-clause-sound
table_row-requires-clause-sound c = (c.column-column.ensures.sound c.args.to c.aim.ensures.aimed).sound

pub returns-clause-made : goal.returns-clause-made
returns-clause-made c = c.aim.ensures.aimed.made

pub returns-clause-row : goal.returns-clause-row
returns-clause-row c = λ file is.
    let from = subst (λ (root : ℕ). IsCertOf c.args.parts.now.island.now root file) (sym c.aim.ensures.root) is in
    record {
      column = c.column-column.result;
      rows = (c.column-column.ensures.rows c.args.to file c.aim.ensures.aimed from).same;
      primary = c.primary_for-primary.result;
      primary_is = c.primary_for-primary.ensures.among;
      row_is = c.table_row.ensures;
    }

pub table_row-requires-clause-primary : goal.table_row-requires-clause-primary
table_row-requires-clause-primary c =
    c.primary_for-primary.ensures.is c.args.parts.now.source c.requires.kept.primaries

pub column-column-requires : goal.column-column-requires
column-column-requires c = (c.args.to, c.aim.ensures.aimed)

pub primary_for-primary-requires-clause-primaries : goal.primary_for-primary-requires-clause-primaries
primary_for-primary-requires-clause-primaries c =
    (c.args.parts.now.source, c.requires.kept.within, c.requires.different, c.requires.kept.primaries)

pub primary_for-primary-requires-clause-fits : goal.primary_for-primary-requires-clause-fits
primary_for-primary-requires-clause-fits c = (c.args.parts.now.link_of.now, c.requires.kept.fits)

pub table_row-requires-clause-fits : goal.table_row-requires-clause-fits
table_row-requires-clause-fits c = c.requires.kept.fits

pub table_row-requires-clause-source : goal.table_row-requires-clause-source
table_row-requires-clause-source c = c.requires.kept.within

pub table_row-requires-clause-router : goal.table_row-requires-clause-router
table_row-requires-clause-router c = c.requires.kept.router
