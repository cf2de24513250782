use Rattle.mrt_rows.proofs.Rooting.{og_of}
use Rattle.mrt_rows.proofs.TheColumns.{is_column, the_column}
use Rattle.mrt_rows.proofs.column_view.ColumnView.new.Goals as goal

pub invariant_of-result : goal.invariant_of-result
invariant_of-result c = (the_column (og_of c.requires.rooted) c.args.to.node c.requires.within, tt)

pub returns : goal.returns
returns c = is_column (og_of c.requires.rooted) c.args.to.node c.requires.within c.result-1.given.0
