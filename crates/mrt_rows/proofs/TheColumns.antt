-- There is one column of each node.
use Rattle.std.proofs.Common.{◌≡◌, ◌≢◌, ◌<◌, ◌∙◌, ℕ, List, Option, Some, None, length, slice_get, sym, ap, subst}
use Rattle.mrt_graph.specs.declared.cert.Row.{Row}
use Rattle.mrt_graph.specs.Column.{IsColumnFor}
use Rattle.mrt_rows.specs.ColumnOf.{IsColumnOf}
use Rattle.mrt_rows.specs.steps.ColumnOf.{IsRowIn}
use Rattle.mrt_rows.specs.steps.TheColumn.{TheColumn}
use Rattle.mrt_rows.proofs.OneColumn.{one_column, some_column}
use Rattle.mrt_rows.proofs.OrderedGraphs.{OrderedGraph}
use Rattle.mrt_rows.proofs.SoundColumns.{column_for, stands}
use Rattle.mrt_rows.proofs.WholeCert.{each_has, each_row}

module _ (og : OrderedGraph) (t : ℕ) (t_within : t < length og.g.ids) where
  pub the_column : TheColumn og.g og.root og.w t
  the_column = let it = some_column og t t_within in (it.0, (∣ it.1 ∣₁, λ other is. one_column og t t_within other it.0 is it.1))

  module _ (it : TheColumn og.g og.root og.w t) where
    pub is_column : IsColumnOf og.g og.root og.w t it.0
    is_column =
        let made = some_column og t t_within in
        subst (λ (column : List (Option Row)). IsColumnOf og.g og.root og.w t column) (it.1.1 made.0 made.1) made.1

    pub one_each : length it.0 ≡ length og.g.ids
    one_each = is_column.one_each

    -- none stands at the destination
    pub none_there : slice_get it.0 t ≡ Some None
    none_there = is_column.at_destination

    pub is_for : IsColumnFor it.0 t
    is_for = column_for og t t_within it.0 is_column

    -- and elsewhere the one by the table
    pub row_there : (s : ℕ) (o : Option Row) → s < length og.g.ids → s ≢ t → IsRowIn og.g og.root og.w s t o → slice_get it.0 s ≡ Some o
    row_there s o s_within two row =
        stands og t t_within it.0 is_column s s_within two
        ∙ ap (λ (x : Option Row). Some x) (row.each (each_row og s) (λ u within apart. each_has og s u s_within within apart) ∙ sym row.is)
