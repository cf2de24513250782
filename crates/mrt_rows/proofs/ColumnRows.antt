-- The rows of a column.
use Rattle.std.proofs.Common.{◌≡◌, ◌≢◌, ◌<◌, ℕ, List, Option, Some, None, length, refl, subst}
use Rattle.mrt_graph.specs.declared.cert.Row.{Row}
use Rattle.mrt_graph.specs.Tags.{carried}
use Rattle.mrt_rows.specs.steps.NearOf.{Apart, IsNearRow}
use Rattle.mrt_rows.specs.Chain.{AreBelow}
use Rattle.mrt_rows.specs.steps.Chain.{IsRowAim}
use Rattle.mrt_rows.specs.steps.ColumnOf.{IsRowIn}
use Rattle.mrt_rows.proofs.ChainAims.{aim_near, carried_to}
use Rattle.mrt_rows.proofs.OneRow.{IsRowFor, Near}
use Rattle.mrt_rows.proofs.OrderedGraphs.{OrderedGraph}
use Rattle.mrt_rows.proofs.RowsExist.{row_in}

module _ (og : OrderedGraph) (t : ℕ) (t_within : t < length og.g.ids) (below : List (Option ℕ)) (are : AreBelow og.g og.root og.w t below)
    (s aim : ℕ) (s_within : s < length og.g.ids) (two : s ≢ t) (apart : s ≢ aim) (it : IsRowAim og.w below s aim) where
  -- the row for the aim is that for t, where t is the aim
  pub row_at_aim : (row : Row) → aim ≡ t → IsNearRow og.g og.root og.w s aim (Some row) → IsRowIn og.g og.root og.w s t (Some row)
  row_at_aim row same near = row_in og s t (Some row) s_within t_within two
      (record { row = row; is = refl; the = subst (λ (x : ℕ). IsRowFor og s x row) same (Near near) })

  -- else it is carried
  pub row_from_aim : (row : Row) → aim ≢ t → IsNearRow og.g og.root og.w s aim (Some row) → IsRowIn og.g og.root og.w s t (Some (carried row))
  row_from_aim row differ near = row_in og s t (Some (carried row)) s_within t_within two (record {
    row = carried row;
    is = refl;
    the = carried_to og t t_within below are s aim row s_within two differ it (Near near);
  })

  pub some_near : IsNearRow og.g og.root og.w s aim None → ⊥
  some_near (Apart none) = let common = aim_near og t t_within below are s aim it in none common.0 common.1 common.2
