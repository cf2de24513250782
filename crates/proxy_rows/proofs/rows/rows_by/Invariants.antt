use Rattle.std.proofs.Common.{◌≡◌, ◌≤◌, ℕ, List, Some, length, slice_get, vec_len, vec_capacity}
use Rattle.mrt_graph.specs.declared.cert.Row.{Row}
use Rattle.proxy_rows.specs.declared.proxy_row.ProxyRow.{ProxyRow}
use Rattle.proxy_rows.specs.ProxyRows.{IsProxyRow}
use Rattle.proxy_rows.specs.steps.LabelledGraph.{AreReadWith, with_rows}
use Rattle.proxy_rows.proofs.rows.rows_by.Given as goal

abbrev pub invariant-loop-s : goal.invariant-loop-s
invariant-loop-s g l = record {
  many : vec_len l.proxies ≡ l.s;
  told : length l.proxies.items ≡ l.s;
  room : l.count ≤ vec_capacity l.proxies;
  each : (rest : List Row) → AreReadWith l.words l.at (g.R.RowsOf.rows l.rows) rest → (s : ℕ) (row : ProxyRow)
      → slice_get l.proxies.items s ≡ Some row → IsProxyRow l.words.graph.now (with_rows l.words rest) l.at s row;
}
