use Rattle.std.proofs.Common.{◌≡◌, ◌≢◌, ◌<◌, ◌≤◌, ℕ, Option, None, length, take}
use Rattle.mrt_graph.specs.declared.cert.Row.{Row}
use Rattle.mrt_rows.specs.steps.NearOf.{near_first}
use Rattle.mrt_rows.specs.RowsOf.{HasRow}
use Rattle.mrt_rows.specs.steps.ListedDirections.{directions_by}
use Rattle.mrt_rows.proofs.of_source.RowMaker.put_near_rows.Given as goal

abbrev pub invariant-loop-n : goal.invariant-loop-n
invariant-loop-n l = record {
  room : length l.room ≡ length l.initial.room;
  few : l.found ≤ l.n;
  rows : (rows : ℕ → Option Row)
      → ((t : ℕ) → t < length l.rooted.graph.now.ids → l.fn.s ≢ t → HasRow l.rooted.graph.now l.rooted.root (directions_by l.rooted) l.fn.s rows t)
      → rows l.fn.s ≡ None → take l.found l.room ≡ near_first rows l.n;
}
