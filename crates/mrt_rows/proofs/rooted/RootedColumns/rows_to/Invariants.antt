use Rattle.std.proofs.Common.{◌≡◌, ◌≤◌, ◌<◌, ℕ, length, vec_capacity}
use Rattle.mrt_graph.specs.declared.cert.CertFile.{CertFile}
use Rattle.mrt_graph.specs.Search.{IsMarked}
use Rattle.mrt_rows.specs.CertOf.{IsCertOf}
use Rattle.mrt_rows.specs.Rooted.{MakeColumns}
use Rattle.mrt_rows.proofs.RowsHeld.{IsHeld}
use Rattle.mrt_rows.proofs.rooted.RootedColumns.rows_to.Given as goal

abbrev pub invariant-loop-n : goal.invariant-loop-n
invariant-loop-n l = record {
  root : l.self.root ≡ l.initial.self.root;
  made : MakeColumns l.g l.self;
  count : l.count ≡ length l.g.ids;
  many : length l.places.items ≡ l.n;
  few : length l.columns.items ≤ l.n;
  room : l.count ≤ vec_capacity l.places;
  held : (file : CertFile) → IsCertOf l.g l.initial.self.root file → (t : ℕ) → t < l.n → IsMarked l.wanted t
      → IsHeld file l.places.items l.columns.items t;
}
