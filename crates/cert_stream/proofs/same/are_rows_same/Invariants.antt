use Rattle.std.proofs.Common.{◌≡◌}
use Rattle.mrt_graph.specs.declared.cert.CertFile.{CertFile}
use Rattle.mrt_rows.specs.CertOf.{IsCertOf}
use Rattle.mrt_rows.specs.RowMaker.{MakeRows}
use Rattle.cert_stream.specs.steps.Stream.{HaveSameRows}
use Rattle.cert_stream.proofs.same.are_rows_same.Given as goal

-- the nodes before s have the same near rows in both
abbrev pub invariant-loop-s : goal.invariant-loop-s
invariant-loop-s l = record {
  made : MakeRows l.g l.rows;
  others_made : MakeRows l.other l.others;
  root : l.rows.root ≡ l.fn.rows.root;
  others_root : l.others.root ≡ l.fn.others.root;
  same : (file second : CertFile) → IsCertOf l.g l.fn.rows.root file → IsCertOf l.other l.fn.others.root second
      → HaveSameRows l.s file.cert second.cert;
}
