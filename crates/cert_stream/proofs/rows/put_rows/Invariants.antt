use Rattle.std.proofs.Common.{◌≡◌, Ok}
use Rattle.mrt_graph.specs.declared.cert.CertFile.{CertFile}
use Rattle.mrt_rows.specs.CertOf.{IsCertOf}
use Rattle.mrt_rows.specs.RowMaker.{MakeRows}
use Rattle.cert_format.specs.Putting.{Puts}
use Rattle.cert_stream.proofs.Nears.{text_before}
use Rattle.cert_stream.proofs.rows.put_rows.Given as goal

-- the writer was given the rows of the nodes before s
abbrev pub invariant-loop-s : goal.invariant-loop-s
invariant-loop-s g l = record {
  made : MakeRows l.g l.rows;
  root : l.rows.root ≡ l.fn.rows.root;
  given : (file : CertFile) → IsCertOf l.g l.fn.rows.root file
      → Puts (g.K.Sink.written l.fn.sink) (g.K.Sink.written l.sink) (g.K.Sink.faults l.fn.sink) (g.K.Sink.faults l.sink)
      (g.K.Sink.healthy_for l.fn.sink) (g.K.Sink.healthy_for l.sink) (text_before file.cert l.s) l.fn.writer l.writer (Ok tt);
}
