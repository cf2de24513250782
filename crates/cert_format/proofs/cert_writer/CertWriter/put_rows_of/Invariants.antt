use Rattle.std.proofs.Common.{◌≡◌, ◌++◌, ℕ, List, Ok, drop}
use Rattle.std.specs.List.{flat_map}
use Rattle.cert_format.specs.steps.Putting.{row_text_in}
use Rattle.cert_format.specs.Putting.{Puts}
use Rattle.cert_format.proofs.cert_writer.CertWriter.put_rows_of.Given as goal

-- the bytes so far, and those of the rows that are left
abbrev pub invariant-loop-place : goal.invariant-loop-place
invariant-loop-place g l =
    (done : List ℕ) × (done ++ flat_map (row_text_in l.fn.self.version) (drop l.place l.cert.rows) ≡ flat_map (row_text_in l.fn.self.version) l.cert.rows)
    × Puts (g.K.Sink.written l.fn.sink) (g.K.Sink.written l.sink) (g.K.Sink.faults l.fn.sink) (g.K.Sink.faults l.sink) (g.K.Sink.healthy_for l.fn.sink) (g.K.Sink.healthy_for l.sink) done l.fn.self l.self (Ok tt)
