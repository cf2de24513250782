use Rattle.std.proofs.Common.{◌≡◌, ◌++◌, ℕ, List, Ok, length}
use Rattle.std.specs.List.{flat_map}
use Rattle.cert_format.specs.Putting.{Puts}
use Rattle.cert_format.proofs.cert_writer.CertWriter.put_list.Given as goal

-- the bytes so far, and those of the parts that are left
abbrev pub invariant-loop-parts : goal.invariant-loop-parts
invariant-loop-parts g l =
    (done : List ℕ) × (done ++ flat_map (g.P.Part.text_in l.fn.self.version) l.parts ≡ flat_map (g.P.Part.text_in l.fn.self.version) l.fn.parts)
    × Puts (g.K.Sink.written l.fn.sink) (g.K.Sink.written l.sink) (g.K.Sink.faults l.fn.sink) (g.K.Sink.faults l.sink) (g.K.Sink.healthy_for l.fn.sink) (g.K.Sink.healthy_for l.sink) done l.fn.self l.self (Ok tt)

abbrev pub decreases-loop-parts : goal.decreases-loop-parts
decreases-loop-parts g l = length l.parts
