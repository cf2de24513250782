use Rattle.std.specs.Io.KnownBytes.{Keeps}
use Rattle.mrt_io.proofs.std_sink.write_some.Given as goal

-- What the writer tells is as before.
abbrev pub invariant-loop : goal.invariant-loop
invariant-loop g l = Keeps (g.W.Write.contents l.fn.writer) (g.W.Write.contents l.writer)
