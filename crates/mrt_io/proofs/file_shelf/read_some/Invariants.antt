use Rattle.std.specs.Io.KnownBytes.{Keeps}
use Rattle.mrt_io.proofs.file_shelf.read_some.Given as goal

-- What the reader tells is as before.
abbrev pub invariant-loop : goal.invariant-loop
invariant-loop g l = Keeps (g.F.Read.remaining l.fn.file) (g.F.Read.remaining l.file)
