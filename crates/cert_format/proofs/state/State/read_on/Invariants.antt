use Rattle.std.proofs.Common.{◌≡◌, length}
use Rattle.cert_format.specs.steps.Steps.{Grew, IsReading, parts_of, progress_of}
use Rattle.cert_format.specs.Stream.{fed}
use Rattle.cert_format.proofs.state.State.read_on.Given as goal

abbrev pub invariant-loop-piece : goal.invariant-loop-piece
invariant-loop-piece l = record {
  reading : IsReading l.self;
  fed : fed (progress_of l.self) l.piece ≡ fed (progress_of l.fn.self) l.fn.piece;
  grew : Grew (parts_of l.fn.self.kept) (parts_of l.self.kept);
}

abbrev pub decreases-loop-piece : goal.decreases-loop-piece
decreases-loop-piece l = length l.piece
