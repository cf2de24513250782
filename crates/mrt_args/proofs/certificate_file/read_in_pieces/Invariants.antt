use Rattle.std.proofs.Common.{◌≡◌, ◌≤◌}
use Rattle.std.specs.Prelude.{IsSome}
use Rattle.mrt_args.specs.steps.Pieces.{IsFedSoFar}
use Rattle.mrt_args.proofs.certificate_file.read_in_pieces.Given as goal

-- The bytes so far were fed to the reader, without a fault where the shelf is healthy.
abbrev pub invariant-loop-room : goal.invariant-loop-room
invariant-loop-room g l = record {
  opened : g.F.Shelf.is_open l.shelf;
  so_far : IsFedSoFar l.file.limit (g.F.Shelf.left l.fn.shelf) (g.F.Shelf.left l.shelf) l.reader l.room;
  count : g.F.Shelf.faults l.fn.shelf ≤ g.F.Shelf.faults l.shelf;
  unchanged : g.F.Shelf.held l.shelf ≡ g.F.Shelf.held l.fn.shelf;
  no_fault : g.F.Shelf.healthy l.fn.shelf → IsSome (g.F.Shelf.left l.fn.shelf)
      → g.F.Shelf.faults l.shelf ≡ g.F.Shelf.faults l.fn.shelf;
  stays_healthy : g.F.Shelf.healthy l.fn.shelf → IsSome (g.F.Shelf.left l.fn.shelf) → g.F.Shelf.healthy l.shelf;
}

abbrev pub decreases-loop-room : goal.decreases-loop-room
decreases-loop-room g l = l.room
