use Rattle.std.proofs.Common.{length}
use Rattle.mrt_rows.proofs.SharedAims.{AreSharedTo}
use Rattle.mrt_rows.proofs.tiles.take_shared.Given as goal

abbrev pub invariant-loop-k : goal.invariant-loop-k
invariant-loop-k l = AreSharedTo (length l.initial.wanted) l.width l.aims l.initial.wanted l.wanted l.firsts l.shared l.k
