use Rattle.std.proofs.Common.{◌<◌, ◌≢◌, ℕ, length}
use Rattle.mrt_graph.specs.Certificate.{row_of}
use Rattle.mrt_graph.specs.Sound.{SoundFor}
use Rattle.mrt_plain.proofs.soundness.sound.Given as goal

abbrev pub invariant-loop-s : goal.invariant-loop-s
invariant-loop-s l = (k t : ℕ) → k < l.s → t < length l.c.nodes → k ≢ t → SoundFor l.links (length l.c.nodes) (row_of l.c) k t
