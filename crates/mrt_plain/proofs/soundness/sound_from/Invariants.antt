use Rattle.std.proofs.Common.{◌<◌, ◌≢◌, ℕ, length}
use Rattle.mrt_graph.specs.Certificate.{row_of}
use Rattle.mrt_graph.specs.Sound.{SoundFor}
use Rattle.mrt_plain.proofs.soundness.sound_from.Given as goal

abbrev pub invariant-loop-t : goal.invariant-loop-t
invariant-loop-t l = (k : ℕ) → k < l.t → l.s ≢ k → SoundFor l.links (length l.c.nodes) (row_of l.c) l.s k
