use Rattle.std.proofs.Common.{◌≡◌, ◌==◌, ◌<◌, ℕ, false, not}
use Rattle.std.specs.List.{slice_index_or}
use Rattle.cert_format.proofs.heads.first_other.Given as goal

abbrev pub invariant-loop-v : goal.invariant-loop-v
invariant-loop-v l = (x : ℕ) → x < l.v → not (slice_index_or l.ends x 0 == l.top) ≡ false
