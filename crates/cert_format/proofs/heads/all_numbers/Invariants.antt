use Rattle.std.proofs.Common.{◌≡◌, ◌<◌, ℕ}
use Rattle.std.specs.List.{slice_index_or}
use Rattle.std.specs.Prelude.{vec_len}
use Rattle.cert_format.proofs.heads.all_numbers.Given as goal

abbrev pub invariant-loop-v : goal.invariant-loop-v
invariant-loop-v l = record {
  many : vec_len l.ends ≡ l.v;
  each : (x : ℕ) → x < l.v → slice_index_or l.ends.items x 0 ≡ x;
}
