use Rattle.std.proofs.Common.{◌≡◌, ◌<◌, ℕ, [], Some}
use Rattle.std.specs.List.{slice_index_or}
use Rattle.std.specs.Prelude.{vec_len}
use Rattle.mrt_graph.specs.Certificate.{certificate_of}
use Rattle.mrt_graph.specs.Foldable.{in_chain}
use Rattle.cert_format.proofs.heads.twice.Given as goal

abbrev pub invariant-loop-v : goal.invariant-loop-v
invariant-loop-v l = record {
  many : vec_len l.ends ≡ l.v;
  each : (x : ℕ) → x < l.v → in_chain (certificate_of l.nodes [] []) l.steps x ≡ Some (slice_index_or l.ends.items x 0);
}
