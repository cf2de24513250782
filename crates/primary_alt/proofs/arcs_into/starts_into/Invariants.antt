use Rattle.std.proofs.Common.{◌≡◌, ◌≤◌, ◌+◌, ◌<◌, ℕ, get_or, length, vec_capacity, vec_len}
use Rattle.primary_alt.specs.steps.ArcsInto.{IsStartInto}
use Rattle.primary_alt.proofs.arcs_into.starts_into.Given as goal

abbrev pub invariant-loop-v : goal.invariant-loop-v
invariant-loop-v l = record {
  many : vec_len l.starts ≡ l.v;
  held : length l.starts.items ≡ l.v;
  room : l.count + 1 ≤ vec_capacity l.starts;
  starts : (u : ℕ) → u < l.v → IsStartInto l.arcs u (get_or l.starts.items u 0);
}
