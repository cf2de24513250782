use Rattle.std.proofs.Common.{◌≡◌, ◌≤◌, ◌-◌, ℕ, length, take}
use Rattle.mrt_io.specs.Writing.{Gained}
use Rattle.mrt_io.proofs.put.put_all.Given as goal

-- So many bytes were taken, without a fault where the sink is healthy for all of them.
abbrev pub invariant-loop-taken : goal.invariant-loop-taken
invariant-loop-taken g l = record {
  within : l.taken ≤ length l.bytes;
  gained : Gained (g.K.Sink.written l.fn.sink) (take l.taken l.bytes) (g.K.Sink.written l.sink);
  count : g.K.Sink.faults l.fn.sink ≤ g.K.Sink.faults l.sink;
  no_fault : (n : ℕ) → g.K.Sink.healthy_for l.fn.sink n → length l.bytes ≤ n
      → g.K.Sink.faults l.sink ≡ g.K.Sink.faults l.fn.sink;
  stays_healthy : (n : ℕ) → g.K.Sink.healthy_for l.fn.sink n → length l.bytes ≤ n
      → g.K.Sink.healthy_for l.sink (n - l.taken);
}

abbrev pub decreases-loop-taken : goal.decreases-loop-taken
decreases-loop-taken g l = length l.bytes - l.taken
