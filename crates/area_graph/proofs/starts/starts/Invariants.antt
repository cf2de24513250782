use Rattle.std.proofs.Common.{◌≡◌, ◌≤◌, ◌+◌, vec_len, vec_capacity}
use Rattle.area_graph.specs.steps.Starts.{below, starts_to}
use Rattle.area_graph.proofs.starts.starts.Given as goal

abbrev pub invariant-loop-s : goal.invariant-loop-s
invariant-loop-s l = record {
  filled : l.starts.items ≡ starts_to l.s l.arcs;
  many : vec_len l.starts ≡ l.s;
  room : l.count + 1 ≤ vec_capacity l.starts;
  at : l.at ≤ below l.s l.arcs;
}
