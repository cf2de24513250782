use Rattle.std.proofs.Common.{◌≡◌, ◌≤◌, ◌+◌, length, vec_len, vec_capacity}
use Rattle.area_graph.specs.steps.Starts.{below, starts_to}
use Rattle.primary_alt.proofs.arc_starts.arc_starts.Given as goal

abbrev pub invariant-loop-s : goal.invariant-loop-s
invariant-loop-s l = record {
  count : l.count ≡ length l.area.ids;
  filled : l.starts.items ≡ starts_to (l.s + 1) l.area.arcs;
  many : vec_len l.starts ≡ l.s + 1;
  room : l.count + 1 ≤ vec_capacity l.starts;
  at : l.at ≡ below l.s l.area.arcs;
}
