use Rattle.std.proofs.Common.{◌≡◌, ◌<◌, ◌≤◌, ℕ, Some, slice_get}
use Rattle.area_graph.specs.declared.area_types.Arc.{Arc}
use Rattle.primary_alt.specs.steps.Attaining.{Attains}
use Rattle.primary_alt.proofs.first_arcs.first_arc.Given as goal

abbrev pub invariant-loop-number : goal.invariant-loop-number
invariant-loop-number l = (k : ℕ) (arc : Arc) → l.from ≤ k → k < l.number → slice_get l.arcs k ≡ Some arc → ¬ Attains l.known arc
