use Rattle.std.proofs.Common.{◌≡◌, ◌<◌, ℕ, Some, slice_get}
use Rattle.mrt_graph.specs.declared.cert.Role.TheVariants.{Sole}
use Rattle.mrt_graph.specs.declared.link.End.{End}
use Rattle.mrt_rows.specs.steps.ListedDirections.{directions_by}
use Rattle.mrt_rows.proofs.common.sole_of.Given as goal

abbrev pub invariant-loop-end : goal.invariant-loop-end
invariant-loop-end l = (j : ℕ) (end : End) → j < l.end-index → slice_get l.end-items j ≡ Some end → (directions_by l.rooted).role end.link ≡ Sole
    → (directions_by l.rooted).lies_in end.link ≡ (directions_by l.rooted).block l.fn.v → ⊥
