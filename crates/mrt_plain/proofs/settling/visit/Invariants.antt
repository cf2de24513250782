use Rattle.std.proofs.Common.{◌≡◌, ◌<◌, ℕ, Some}
use Rattle.mrt_graph.specs.Search.{Enters}
use Rattle.mrt_plain.specs.steps.Without.{onward_without}
use Rattle.mrt_plain.proofs.settling.visit.Given as goal

abbrev pub invariant-loop-e : goal.invariant-loop-e
invariant-loop-e l = Enters (λ (v : ℕ). (k : ℕ) × (k < l.e) × (onward_without l.links l.x l.at k ≡ Some v)) l.fn.search l.search
