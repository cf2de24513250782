use Rattle.std.proofs.Common.{◌≡◌, ℕ, Some}
use Rattle.lowpoint_dfs.specs.Subtree.{parent_of}
use Rattle.gadag_ears.specs.steps.Growing.{IsMarked}
use Rattle.gadag_ears.proofs.EndsPassed.{ArePassed, IsInTurn}
use Rattle.gadag_ears.proofs.turn.neighbour_ears.Given as goal

abbrev pub invariant-loop-end : goal.invariant-loop-end
invariant-loop-end l = record {
  in_turn : IsInTurn l.g l.tree l.x l.initial.growing l.growing;
  children : (v : ℕ) → parent_of l.g l.tree v ≡ Some l.x → IsMarked l.growing.listed.items v;
  passed : ArePassed (λ end. IsMarked l.growing.listed.items end.to) l.ends l.end-index;
}
