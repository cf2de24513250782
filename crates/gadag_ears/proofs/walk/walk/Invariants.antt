use Rattle.std.proofs.Common.{◌≡◌, ◌++◌, ℕ, List, ◌∷◌, length, vec_capacity}
use Rattle.gadag_ears.specs.Ear.{GoesOn}
use Rattle.gadag_ears.specs.steps.Growing.{AreListed, IsEarWay}
use Rattle.gadag_ears.proofs.EarWalk.{IsWalking, rank}
use Rattle.gadag_ears.proofs.walk.walk.Given as goal

abbrev pub invariant-way : goal.invariant-way
invariant-way l = record {
  so_far : (nodes us : List ℕ) (stop : ℕ) → AreListed l.listed nodes → GoesOn l.g l.tree l.kind nodes l.here us stop
      → IsEarWay l.g l.tree l.kind nodes l.fn.first (l.new.items ++ l.here ∷ us) stop;
  walking : IsWalking l.g l.tree l.kind l.listed l.fn.first l.here (length l.new.items);
  room : vec_capacity l.new ≡ vec_capacity l.fn.new;
}

abbrev pub decreases-way : goal.decreases-way
decreases-way l = rank l.g l.tree l.kind l.here
