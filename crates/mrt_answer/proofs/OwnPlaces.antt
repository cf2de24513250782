-- A router that is among nodes is found.
use Rattle.std.proofs.Common.{ℕ, List, Result, Ok, Err, inl, inr}
use Rattle.std.specs.Prelude.{Contains}
use Rattle.mrt_exit.specs.AnswerSteps.{IsAnswer}
use Rattle.mrt_exit.specs.declared.exit.Exit.{Exit}
use Rattle.mrt_exit.specs.declared.exit.Exit.TheVariants.{NotThere}
use Rattle.mrt_graph.specs.NodeIds.{router as router_node}
use Rattle.mrt_graph.specs.declared.node_id.NodeId.{NodeId}
use Rattle.mrt_answer.specs.Islands.{own_place, place_of}

pub found : (ids : List NodeId) (number : ℕ) → Contains ids (router_node number) → (answer : Result ℕ Exit)
    → IsAnswer (place_of ids number) answer → IsAnswer (own_place ids number) answer
found ids number inside (Ok place) said = said
found ids number inside (Err exit) (inl said) = absurd (not_missed exit said)
  where
    not_missed : (exit : Exit) → place_of ids number (Err exit) → ⊥
    not_missed (NotThere missing) said = said.1 inside
    not_missed exit said = said
found ids number inside (Err exit) (inr memory) = inr memory
