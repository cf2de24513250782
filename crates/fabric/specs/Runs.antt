-- Steps of a fabric, and runs of events.
use Rattle.std.specs.Prelude.{◌≡◌, List, [], ◌∷◌}
use Rattle.fabric.specs.Answers.{IsAnswer}
use Rattle.fabric.specs.FabricParts.{FabricParts}
use Rattle.fabric.specs.FabricState.{Answer, FabricState, state_after}
use Rattle.fabric.specs.declared.event.Event.{Event}

-- an event gives this answer and this new state
pub record FabricStep (parts : FabricParts) (old : FabricState) (event : Event) (answer : Answer) (new : FabricState)
    : Type 0 where
  pub answers : IsAnswer parts old event answer
  pub after : new ≡ state_after old event answer

-- the events, one step after another, give these answers and lead from one state to another
abbrev pub IsRun : FabricParts → FabricState → List Event → List Answer → FabricState → Type 0
IsRun parts old [] [] new = new ≡ old
IsRun parts old (event ∷ events) (answer ∷ answers) new =
    (next : FabricState) × FabricStep parts old event answer next × IsRun parts next events answers new
IsRun parts old [] (answer ∷ answers) new = ⊥
IsRun parts old (event ∷ events) [] new = ⊥
