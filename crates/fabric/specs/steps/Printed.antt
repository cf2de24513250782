-- Events, their answers, and the lines of these at the end of a text.
use Rattle.std.specs.Prelude.{◌≡◌, ◌++◌, ℕ, List, [], ◌∷◌, Some}
use Rattle.std.specs.Option.{option_map}
use Rattle.fabric.specs.declared.event.Event.{Event}
use Rattle.fabric.specs.FabricParts.{FabricParts}
use Rattle.fabric.specs.FabricState.{Answer, FabricState}
use Rattle.fabric.specs.OutcomeText.{answer_line}
use Rattle.fabric.specs.Runs.{IsRun}
use Rattle.fabric.specs.Trace.{AreUntilEnd}

-- a text has the lines of these answers more at its end
abbrev pub HasLines : FabricParts → List Answer → List ℕ → List ℕ → Type 0
HasLines parts [] before after = after ≡ before
HasLines parts (answer ∷ answers) before after =
    (mid : List ℕ) × (option_map (λ line. before ++ line) (answer_line parts.area.ids answer) ≡ Some mid)
    × HasLines parts answers mid after

-- the events lead from one state to another, and the text has the lines of their answers
pub record IsPrinted (parts : FabricParts) (old : FabricState) (events : List Event) (new : FabricState)
    (before after : List ℕ) : Type 0 where
  pub answers : List Answer
  pub run : IsRun parts old events answers new
  pub lines : HasLines parts answers before after

-- packet 0 has its steps until it has ended, and the text has the lines of their answers
pub record IsSteppedOn (parts : FabricParts) (old : FabricState) (before after : List ℕ) : Type 0 where
  pub answers : List Answer
  pub steps : AreUntilEnd parts old [] answers
  pub lines : HasLines parts answers before after
