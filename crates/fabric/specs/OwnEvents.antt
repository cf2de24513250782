-- The events that concern a packet.
use Rattle.std.specs.Prelude.{◌==◌, ◌++◌, ℕ, List, [], ◌∷◌, Ok, Err, if◌then◌else◌}
use Rattle.fabric.specs.FabricState.{Answer}
use Rattle.fabric.specs.declared.event.Event.{Event}
use Rattle.fabric.specs.declared.event.Event.TheVariants.{Fail, Inject, Step}
use Rattle.fabric.specs.declared.event.Failure.{Failure}
use Rattle.fabric.specs.declared.event.Outcome.TheVariants as outcomes
use Rattle.fabric.specs.declared.event.Refused.TheVariants.{Ended}
use Rattle.fabric_script.specs.declared.entry.Entry.{Entry}

-- what concerns a packet: it enters, it has a step, an element fails
pub data OwnEvent : Type 0 where
  Enters : (at to : ℕ) → Entry → OwnEvent
  Steps : OwnEvent
  Fails : Failure → OwnEvent

-- what an event is to packet p: the inject that made it, a step of it since then, a failure that is kept; no other
-- event, and no refusal but that of a step after the packet's end, concerns it
abbrev pub own_event : ℕ → Event → Answer → List OwnEvent
own_event p (Inject at to entry) (Ok (outcomes.Entered number)) = if number == p then Enters at to entry ∷ [] else []
own_event p (Step number) (Ok outcome) = if number == p then Steps ∷ [] else []
own_event p (Step number) (Err Ended) = if number == p then Steps ∷ [] else []
own_event p (Fail failed) (Ok outcome) = Fails failed ∷ []
own_event p event answer = []

-- what concerns packet p, in its order
abbrev pub own_events : ℕ → List Event → List Answer → List OwnEvent
own_events p (event ∷ events) (answer ∷ answers) = own_event p event answer ++ own_events p events answers
own_events p events answers = []

-- the answer to a step of packet p since it was made
abbrev pub step_answer : ℕ → Event → Answer → List Answer
step_answer p (Step number) (Ok outcome) = if number == p then Ok outcome ∷ [] else []
step_answer p (Step number) (Err Ended) = if number == p then Err Ended ∷ [] else []
step_answer p event answer = []

-- the answers to the steps of packet p, in their order
abbrev pub step_answers : ℕ → List Event → List Answer → List Answer
step_answers p (event ∷ events) (answer ∷ answers) = step_answer p event answer ++ step_answers p events answers
step_answers p events answers = []
