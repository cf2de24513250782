-- The course of a packet.
use Rattle.std.specs.Prelude.{◌≡◌, ◌==◌, ◌+◌, ◌++◌, ◌&&◌, ◌||◌, ◌⊎◌, ℕ, Bool, true, false, not, List, [], ◌∷◌, Ok, map, slice_get, if◌then◌else◌}
use Rattle.std.specs.List.{filter}
use Rattle.std.specs.Option.{option_to_list}
use Rattle.fabric.specs.FabricState.{Answer, FabricState, state_after}
use Rattle.fabric.specs.declared.event.Event.{Event}
use Rattle.fabric.specs.declared.event.Event.TheVariants.{Inject, Step}
use Rattle.fabric.specs.declared.event.Outcome.TheVariants as outcomes
use Rattle.fabric.specs.declared.packet.Mode.{Mode}
use Rattle.fabric.specs.declared.packet.Mode.TheVariants.{Entered, Primary, Switched}
use Rattle.fabric.specs.declared.packet.Packet.{Packet}
use Rattle.fabric.specs.declared.packet.State.{State}
use Rattle.fabric.specs.declared.packet.State.TheVariants.{Delivered, Going, Lost}
use Rattle.mrt_graph.specs.declared.cert.Color.{Color}

-- whether an event is the inject that made packet p
abbrev pub makes : ℕ → Event → Answer → Bool
makes p (Inject at to entry) (Ok (outcomes.Entered number)) = number == p
makes p event answer = false

-- whether an event is a step of packet p that is answered
abbrev pub handles : ℕ → Event → Answer → Bool
handles p (Step number) (Ok outcome) = number == p
handles p event answer = false

-- packet p as it stands after the event that made it, and after each answered step of its own
abbrev pub course : ℕ → FabricState → List Event → List Answer → List Packet
course p old (event ∷ events) (answer ∷ answers) =
    (if makes p event answer || handles p event answer
    then option_to_list (slice_get (state_after old event answer).packets p)
    else [])
    ++ course p (state_after old event answer) events answers
course p old events answers = []

-- how many answered steps of its own packet p has
abbrev pub steps_of : ℕ → List Event → List Answer → ℕ
steps_of p (event ∷ events) (answer ∷ answers) =
    if handles p event answer then steps_of p events answers + 1 else steps_of p events answers
steps_of p events answers = 0

-- whether a packet is in primary mode, whether it is on a color, whether it was lost
abbrev pub is_primary : Mode → Bool
is_primary Primary = true
is_primary (Entered color) = false
is_primary (Switched color) = false

abbrev pub is_on_color : Mode → Bool
is_on_color mode = not (is_primary mode)

abbrev pub is_lost : State → Bool
is_lost Going = false
is_lost Delivered = false
is_lost (Lost loss) = true

-- the places that a packet visits in such modes: where it is lost it was before
abbrev pub visits : (Mode → Bool) → List Packet → List ℕ
visits test packets = map (λ packet. packet.place) (filter (λ packet. test packet.mode && not (is_lost packet.state)) packets)

-- from one mode of a packet to a later one: the mode is the same, or was primary and is a color to which it was switched
abbrev pub KeepsMode : Mode → Mode → Type 0
KeepsMode earlier later = (later ≡ earlier) ⊎ ((earlier ≡ Primary) × ((color : Color) × (later ≡ Switched color)))
