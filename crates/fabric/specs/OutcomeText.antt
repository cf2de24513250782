-- The texts of answers.
use Rattle.std.specs.Prelude.{◌<◌, ◌++◌, ⊤, ℕ, List, [], ◌∷◌, Option, Some, Ok, Err, codes, decimal, length, slice_get}
use Rattle.std.specs.Option.{option_and_then, option_map}
use Rattle.fabric.specs.FabricState.{Answer}
use Rattle.fabric.specs.declared.event.Outcome.{Outcome}
use Rattle.fabric.specs.declared.event.Outcome.TheVariants as outcomes
use Rattle.fabric.specs.declared.event.Refused.{Refused}
use Rattle.fabric.specs.declared.event.Refused.TheVariants.{Ended, Full, NoSuchPacket, NoSuchPlace, SecondFailure}
use Rattle.fabric.specs.declared.packet.Loss.{Loss}
use Rattle.fabric.specs.declared.packet.Loss.TheVariants.{ColorCut, Inside, IsDestination, NoAlternate, NoRoute, Outside}
use Rattle.text_parts.specs.Spelling.{node_text}
use Rattle.mrt_graph.specs.declared.cert.Color.{Color}
use Rattle.mrt_graph.specs.declared.cert.Color.TheVariants.{Blue, Red}
use Rattle.mrt_graph.specs.declared.node_id.NodeId.{NodeId}

-- a color, a cause of loss, a refusal
abbrev pub color_text : Color → List ℕ
color_text Blue = codes "blue"
color_text Red = codes "red"

abbrev pub loss_text : Loss → List ℕ
loss_text Inside = codes "inside"
loss_text NoRoute = codes "no-route"
loss_text IsDestination = codes "is-destination"
loss_text ColorCut = codes "color-cut"
loss_text Outside = codes "outside"
loss_text NoAlternate = codes "no-alternate"

abbrev pub refused_text : Refused → List ℕ
refused_text NoSuchPlace = codes "no-such-place"
refused_text Full = codes "full"
refused_text NoSuchPacket = codes "no-such-packet"
refused_text Ended = codes "ended"
refused_text SecondFailure = codes "second-failure"

-- an outcome; none where its node is not there
abbrev pub outcome_text : List NodeId → Outcome → Option (List ℕ)
outcome_text ids (outcomes.Entered number) = Some (codes "entered " ++ decimal number)
outcome_text ids (outcomes.Moved x) = option_map (λ id. codes "moved " ++ node_text id) (slice_get ids x)
outcome_text ids (outcomes.Switched color) = Some (codes "switched " ++ color_text color)
outcome_text ids (outcomes.Delivered x) = option_map (λ id. codes "delivered " ++ node_text id) (slice_get ids x)
outcome_text ids (outcomes.Lost loss) = Some (codes "lost " ++ loss_text loss)
outcome_text ids outcomes.Failed = Some (codes "failed")

-- an answer
abbrev pub answer_text : List NodeId → Answer → Option (List ℕ)
answer_text ids (Ok outcome) = outcome_text ids outcome
answer_text ids (Err refused) = Some (codes "refused " ++ refused_text refused)

-- its line
abbrev pub answer_line : List NodeId → Answer → Option (List ℕ)
answer_line ids answer = option_map (λ text. text ++ codes "\n") (answer_text ids answer)

-- the text of a run: a line for each answer, in their order
abbrev pub run_text : List NodeId → List Answer → Option (List ℕ)
run_text ids [] = Some []
run_text ids (answer ∷ answers) =
    option_and_then (λ line. option_map (λ rest. line ++ rest) (run_text ids answers)) (answer_line ids answer)

-- the node in an answer, if there is one, is there
abbrev pub IsTellable : List NodeId → Answer → Type 0
IsTellable ids (Ok (outcomes.Entered number)) = ⊤
IsTellable ids (Ok (outcomes.Moved x)) = x < length ids
IsTellable ids (Ok (outcomes.Switched color)) = ⊤
IsTellable ids (Ok (outcomes.Delivered x)) = x < length ids
IsTellable ids (Ok (outcomes.Lost loss)) = ⊤
IsTellable ids (Ok outcomes.Failed) = ⊤
IsTellable ids (Err refused) = ⊤
