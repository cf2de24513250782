-- Each event has an answer, which can be told.
use Rattle.std.proofs.Common.{◌≡◌, ◌≢◌, ◌⊎◌, ◌<◌, ◌∙◌, ℕ, Bool, true, false, List, Option, Some, None, length, slice_get, inl, inr, refl, sym, subst}
use Rattle.std.specs.Prelude.{nat_lt}
use Rattle.fabric.specs.Answers.{Answered, HasEnded, IsAnswer, IsStepAnswer, NoPacket, fail_answer, inject_answer}
use Rattle.fabric.specs.Course.{steps_of}
use Rattle.fabric.specs.FabricParts.{ArePartsKept, AreRowsFor, FabricParts}
use Rattle.fabric.specs.FabricState.{Answer, FabricState, start}
use Rattle.fabric.specs.Handling.{IsHandled, IsHopOrNone}
use Rattle.fabric.specs.steps.KeptState.{IsKeptPacket}
use Rattle.fabric.specs.OutcomeText.{IsTellable}
use Rattle.fabric.specs.PacketHop.{over_arc}
use Rattle.fabric.specs.Runs.{IsRun}
use Rattle.fabric.specs.Served.{AreRowsOn}
use Rattle.fabric.specs.declared.event.Event.{Event}
use Rattle.fabric.specs.declared.event.Event.TheVariants.{Fail, Inject, Step}
use Rattle.fabric.specs.declared.event.Failure.{Failure}
use Rattle.fabric.specs.declared.event.Outcome.{Outcome}
use Rattle.fabric.specs.declared.next_hop.NextHop.{NextHop}
use Rattle.fabric.specs.declared.packet.Mode.{Mode}
use Rattle.fabric.specs.declared.packet.Mode.TheVariants as modes
use Rattle.fabric.specs.declared.packet.Packet.{Packet}
use Rattle.fabric.specs.declared.packet.State.{State}
use Rattle.fabric.specs.declared.packet.State.TheVariants as states
use Rattle.fabric.proofs.EnterOrNot.{element_is, may_is}
use Rattle.fabric.proofs.OneHop.{one_over, two_over}
use Rattle.fabric.proofs.PacketChains.{left_now, outcome_tellable}
use Rattle.fabric.proofs.RunLives.{IsAt, Living, Unmade, run_lives}
use Rattle.fabric.proofs.SomeHop.{some_color_hop, some_repair}
use Rattle.primary_alt.specs.Primaries.{Direct, IsPrimary, Itself, NoWalk, Over}
use Rattle.primary_alt.specs.Routers.{IsRouter}
use Rattle.primary_alt.proofs.RouterFacts.{router_from}
use Rattle.primary_alt.specs.declared.shortest.Primary.{Primary}

module _ (parts : FabricParts) (are : ArePartsKept parts) (entries : ℕ → ℕ → Option Primary)
    (primaries : (s t : ℕ) → IsRouter parts.area.ids s → t < length parts.area.ids → IsPrimary parts.area s t (entries s t))
    (failure : Option Failure) (q : Packet) (rows : AreRowsFor parts q.to) (kept : IsKeptPacket parts q) (going : q.state ≡ states.Going) where
  -- a hop, or no walk
  some_hop : (mode : Mode) → q.mode ≡ mode → (hop : Option NextHop) × IsHopOrNone parts mode q.place q.to hop
  some_hop modes.Primary is = go (entries q.place q.to) (primaries q.place q.to (router_from parts.area.ids q.place kept.place (kept.router going)) kept.to)
    where
      go : (entry : Option Primary) → IsPrimary parts.area q.place q.to entry → (hop : Option NextHop) × IsHopOrNone parts modes.Primary q.place q.to hop
      go entry (Itself same) = absurd (kept.apart going same)
      go entry (NoWalk none) = (None, (refl, none))
      go entry (Direct n arc apart first direct) =
          (Some (one_over (over_arc arc)), record { primary = _; is = Direct n arc apart first direct; over = rw first.there refl })
      go entry (Over n k arc onward apart first over second) =
          (Some (two_over (over_arc arc) (over_arc onward)), record { primary = _; is = Over n k arc onward apart first over second; over = rw (first.there, second.there) refl })
  some_hop (modes.Entered color) is =
      let left = left_now parts are color q rows kept going (λ primary. let e = sym is ∙ primary in cc) in
      let hop = some_color_hop parts are color q.place q.to left.n left.d left.hops left.at left.to (kept.apart going) left.follows in (Some hop.0, hop.1)
  some_hop (modes.Switched color) is =
      let left = left_now parts are color q rows kept going (λ primary. let e = sym is ∙ primary in cc) in
      let hop = some_color_hop parts are color q.place q.to left.n left.d left.hops left.at left.to (kept.apart going) left.follows in (Some hop.0, hop.1)

  some_outcome : (outcome : Outcome) × IsHandled parts failure q outcome
  some_outcome =
      let hop = some_hop q.mode refl in
      let repair = some_repair parts failure q in
      (_, record { hop = hop.0; hop_is = λ stands. hop.1; repair = repair.0; repair_is = repair.1; is = refl })

going_or_not : (state : State) → (state ≡ states.Going) ⊎ (state ≢ states.Going)
going_or_not states.Going = inl refl
going_or_not states.Delivered = inr (λ same. cc)
going_or_not (states.Lost loss) = inr (λ same. cc)

-- after each run from the start
pub some_answer : (parts : FabricParts) → ArePartsKept parts → (entries : ℕ → ℕ → Option Primary)
    → ((s t : ℕ) → IsRouter parts.area.ids s → t < length parts.area.ids → IsPrimary parts.area s t (entries s t))
    → (room : ℕ) (events : List Event) (answers : List Answer) (end : FabricState) → AreRowsOn parts events → IsRun parts (start room) events answers end
    → (event : Event) → (answer : Answer) × IsAnswer parts end event answer
some_answer parts are entries primaries room events answers end on run (Inject at to entry) =
    let may = may_is parts.area parts.island at to entry in (_, record { may = may.0; may_is = may.1; is = refl })
some_answer parts are entries primaries room events answers end on run (Fail failed) =
    let has = element_is parts.area failed in (_, record { has = has.0; has_is = has.1; is = refl })
some_answer parts are entries primaries room events answers end on run (Step p) = go (run_lives parts are room events answers end on run p)
  where
    answer_of : (q : Packet) → AreRowsFor parts q.to → IsKeptPacket parts q → (answer : Answer) × IsStepAnswer parts end.failure (Some q) answer
    answer_of q rows kept = elim (going_or_not q.state) [
      | inl going ↦ let found = some_outcome parts are entries primaries end.failure q rows kept going in (_, Answered q found.0 going found.1)
      | inr ended ↦ (_, HasEnded q ended)
    ]

    go : IsAt parts p end (steps_of p events answers) → (answer : Answer) × IsStepAnswer parts end.failure (slice_get end.packets p) answer
    go (Unmade none count) = rw none (_, NoPacket)
    go (Living q is has_rows lives) = rw is (answer_of q has_rows lives.kept)

-- the node in an answer, if there is one, is a node of the area
pub answer_told : (parts : FabricParts) → ArePartsKept parts → (room : ℕ) (events : List Event) (answers : List Answer) (end : FabricState)
    → AreRowsOn parts events → IsRun parts (start room) events answers end
    → (event : Event) (answer : Answer) → IsAnswer parts end event answer → IsTellable parts.area.ids answer
answer_told parts are room events answers end on run (Inject at to entry) answer is =
    subst (IsTellable parts.area.ids) (sym is.is) (entered is.may (nat_lt (length end.packets) end.room) (length end.packets))
  where
    entered : (may has_room : Bool) (number : ℕ) → IsTellable parts.area.ids (inject_answer may has_room number)
    entered false has_room number = tt
    entered true false number = tt
    entered true true number = tt
answer_told parts are room events answers end on run (Fail failed) answer is = subst (IsTellable parts.area.ids) (sym is.is) (failing is.has end.failure)
  where
    failing : (has : Bool) (failure : Option Failure) → IsTellable parts.area.ids (fail_answer has failure)
    failing false failure = tt
    failing true (Some before) = tt
    failing true None = tt
answer_told parts are room events answers end on run (Step p) answer is = go (run_lives parts are room events answers end on run p)
  where
    of : (q : Packet) → AreRowsFor parts q.to → IsKeptPacket parts q → (a : Answer) → IsStepAnswer parts end.failure (Some q) a
        → IsTellable parts.area.ids a
    of q rows kept a (HasEnded _ ended) = tt
    of q rows kept a (Answered _ outcome going handled) = outcome_tellable parts are end.failure q rows kept going outcome handled

    none_of : (a : Answer) → IsStepAnswer parts end.failure None a → IsTellable parts.area.ids a
    none_of a NoPacket = tt

    go : IsAt parts p end (steps_of p events answers) → IsTellable parts.area.ids answer
    go (Unmade none count) = none_of answer (rw none at is)
    go (Living q there has_rows lives) = of q has_rows lives.kept answer (rw there at is)
