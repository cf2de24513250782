-- Runs by rows that agree for the destinations of their packets.
use Rattle.std.proofs.Common.{◌≡◌, ◌∙◌, ℕ, List, [], ◌∷◌, Option, Some, None, length, slice_get, refl, sym, ap, subst}
use Rattle.std.specs.Prelude.{Contains}
use Rattle.std.specs.Option.{option_and_then}
use Rattle.fabric.specs.Answers.{Answered, HasEnded, IsAnswer, IsStepAnswer, NoPacket}
use Rattle.fabric.specs.FabricParts.{FabricParts, element_of}
use Rattle.fabric.specs.FabricState.{Answer, FabricState, start}
use Rattle.fabric.specs.Handling.{IsHandled, IsHopOrNone, IsInside, IsOutside, IsRepair}
use Rattle.fabric.specs.PacketHop.{IsColorHop, IsOver, OverNetwork, Straight}
use Rattle.fabric.specs.Runs.{IsRun}
use Rattle.fabric.specs.Served.{AgreeFor, AgreeOn, with_rows}
use Rattle.fabric.specs.declared.event.Event.{Event}
use Rattle.fabric.specs.declared.event.Event.TheVariants.{Fail, Inject, Step}
use Rattle.fabric.specs.declared.event.Failure.{Failure}
use Rattle.fabric.specs.declared.event.Failure.TheVariants as failures
use Rattle.fabric.specs.declared.event.Outcome.{Outcome}
use Rattle.fabric_script.specs.declared.entry.Entry.{Entry}
use Rattle.fabric.specs.declared.next_hop.Crossing.{Crossing}
use Rattle.fabric.specs.declared.next_hop.NextHop.{NextHop}
use Rattle.fabric.specs.declared.packet.Mode.{Mode}
use Rattle.fabric.specs.declared.packet.Mode.TheVariants as modes
use Rattle.fabric.specs.declared.packet.Packet.{Packet}
use Rattle.fabric.proofs.EachDestination.{EachTo, each_after}
use Rattle.mrt_graph.specs.Hop.{hop_over}
use Rattle.mrt_graph.specs.Rows.{Rows, link_of_color}
use Rattle.mrt_graph.specs.declared.cert.Color.{Color}
use Rattle.mrt_graph.specs.declared.cert.Row.{Row}
use Rattle.mrt_graph.proofs.Members.{contains_first, contains_later}
use Rattle.primary_alt.proofs.AgreeingRows.{alternate_too}

-- what reads no rows
module _ (parts : FabricParts) (rows : Rows) where
  place_too : (failure : Option Failure) → element_of (with_rows parts rows) failure ≡ element_of parts failure
  place_too None = refl
  place_too (Some (failures.Node s)) = refl
  place_too (Some (failures.Bond b)) = refl

module _ (parts : FabricParts) (rows : Rows) where
  -- hops on a color
  over_too : (color : Color) (n d : ℕ) (c : Crossing) → ((s : ℕ) → parts.rows s d ≡ rows s d) → IsOver parts color n d c → IsOver (with_rows parts rows) color n d c
  over_too color n d c same over = record {
    hop = over.hop;
    row = sym (ap (option_and_then (λ (row : Row). hop_over parts.island.links n (link_of_color color row))) (same n)) ∙ over.row;
    link = over.link;
    node = over.node;
  }

  color_too : (color : Color) (x t : ℕ) (hop : NextHop) → AgreeFor parts rows t → IsColorHop parts color x t hop → IsColorHop (with_rows parts rows) color x t hop
  color_too color x t hop agree (Straight n d first at to over direct) = Straight n d first at to (over_too color n d first (agree d to) over) direct
  color_too color x t hop agree (OverNetwork n d m first second at to over network other at_v on) =
      OverNetwork n d m first second at to (over_too color n d first (agree d to) over) network other at_v (over_too color m d second (agree d to) on)

  hop_too : (mode : Mode) (x t : ℕ) (hop : Option NextHop) → AgreeFor parts rows t → IsHopOrNone parts mode x t hop → IsHopOrNone (with_rows parts rows) mode x t hop
  hop_too mode x t None agree is = is
  hop_too modes.Primary x t (Some hop) agree is = record { primary = is.primary; is = is.is; over = is.over }
  hop_too (modes.Entered color) x t (Some hop) agree is = color_too color x t hop agree is
  hop_too (modes.Switched color) x t (Some hop) agree is = color_too color x t hop agree is

  repair_too : (failure : Option Failure) (q : Packet) (repair : Option (Option Color)) → AgreeFor parts rows q.to → IsRepair parts failure q repair
      → IsRepair (with_rows parts rows) failure q repair
  repair_too failure q repair agree (IsOutside out) = IsOutside out
  repair_too failure q repair agree (IsInside at to answer place destination is) =
      IsInside at to answer place destination
      (rw (place_too parts rows failure)
      (alternate_too parts.island.links (length parts.island.ids) to parts.rows rows (agree to destination) at (element_of parts failure) answer is))

  handled_too : (failure : Option Failure) (q : Packet) (outcome : Outcome) → AgreeFor parts rows q.to → IsHandled parts failure q outcome → IsHandled (with_rows parts rows) failure q outcome
  handled_too failure q outcome agree is = record {
    hop = is.hop;
    hop_is = λ stands. hop_too q.mode q.place q.to is.hop agree (is.hop_is stands);
    repair = is.repair;
    repair_is = repair_too failure q is.repair agree is.repair_is;
    is = is.is;
  }

  step_too : (failure : Option Failure) (there : Option Packet) (answer : Answer) → ((q : Packet) → there ≡ Some q → AgreeFor parts rows q.to)
      → IsStepAnswer parts failure there answer → IsStepAnswer (with_rows parts rows) failure there answer
  step_too failure there answer agree NoPacket = NoPacket
  step_too failure there answer agree (HasEnded q ended) = HasEnded q ended
  step_too failure there answer agree (Answered q outcome going handled) = Answered q outcome going (handled_too failure q outcome (agree q refl) handled)

  answer_too : (state : FabricState) (event : Event) (answer : Answer) → EachTo (AgreeFor parts rows) state.packets → IsAnswer parts state event answer
      → IsAnswer (with_rows parts rows) state event answer
  answer_too state (Inject at to entry) answer agree is = is
  answer_too state (Step p) answer agree is = step_too state.failure (slice_get state.packets p) answer (agree p) is
  answer_too state (Fail failed) answer agree is = is

  -- step by step
  run_too : (events : List Event) (answers : List Answer) (old new : FabricState) → AgreeOn parts rows events
      → EachTo (AgreeFor parts rows) old.packets → IsRun parts old events answers new → IsRun (with_rows parts rows) old events answers new
  run_too [] [] old new on agree run = run
  run_too [] (answer ∷ answers) old new on agree run = absurd run
  run_too (event ∷ events) [] old new on agree run = absurd run
  run_too (event ∷ events) (answer ∷ answers) old new on agree run =
      let enters : (at to : ℕ) (entry : Entry) → event ≡ Inject at to entry → AgreeFor parts rows to =
      λ at to entry same. on at to entry (subst (λ (e : Event). Contains (event ∷ events) e) same (contains_first event events)) in
      let after : EachTo (AgreeFor parts rows) run.0.packets =
      subst (λ (s : FabricState). EachTo (AgreeFor parts rows) s.packets) (sym run.1.after) (each_after (AgreeFor parts rows) old event answer enters agree) in (
        run.0,
        record { answers = answer_too old event answer agree run.1.answers; after = run.1.after },
        run_too events answers run.0 new (λ at to entry among. on at to entry (contains_later event (Inject at to entry) events among)) after run.2,
      )

-- from the start
pub same_run : (parts : FabricParts) (rows : Rows) (room : ℕ) (events : List Event) → AgreeOn parts rows events
    → (answers : List Answer) (end : FabricState) → IsRun parts (start room) events answers end
    → IsRun (with_rows parts rows) (start room) events answers end
same_run parts rows room events on answers end run = run_too parts rows events answers (start room) end on (λ p packet there. none there) run
  where
    none : {A : Type 0} {packet : Packet} → ◌≡◌ {A = Option Packet} None (Some packet) → A
    none there = cc
