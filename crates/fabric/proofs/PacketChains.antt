-- What a packet is after a step, and after many.
use Rattle.std.proofs.Common.{◌≡◌, ◌≢◌, ◌⊎◌, ◌∙◌, List, [], ◌∷◌, Option, Ok, inl, inr, refl, sym, ap, subst}
use Rattle.std.specs.Prelude.{IsSome}
use Rattle.fabric.specs.Course.{KeepsMode}
use Rattle.fabric.specs.FabricParts.{ArePartsKept, AreRowsFor, FabricParts, node_at}
use Rattle.fabric.specs.FabricState.{packet_after}
use Rattle.fabric.specs.Handling.{IsHandled, IsInside}
use Rattle.fabric.specs.steps.KeptState.{IsKeptPacket}
use Rattle.fabric.specs.OutcomeText.{IsTellable}
use Rattle.fabric.specs.PacketHop.{IsHop}
use Rattle.fabric.specs.declared.event.Failure.{Failure}
use Rattle.fabric.specs.declared.event.Outcome.{Outcome}
use Rattle.fabric.specs.declared.event.Outcome.TheVariants as outcomes
use Rattle.fabric.specs.declared.next_hop.NextHop.{NextHop}
use Rattle.fabric.specs.declared.packet.Loss.{Loss}
use Rattle.fabric.specs.declared.packet.Mode.{Mode}
use Rattle.fabric.specs.declared.packet.Mode.TheVariants as modes
use Rattle.fabric.specs.declared.packet.Packet.{Packet}
use Rattle.fabric.specs.declared.packet.State.TheVariants as states
use Rattle.fabric.proofs.Life.{IsLeft, color_hop_of, ended_kept, inside_is, step_on}
use Rattle.fabric.proofs.LifeSteps.{color_kept, delivered_kept, moved_kept, router_there, some_inside, switched_kept, whole_way}
use Rattle.fabric.proofs.Nearer.{nearer_hop}
use Rattle.fabric.proofs.Outcomes.{Arrives, Becomes, IsLost, IsSwitched, Moves, becomes}
use Rattle.mrt_graph.specs.declared.cert.Color.{Color}

-- what a step makes of a packet: it moves, it is delivered, it is lost, or it is switched
pub data Next (parts : FabricParts) (q r : Packet) : Type 0 where
  ByMove : (hop : NextHop) → IsHop parts q.mode q.place q.to hop → hop.next ≢ q.to → r ≡ record q { place = hop.next } → Next parts q r
  ByArrival : (hop : NextHop) → IsHop parts q.mode q.place q.to hop → hop.next ≡ q.to → r ≡ record q { place = q.to; state = states.Delivered } → Next parts q r
  ByLoss : (loss : Loss) → r ≡ record q { state = states.Lost loss } → Next parts q r
  BySwitch : (color : Color) → q.mode ≡ modes.Primary → IsSome (node_at parts q.place) → IsSome (node_at parts q.to)
      → r ≡ record q { mode = modes.Switched color } → Next parts q r

pub next_of : (parts : FabricParts) (failure : Option Failure) (q : Packet) (outcome : Outcome) → IsHandled parts failure q outcome → Next parts q (packet_after outcome q)
next_of parts failure q outcome handled = go (becomes parts failure q outcome handled)
  where
    go : {o : Outcome} → Becomes parts failure q o → Next parts q (packet_after o q)
    go (Moves hop is other) = ByMove hop is other refl
    go (Arrives hop is here) = ByArrival hop is here refl
    go (IsLost loss why) = ByLoss loss refl
    go (IsSwitched color primary off (IsInside at to _ place destination is)) =
        BySwitch color primary (some_inside parts q.place at place) (some_inside parts q.to to destination) refl

-- a packet, and what one step after another makes of it
abbrev pub Chain : FabricParts → Packet → List Packet → Type 0
Chain parts q [] = Unit {0}
Chain parts q (r ∷ rest) = (q.state ≡ states.Going) × (Next parts q r) × (Chain parts r rest)

-- the mode of a packet
pub mode_next : (parts : FabricParts) (q r : Packet) → Next parts q r → KeepsMode q.mode r.mode
mode_next parts q r (ByMove hop is other same) = inl (ap (λ (p : Packet). p.mode) same)
mode_next parts q r (ByArrival hop is here same) = inl (ap (λ (p : Packet). p.mode) same)
mode_next parts q r (ByLoss loss same) = inl (ap (λ (p : Packet). p.mode) same)
mode_next parts q r (BySwitch color primary place to same) = inr (primary, (color, ap (λ (p : Packet). p.mode) same))

pub mode_on : (a b c : Mode) → KeepsMode a b → KeepsMode b c → KeepsMode a c
mode_on a b c (inl same) (inl same') = inl (same' ∙ same)
mode_on a b c (inl same) (inr (primary, later)) = inr (sym same ∙ primary, later)
mode_on a b c (inr (primary, (color, is))) (inl same') = inr (primary, (color, same' ∙ is))
mode_on a b c (inr (primary, (color, is))) (inr (primary', later)) = cc

-- its destination stays
pub rows_next : (parts : FabricParts) (q r : Packet) → Next parts q r → AreRowsFor parts q.to → AreRowsFor parts r.to
rows_next parts q r (ByMove hop is other same) rows = subst (λ (p : Packet). AreRowsFor parts p.to) (sym same) rows
rows_next parts q r (ByArrival hop is here same) rows = subst (λ (p : Packet). AreRowsFor parts p.to) (sym same) rows
rows_next parts q r (ByLoss loss same) rows = subst (λ (p : Packet). AreRowsFor parts p.to) (sym same) rows
rows_next parts q r (BySwitch color primary place to same) rows = subst (λ (p : Packet). AreRowsFor parts p.to) (sym same) rows

module _ (parts : FabricParts) (are : ArePartsKept parts) where
  -- what is left of the way of a packet on a color
  pub left_now : (color : Color) (q : Packet) → AreRowsFor parts q.to → IsKeptPacket parts q → q.state ≡ states.Going → q.mode ≢ modes.Primary → IsLeft parts color q
  left_now color q rows kept going mode =
      let n = inside_is (node_at parts q.place) (kept.place_inside mode) in
      let d = inside_is (node_at parts q.to) (kept.to_inside mode) in
      whole_way parts are color q n.0 d.0 rows kept (kept.apart going) n.1 d.1

  -- what is kept of a packet
  pub kept_next : (q r : Packet) → AreRowsFor parts q.to → IsKeptPacket parts q → q.state ≡ states.Going → Next parts q r → IsKeptPacket parts r
  kept_next q r rows kept going (ByMove hop is other same) = subst (λ (p : Packet). IsKeptPacket parts p) (sym same) (go q.mode refl is)
    where
      on_color : (color : Color) → (q.mode ≡ modes.Entered color) ⊎ (q.mode ≡ modes.Switched color) → q.mode ≢ modes.Primary → IsKeptPacket parts (record q { place = hop.next })
      on_color color mode other' =
          let left = left_now color q rows kept going other' in
          color_kept parts are color q left hop kept
          (step_on parts are color q kept going left hop (color_hop_of parts color q.mode q.place q.to hop mode is)) other

      go : (mode : Mode) → q.mode ≡ mode → IsHop parts mode q.place q.to hop → IsKeptPacket parts (record q { place = hop.next })
      go modes.Primary mode is =
          let near = nearer_hop parts are q.place q.to hop (kept.router going) is in
          moved_kept parts are q hop kept near.within (λ color. absurd (color mode)) (router_there parts are q.to hop.next near.ends other) other
      go (modes.Entered color) mode is = on_color color (inl mode) (λ primary. cc)
      go (modes.Switched color) mode is = on_color color (inr mode) (λ primary. cc)
  kept_next q r rows kept going (ByArrival hop is here same) =
      subst (λ (p : Packet). IsKeptPacket parts p) (sym same) (delivered_kept parts are q kept)
  kept_next q r rows kept going (ByLoss loss same) = subst (λ (p : Packet). IsKeptPacket parts p) (sym same) (ended_kept parts are q kept loss)
  kept_next q r rows kept going (BySwitch color primary place to same) =
      subst (λ (p : Packet). IsKeptPacket parts p) (sym same) (switched_kept parts are q color kept place to)

-- the node in an outcome is a node of the area
pub outcome_tellable : (parts : FabricParts) → ArePartsKept parts → (failure : Option Failure) (q : Packet) → AreRowsFor parts q.to → IsKeptPacket parts q → q.state ≡ states.Going
    → (outcome : Outcome) → IsHandled parts failure q outcome → IsTellable parts.area.ids (Ok outcome)
outcome_tellable parts are failure q rows kept going outcome handled =
    go outcome (kept_next parts are q (packet_after outcome q) rows kept going (next_of parts failure q outcome handled))
  where
    go : (o : Outcome) → IsKeptPacket parts (packet_after o q) → IsTellable parts.area.ids (Ok o)
    go (outcomes.Entered number) after = tt
    go (outcomes.Moved x) after = after.place
    go (outcomes.Switched color) after = tt
    go (outcomes.Delivered x) after = after.place
    go (outcomes.Lost loss) after = tt
    go outcomes.Failed after = tt
