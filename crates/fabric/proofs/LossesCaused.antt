-- Each loss of a packet comes exactly where its cause stands.
use Rattle.std.proofs.Common.{◌≡◌, ◌≢◌, ◌∙◌, ℕ, true, List, Option, Some, None, Ok, length, slice_get, inl, refl, sym, ap, subst}
use Rattle.std.specs.Option.{option_map}
use Rattle.std.proofs.lemmas.Bool.{false_from_ne_true}
use Rattle.std.proofs.lemmas.Option.{same_Some}
use Rattle.fabric.specs.Answers.{Answered, HasEnded as EndedBefore, IsStepAnswer, NoPacket}
use Rattle.fabric.specs.Causes.{Cause, IsCut, IsCutOff, IsOnWalk, IsSeparated, LossCauses}
use Rattle.fabric.specs.FabricParts.{ArePartsKept, AreRowsFor, FabricParts, element_of, link_at, node_at}
use Rattle.fabric.specs.FabricState.{Answer, FabricState, start}
use Rattle.fabric.specs.Runs.{FabricStep, IsRun}
use Rattle.fabric.specs.Handling.{IsHandled, IsInside, IsOutside, IsRepair, has_failed, repaired, sent}
use Rattle.fabric.specs.Served.{AreRowsOn}
use Rattle.fabric.specs.Course.{steps_of}
use Rattle.fabric.specs.declared.event.Event.{Event}
use Rattle.fabric.specs.declared.event.Event.TheVariants.{Step}
use Rattle.fabric.specs.declared.event.Failure.{Failure}
use Rattle.fabric.specs.declared.event.Failure.TheVariants as failures
use Rattle.fabric.specs.declared.event.Outcome.{Outcome}
use Rattle.fabric.specs.declared.event.Outcome.TheVariants.{Lost}
use Rattle.fabric.specs.declared.packet.Loss.{Loss}
use Rattle.fabric.specs.declared.packet.Loss.TheVariants.{ColorCut, Inside, IsDestination, NoAlternate, NoRoute, Outside}
use Rattle.fabric.specs.declared.packet.Mode.{Mode}
use Rattle.fabric.specs.declared.packet.Mode.TheVariants as modes
use Rattle.fabric.specs.declared.packet.Packet.{Packet}
use Rattle.fabric.specs.declared.packet.State.TheVariants as states
use Rattle.fabric.proofs.ColorHops.{on_ahead}
use Rattle.fabric.proofs.ColorWays.{on_walk}
use Rattle.fabric.proofs.Islands.{node_within, one_spot}
use Rattle.fabric.proofs.Life.{HasEnded, Life, Lives, OnEntered, OnPrimary, OnSwitched, color_hop_of, step_on, switched_stays}
use Rattle.fabric.proofs.OneHop.{one_hop_or_none, one_repair}
use Rattle.fabric.proofs.Outcomes.{Arrives, Becomes, IsLost, IsSwitched, Moves, Why, becomes, failed_is}
use Rattle.fabric.proofs.PacketChains.{left_now}
use Rattle.fabric.proofs.RunLives.{IsAt, Living, Unmade, run_lives}
use Rattle.fabric.proofs.AcceptedRows.{sound_for}
use Rattle.mrt_graph.specs.Alternate.{AtEnd, IsAlternate, OnBoth}
use Rattle.mrt_graph.specs.Separates.{IsNeitherEnd}
use Rattle.mrt_graph.specs.Sound.{SoundFor}
use Rattle.mrt_graph.specs.declared.cert.Color.{Color}
use Rattle.mrt_graph.specs.declared.link.Element.{Element}
use Rattle.mrt_graph.specs.declared.link.Element.TheVariants as elements

module _ (parts : FabricParts) (are : ArePartsKept parts) (failure : Option Failure) (q : Packet) (rows : AreRowsFor parts q.to) (steps : ℕ) (lives : Lives parts failure q steps) (going : q.state ≡ states.Going) where
  -- a switched packet is not lost, so that a packet on a color that is lost entered on it
  entered_on : (mode : Mode) → q.mode ≡ mode → mode ≢ modes.Primary → IsCutOff parts failure q → (color : Color) × (q.mode ≡ modes.Entered color)
  entered_on modes.Primary is color off = absurd (color refl)
  entered_on (modes.Entered c) is color off = (c, is)
  entered_on (modes.Switched c) is color off = absurd (go lives.life)
    where
      go : Life parts failure q steps → ⊥
      go (HasEnded ended few never) = ended going
      go (OnPrimary visited mode going' differ below count farther) = cc
      go (OnEntered c' mode going' left few) = cc
      go (OnSwitched c' mode going' left few avoids) = switched_stays parts are c' failure q left lives.kept going mode avoids ColorCut (λ primary. cc, off)

  -- what fails is neither the place nor the destination
  neither : (n d : ℕ) → node_at parts q.place ≡ Some n → node_at parts q.to ≡ Some d → failure ≢ Some (failures.Node q.place) → failure ≢ Some (failures.Node q.to) → (x : Element)
      → element_of parts failure ≡ Some x → IsNeitherEnd x n d
  neither n d at to stands other (elements.Link e) is = tt
  neither n d at to stands other (elements.Node y) is = (λ same. stands (failed q.place (at ∙ ap (λ (v : ℕ). Some v) (sym same))), λ same. other (failed q.to (to ∙ ap (λ (v : ℕ). Some v) (sym same))))
    where
      -- the node that has failed is the one that y is
      node_is : (s : ℕ) (o : Option ℕ) → node_at parts s ≡ o → option_map (λ n. elements.Node n) o ≡ Some (elements.Node y) → node_at parts s ≡ Some y
      node_is s None there e = cc
      node_is s (Some k) there e = there ∙ (let same : elements.Node k ≡ elements.Node y = same_Some _ _ e in cc)

      link_is : (o : Option ℕ) → option_map (λ e. elements.Link e) o ≡ Some (elements.Node y) → ⊥
      link_is None e = cc
      link_is (Some k) e = cc

      go : (o : Option Failure) → element_of parts o ≡ Some (elements.Node y) → (v : ℕ) → node_at parts v ≡ Some y → o ≡ Some (failures.Node v)
      go None is v there = cc
      go (Some (failures.Bond b)) is v there = absurd (link_is (link_at parts b) is)
      go (Some (failures.Node s)) is v there = ap (λ (k : ℕ). Some (failures.Node k)) (one_spot parts are s v y (node_is s (node_at parts s) refl is) there)

      failed : (v : ℕ) → node_at parts v ≡ Some y → failure ≡ Some (failures.Node v)
      failed = go failure is

  sound : (n d : ℕ) → node_at parts q.place ≡ Some n → node_at parts q.to ≡ Some d → SoundFor parts.island.links (length parts.island.ids) parts.rows n d
  sound n d at to =
      sound_for parts n d (rows d to) (node_within parts are q.place n at) (node_within parts are q.to d to)
      (λ same. lives.kept.apart going (one_spot parts are q.place q.to d (at ∙ ap (λ (v : ℕ). Some v) same) to))

  separated : IsCutOff parts failure q → IsRepair parts failure q (Some None) → IsSeparated parts failure q
  separated off (IsInside at to _ place destination is) = go (element_of parts failure) refl is
    where
      go : (o : Option Element) → element_of parts failure ≡ o → IsAlternate parts.island.links (length parts.island.ids) parts.rows at to o None → IsSeparated parts failure q
      go None failed is = elim is [ ]
      go (Some _) failed (AtEnd x end) = absurd (end (neither at to place destination off.0.stands off.1 x failed))
      go (Some _) failed (OnBoth x between blue red) = record {
        at = at;
        to = to;
        inside = record { place = place; destination = destination };
        x = x;
        failed = failed;
        separates = (sound at to place destination).apart x between blue red;
      }

  unrepaired : IsSeparated parts failure q → IsRepair parts failure q (Some None)
  unrepaired is =
      let both = sound is.at is.to is.inside.place is.inside.destination in
      IsInside is.at is.to None is.inside.place is.inside.destination
      (rw is.failed (OnBoth is.x is.separates.between (is.separates.on_every_walk _ both.blue.ends_at_t) (is.separates.on_every_walk _ both.red.ends_at_t)))

  -- what cuts the hop of a packet that entered on a color is on the color's walk
  used : IsCutOff parts failure q → (color : Color) → q.mode ≡ modes.Entered color → IsOnWalk parts failure q color
  used off color mode =
      let left = left_now parts are color q rows lives.kept going (λ primary. cc) in
      let ahead = (step_on parts are color q lives.kept going left off.0.hop (color_hop_of parts color q.mode q.place q.to off.0.hop (inl mode) off.0.is)).ahead failure off.0.cut in
      record {
        at = left.n;
        to = left.d;
        inside = record { place = left.at; destination = left.to };
        x = ahead.x;
        failed = ahead.is;
        uses = on_walk parts are color left.d left.n left.hops (node_within parts are q.place left.n left.at) left.follows left.differ ahead.x (on_ahead left.n left.hops ahead.x ahead.ahead);
      }

  -- the tables' reasons are the causes
  cause : (loss : Loss) → Why parts failure q loss → Cause parts failure q loss
  cause Inside why = why
  cause NoRoute why = why
  cause IsDestination why = why
  cause ColorCut why = (entered_on q.mode refl why.0 why.1, why.1)
  cause Outside (primary, off, IsOutside out) = (primary, off, out)
  cause NoAlternate why = (why.0, why.1, separated why.1 why.2)

  module _ (outcome : Outcome) (is : IsHandled parts failure q outcome) where
    why_lost : (loss : Loss) → outcome ≡ Lost loss → Why parts failure q loss
    why_lost loss = go (becomes parts failure q outcome is)
      where
        go : {o : Outcome} → Becomes parts failure q o → o ≡ Lost loss → Why parts failure q loss
        go (Moves hop is other) lost = cc
        go (Arrives hop is here) lost = cc
        go (IsLost l why) lost = subst (λ (x : Loss). Why parts failure q x) (cc) why
        go (IsSwitched color primary off by) lost = cc

    at_cut : (at : IsCut parts failure q) → outcome ≡ sent q at.hop true (has_failed failure q.to) is.repair
    at_cut at =
        let stands = false_from_ne_true (has_failed failure q.place) (λ failed. at.stands ((failed_is failure q.place).0 failed)) in
        is.is ∙ (rw (stands, one_hop_or_none parts are q.mode q.place q.to is.hop (Some at.hop) (is.hop_is stands) at.is, at.cut) refl)

    cut_off : IsCutOff parts failure q → outcome ≡ repaired q.mode is.repair
    cut_off off = at_cut off.0 ∙ (rw (false_from_ne_true (has_failed failure q.to) (λ failed. off.1 ((failed_is failure q.to).0 failed))) refl)

    repair_is : (repair : Option (Option Color)) → IsRepair parts failure q repair → is.repair ≡ repair
    repair_is repair by = one_repair parts failure q is.repair repair is.repair_is by

    lost : (loss : Loss) → Cause parts failure q loss → outcome ≡ Lost loss
    lost Inside at = is.is ∙ (rw ((failed_is failure q.place).1 at) refl)
    lost NoRoute (primary, apart, none) =
        let stands = false_from_ne_true (has_failed failure q.place) (λ at. apart ((failed_is failure q.place).0 at)) in
        is.is ∙ (rw (stands, one_hop_or_none parts are q.mode q.place q.to is.hop None (is.hop_is stands) (primary, none)) refl)
    lost IsDestination (at, destination) = at_cut at ∙ (rw ((failed_is failure q.to).1 destination) refl)
    lost ColorCut (entered, off) = cut_off off ∙ (rw entered.1 refl)
    lost Outside (primary, off, out) = cut_off off ∙ (rw (primary, repair_is None (IsOutside out)) refl)
    lost NoAlternate (primary, off, separates) = cut_off off ∙ (rw (primary, repair_is (Some None) (unrepaired separates)) refl)

    pub caused : LossCauses parts failure q outcome
    caused = record {
      each = λ loss. (λ is. cause loss (why_lost loss is), lost loss);
      color_used = λ is color mode. used (why_lost ColorCut is).1 color mode;
    }

-- a step that is answered handles a packet that is going
handled_by : (parts : FabricParts) (failure : Option Failure) (there : Option Packet) (packet : Packet) (answer : Answer) (outcome : Outcome) → there ≡ Some packet
    → answer ≡ Ok outcome → IsStepAnswer parts failure there answer → (packet.state ≡ states.Going) × IsHandled parts failure packet outcome
handled_by parts failure there packet answer outcome is same NoPacket = cc
handled_by parts failure there packet answer outcome is same (EndedBefore q ended) = cc
handled_by parts failure there packet answer outcome is same (Answered q other going handled) =
    let here : q ≡ packet = same_Some q packet is in
    let one : other ≡ outcome = cc in (
      ap (λ (x : Packet). x.state) (sym here) ∙ going,
      subst (λ (x : Packet). IsHandled parts failure x outcome) here (subst (λ (o : Outcome). IsHandled parts failure q o) one handled),
    )

-- in each run from the start
pub run_caused : (parts : FabricParts) → ArePartsKept parts → (room : ℕ) (events : List Event) (answers : List Answer) (end : FabricState) → AreRowsOn parts events → IsRun parts (start room) events answers end
    → (p : ℕ) (packet : Packet) → slice_get end.packets p ≡ Some packet → (outcome : Outcome) (new : FabricState) → FabricStep parts end (Step p) (Ok outcome) new
    → LossCauses parts end.failure packet outcome
run_caused parts are room events answers end on run p packet there outcome new step = go (run_lives parts are room events answers end on run p)
  where
    by : (packet.state ≡ states.Going) × IsHandled parts end.failure packet outcome
    by = handled_by parts end.failure (slice_get end.packets p) packet (Ok outcome) outcome there refl step.answers

    go : IsAt parts p end (steps_of p events answers) → LossCauses parts end.failure packet outcome
    go (Unmade none count) = cc
    go (Living q is has_rows lives) =
        let same : q ≡ packet = same_Some _ _ (sym is ∙ there) in
        caused parts are end.failure packet (subst (λ (x : Packet). AreRowsFor parts x.to) same has_rows) (steps_of p events answers) (subst (λ (x : Packet). Lives parts end.failure x (steps_of p events answers)) same lives) by.0 outcome by.1
