-- What becomes of a packet that is handled, and why it is lost.
use Rattle.std.proofs.Common.{◌≡◌, ◌≢◌, ℕ, Bool, true, false, Option, Some, None, inl, inr, refl, sym, ap, subst}
use Rattle.std.specs.Prelude.{◌↔◌, IsTrue}
use Rattle.std.proofs.lemmas.Bool.{cases_eq, eq-eqb, eqb-true, iff_false, ne_eqb}
use Rattle.fabric.specs.Causes.{IsCut, IsCutOff}
use Rattle.fabric.specs.FabricParts.{FabricParts}
use Rattle.fabric.specs.Handling.{IsHandled, IsHopOrNone, IsRepair, IsUnreachable, handled, has_failed, repaired, sent}
use Rattle.fabric.specs.PacketHop.{IsHop, cuts}
use Rattle.fabric.specs.declared.event.Failure.{Failure}
use Rattle.fabric.specs.declared.event.Failure.TheVariants as failures
use Rattle.fabric.specs.declared.event.Outcome.{Outcome}
use Rattle.fabric.specs.declared.event.Outcome.TheVariants.{Delivered, Lost, Moved, Switched}
use Rattle.fabric.specs.declared.next_hop.NextHop.{NextHop}
use Rattle.fabric.specs.declared.packet.Loss.{Loss}
use Rattle.fabric.specs.declared.packet.Loss.TheVariants.{ColorCut, Inside, IsDestination, NoAlternate, NoRoute, Outside}
use Rattle.fabric.specs.declared.packet.Mode.{Mode}
use Rattle.fabric.specs.declared.packet.Mode.TheVariants as modes
use Rattle.fabric.specs.declared.packet.Packet.{Packet}
use Rattle.mrt_graph.specs.declared.cert.Color.{Color}

-- what the test of a failed node tells
pub failed_is : (failure : Option Failure) (v : ℕ) → IsTrue (has_failed failure v) ↔ (failure ≡ Some (failures.Node v))
failed_is None v = (λ holds. cc, λ is. cc)
failed_is (Some (failures.Bond b)) v = (λ holds. cc, λ is. cc)
failed_is (Some (failures.Node s)) v = (λ holds. ap (λ (y : ℕ). Some (failures.Node y)) (eqb-true s v holds), λ is. eq-eqb s v (cc))

-- why a packet is lost, as the tables say it
abbrev pub Why : FabricParts → Option Failure → Packet → Loss → Type 0
Why parts failure q Inside = failure ≡ Some (failures.Node q.place)
Why parts failure q NoRoute = (q.mode ≡ modes.Primary) × (failure ≢ Some (failures.Node q.place)) × IsUnreachable parts.area q.place q.to
Why parts failure q IsDestination = IsCut parts failure q × (failure ≡ Some (failures.Node q.to))
Why parts failure q ColorCut = (q.mode ≢ modes.Primary) × IsCutOff parts failure q
Why parts failure q Outside = (q.mode ≡ modes.Primary) × IsCutOff parts failure q × IsRepair parts failure q None
Why parts failure q NoAlternate = (q.mode ≡ modes.Primary) × IsCutOff parts failure q × IsRepair parts failure q (Some None)

-- it moves, it is delivered, it is lost, or it is switched
pub data Becomes (parts : FabricParts) (failure : Option Failure) (q : Packet) : Outcome → Type 0 where
  Moves : (hop : NextHop) → IsHop parts q.mode q.place q.to hop → hop.next ≢ q.to → Becomes parts failure q (Moved hop.next)
  Arrives : (hop : NextHop) → IsHop parts q.mode q.place q.to hop → hop.next ≡ q.to → Becomes parts failure q (Delivered q.to)
  IsLost : (loss : Loss) → Why parts failure q loss → Becomes parts failure q (Lost loss)
  IsSwitched : (color : Color) → q.mode ≡ modes.Primary → IsCutOff parts failure q → IsRepair parts failure q (Some (Some color)) → Becomes parts failure q (Switched color)

module _ (parts : FabricParts) (failure : Option Failure) (q : Packet) where
  after_cut : (mode : Mode) (repair : Option (Option Color)) → q.mode ≡ mode → IsCutOff parts failure q → IsRepair parts failure q repair → Becomes parts failure q (repaired mode repair)
  after_cut (modes.Entered color) repair is off by = IsLost ColorCut (λ primary. cc, off)
  after_cut (modes.Switched color) repair is off by = IsLost ColorCut (λ primary. cc, off)
  after_cut modes.Primary None is off by = IsLost Outside (is, off, by)
  after_cut modes.Primary (Some None) is off by = IsLost NoAlternate (is, off, by)
  after_cut modes.Primary (Some (Some color)) is off by = IsSwitched color is off by

  with_hop : (hop : NextHop) (cut ended : Bool) (repair : Option (Option Color)) → IsHop parts q.mode q.place q.to hop → has_failed failure q.place ≡ false → cuts failure hop ≡ cut
      → has_failed failure q.to ≡ ended → IsRepair parts failure q repair → Becomes parts failure q (sent q hop cut ended repair)
  with_hop hop false ended repair is stands uncut at by = elim (cases_eq hop.next q.to) [
    | inl here ↦ rw (eq-eqb hop.next q.to here) (Arrives hop is here)
    | inr other ↦ rw (ne_eqb hop.next q.to other) (Moves hop is other)
  ]
  with_hop hop true true repair is stands cut at by =
      IsLost IsDestination (record { stands = iff_false (failed_is failure q.place) stands; hop = hop; is = is; cut = cut }, (failed_is failure q.to).0 at)
  with_hop hop true false repair is stands cut other by =
      after_cut q.mode repair refl (record { stands = iff_false (failed_is failure q.place) stands; hop = hop; is = is; cut = cut }, iff_false (failed_is failure q.to) other) by

  at_place : (failed : Bool) (hop : Option NextHop) (repair : Option (Option Color)) → has_failed failure q.place ≡ failed → (failed ≡ false → IsHopOrNone parts q.mode q.place q.to hop)
      → IsRepair parts failure q repair → Becomes parts failure q (handled failure q failed hop repair)
  at_place true hop repair at is by = IsLost Inside ((failed_is failure q.place).0 at)
  at_place false None repair stands is by = IsLost NoRoute ((is refl).0, iff_false (failed_is failure q.place) stands, (is refl).1)
  at_place false (Some hop) repair stands is by = with_hop hop (cuts failure hop) (has_failed failure q.to) repair (is refl) stands refl refl by

  pub becomes : (outcome : Outcome) → IsHandled parts failure q outcome → Becomes parts failure q outcome
  becomes outcome is = subst (Becomes parts failure q) (sym is.is) (at_place (has_failed failure q.place) is.hop is.repair refl is.hop_is is.repair_is)
