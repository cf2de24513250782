-- A step of a packet has one outcome, and an event has one answer.
use Rattle.std.proofs.Common.{◌≡◌, ◌∙◌, Bool, List, [], ◌∷◌, Option, Some, None, Ok, length, slice_get, inl, inr, refl, sym, ap, subst}
use Rattle.std.specs.Prelude.{nat_lt}
use Rattle.std.proofs.lemmas.Bool.{cases_Bool}
use Rattle.std.proofs.lemmas.Bool.Decides.{same_from_decides}
use Rattle.fabric.specs.Answers.{Answered, HasEnded, IsAnswer, IsStepAnswer, NoPacket, fail_answer, inject_answer}
use Rattle.fabric.specs.FabricParts.{ArePartsKept, FabricParts}
use Rattle.fabric.specs.FabricState.{Answer, FabricState, state_after}
use Rattle.fabric.specs.Runs.{IsRun}
use Rattle.fabric.specs.Handling.{IsHandled, handled, has_failed}
use Rattle.fabric.specs.declared.event.Event.{Event}
use Rattle.fabric.specs.declared.event.Event.TheVariants.{Fail, Inject, Step}
use Rattle.fabric.specs.declared.event.Failure.{Failure}
use Rattle.fabric.specs.declared.event.Outcome.{Outcome}
use Rattle.fabric.specs.declared.next_hop.NextHop.{NextHop}
use Rattle.fabric.specs.declared.packet.Packet.{Packet}
use Rattle.fabric.proofs.OneHop.{one_hop_or_none, one_repair}

pub one_outcome : (parts : FabricParts) → ArePartsKept parts → (failure : Option Failure) (q : Packet) (outcome other : Outcome) → IsHandled parts failure q outcome → IsHandled parts failure q other
    → outcome ≡ other
one_outcome parts are failure q outcome other is is' = elim (cases_Bool (has_failed failure q.place)) [
  | inl inside ↦ (rw inside at is.is) ∙ sym (rw inside at is'.is)
  | inr stands ↦
      is.is
      ∙ ap (λ (h : Option NextHop). handled failure q (has_failed failure q.place) h is.repair)
      (one_hop_or_none parts are q.mode q.place q.to is.hop is'.hop (is.hop_is stands) (is'.hop_is stands))
      ∙ ap (handled failure q (has_failed failure q.place) is'.hop) (one_repair parts failure q is.repair is'.repair is.repair_is is'.repair_is)
      ∙ sym is'.is
]

module _ (parts : FabricParts) (are : ArePartsKept parts) where
  pub one_step_answer : (failure : Option Failure) (there : Option Packet) (answer other : Answer) → IsStepAnswer parts failure there answer → IsStepAnswer parts failure there other
      → answer ≡ other
  one_step_answer failure None answer other NoPacket NoPacket = refl
  one_step_answer failure (Some q) answer other (HasEnded _ ended) (HasEnded _ ended') = refl
  one_step_answer failure (Some q) answer other (HasEnded _ ended) (Answered _ outcome going is) = absurd (ended going)
  one_step_answer failure (Some q) answer other (Answered _ outcome going is) (HasEnded _ ended) = absurd (ended going)
  one_step_answer failure (Some q) answer other (Answered _ outcome going is) (Answered _ outcome' going' is') =
      ap (λ (o : Outcome). Ok o) (one_outcome parts are failure q outcome outcome' is is')

  pub one_answer : (state : FabricState) (event : Event) (answer other : Answer) → IsAnswer parts state event answer → IsAnswer parts state event other → answer ≡ other
  one_answer state (Inject at to entry) answer other is is' =
      is.is
      ∙ ap (λ (may : Bool). inject_answer may (nat_lt (length state.packets) state.room) (length state.packets)) (same_from_decides is.may is'.may is.may_is is'.may_is)
      ∙ sym is'.is
  one_answer state (Step p) answer other is is' = one_step_answer state.failure (slice_get state.packets p) answer other is is'
  one_answer state (Fail failed) answer other is is' =
      is.is ∙ ap (λ (has : Bool). fail_answer has state.failure) (same_from_decides is.has is'.has is.has_is is'.has_is) ∙ sym is'.is

  pub one_run : (state : FabricState) (events : List Event) (answers others : List Answer) (end other : FabricState) → IsRun parts state events answers end
      → IsRun parts state events others other → (answers ≡ others) × (end ≡ other)
  one_run state [] [] [] end other run run' = (refl, run ∙ sym run')
  one_run state [] [] (b ∷ others) end other run run' = absurd run'
  one_run state [] (a ∷ answers) others end other run run' = absurd run
  one_run state (event ∷ events) [] others end other run run' = absurd run
  one_run state (event ∷ events) (a ∷ answers) [] end other run run' = absurd run'
  one_run state (event ∷ events) (a ∷ answers) (b ∷ others) end other run run' =
      let same : a ≡ b = one_answer state event a b run.1.answers run'.1.answers in
      let next : run.0 ≡ run'.0 = run.1.after ∙ ap (λ (x : Answer). state_after state event x) same ∙ sym run'.1.after in
      let rest = one_run run'.0 events answers others end other (subst (λ (s : FabricState). IsRun parts s events answers end) next run.2) run'.2 in
      (ap (λ (x : Answer). x ∷ answers) same ∙ ap (λ (xs : List Answer). b ∷ xs) rest.0, rest.1)
