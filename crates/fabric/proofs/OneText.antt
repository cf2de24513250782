-- There is one text of a run.
use Rattle.std.proofs.Common.{◌≡◌, ◌∙◌, ◌<◌, ℕ, List, Some, ap, map, subst, sym, arith, inl, inr}
use Rattle.std.proofs.lemmas.Bool.{cases_lt}
use Rattle.std.proofs.lemmas.Option.{same_Some}
use Rattle.fabric.specs.declared.event.Event.{Event}
use Rattle.fabric.specs.FabricParts.{ArePartsKept, FabricParts}
use Rattle.fabric.specs.FabricState.{Answer, FabricState, start}
use Rattle.fabric.specs.OutcomeText.{run_text}
use Rattle.fabric.specs.Runs.{IsRun}
use Rattle.fabric_script.specs.declared.script.Script.{Script}
use Rattle.fabric_script.specs.declared.trace.Trace.{Trace}
use Rattle.fabric.specs.NamedEvents.{event_of}
use Rattle.fabric.specs.RunTexts.{IsScriptText, IsTraceText}
use Rattle.fabric.specs.Trace.{AreUntilEnd, HasEnded, IsTraced, beginning, then_steps}

-- the law of the layer below
pub record RunLaws : Type 0 where
  pub one_run : (parts : FabricParts) → ArePartsKept parts → (state : FabricState) (events : List Event)
      (answers others : List Answer) (end other : FabricState) → IsRun parts state events answers end
      → IsRun parts state events others other → (answers ≡ others) × (end ≡ other)

one_spelling : (parts : FabricParts) (answers others : List Answer) (text other : List ℕ) → answers ≡ others
    → run_text parts.area.ids answers ≡ Some text → run_text parts.area.ids others ≡ Some other → text ≡ other
one_spelling parts answers others text other same one two =
    same_Some text other (sym one ∙ ap (run_text parts.area.ids) same ∙ two)

module _ (laws : RunLaws) (parts : FabricParts) (kept : ArePartsKept parts) where
  pub one_script_text : (script : Script) (text other : List ℕ) → IsScriptText parts script text
      → IsScriptText parts script other → text ≡ other
  one_script_text script text other one two =
      let same = laws.one_run parts kept (start script.room) (map (event_of parts.area) script.events) one.answers
      two.answers one.end two.end one.run two.run in
      one_spelling parts one.answers two.answers text other same.0 one.spelled two.spelled

  -- the same steps give the same answers, and of two counts neither is the lower one
  no_fewer : (old : FabricState) (events : List Event) (answers others : List Answer) (one : AreUntilEnd parts old events answers)
      (two : AreUntilEnd parts old events others) → one.count < two.count → ⊥
  no_fewer old events answers others one two less =
      let at = two.not_before one.count less in
      let same = laws.one_run parts kept old (then_steps events one.count) at.answers answers at.state one.end at.run one.run in
      at.going (subst HasEnded (sym same.1) one.ended)

  one_count : (old : FabricState) (events : List Event) (answers others : List Answer) (one : AreUntilEnd parts old events answers)
      (two : AreUntilEnd parts old events others) → one.count ≡ two.count
  one_count old events answers others one two = elim (cases_lt one.count two.count) [
    | inl less ↦ absurd (no_fewer old events answers others one two less)
    | inr most ↦ elim (cases_lt two.count one.count) [
      | inl less ↦ absurd (no_fewer old events others answers two one less)
      | inr least ↦ omega (arith, most, least)
    ]
  ]

  one_trace : (trace : Trace) (answers others : List Answer) → IsTraced parts trace answers → IsTraced parts trace others
      → answers ≡ others
  one_trace trace answers others one two =
      let events = beginning parts.area trace in
      let same = one_count (start 1) events answers others one two in
      (laws.one_run parts kept (start 1) (then_steps events two.count) answers others one.end two.end
      (subst (λ (n : ℕ). IsRun parts (start 1) (then_steps events n) answers one.end) same one.run) two.run).0

  pub one_trace_text : (trace : Trace) (text other : List ℕ) → IsTraceText parts trace text
      → IsTraceText parts trace other → text ≡ other
  one_trace_text trace text other one two =
      one_spelling parts one.answers two.answers text other
      (one_trace trace one.answers two.answers one.traced two.traced) one.spelled two.spelled
