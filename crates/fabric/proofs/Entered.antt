-- What holds of the destination of each packet that enters.
use Rattle.std.proofs.Common.{◌≡◌, ◌++◌, ℕ, zero, suc, List, [], ◌∷◌, Option, Some, None, inl, inr, replicate, subst}
use Rattle.std.specs.Prelude.{Contains}
use Rattle.std.proofs.lemmas.List.Elements.{Contains-append_cases}
use Rattle.mrt_graph.specs.NodeIds.{router}
use Rattle.area_graph.specs.Parts.{AreaParts}
use Rattle.fabric.specs.declared.event.Event.{Event}
use Rattle.fabric.specs.declared.event.Event.TheVariants.{Inject, Step}
use Rattle.fabric_script.specs.declared.entry.Entry.{Entry}
use Rattle.fabric.specs.NamedEvents.{event_of, spot_of}
use Rattle.fabric.specs.Trace.{beginning, failures_of, then_steps}
use Rattle.fabric_script.specs.declared.event.FailureName.{FailureName}
use Rattle.fabric_script.specs.declared.event.ScriptEvent.TheVariants as said
use Rattle.fabric_script.specs.declared.trace.Trace.{Trace}
use Rattle.mrt_graph.proofs.Members.{contains_cases, contains_none}

-- it holds of the destination of each packet that enters by one of the events
abbrev pub EachEntered : (ℕ → Type 0) → List Event → Type 0
EachEntered P events = (at to : ℕ) (entry : Entry) → Contains events (Inject at to entry) → P to

module _ (P : ℕ → Type 0) where
  pub none_entered : EachEntered P []
  none_entered at to entry among = absurd (contains_none (Inject at to entry) among)

  -- of the first event and of the others
  pub first_entered : (event : Event) (events : List Event) → ((at to : ℕ) (entry : Entry) → Inject at to entry ≡ event → P to)
      → EachEntered P events → EachEntered P (event ∷ events)
  first_entered event events here each at to entry among = elim (contains_cases event (Inject at to entry) events among) [
    | inl same ↦ here at to entry same
    | inr later ↦ each at to entry later
  ]

  both_entered : (events others : List Event) → EachEntered P events → EachEntered P others → EachEntered P (events ++ others)
  both_entered events others each each' at to entry among = elim (Contains-append_cases events others (Inject at to entry) among) [
    | inl front ↦ each at to entry front
    | inr back ↦ each' at to entry back
  ]

  -- by a step and by a failure none enters
  steps_entered : (count : ℕ) → EachEntered P (replicate count (Step 0))
  steps_entered zero = none_entered
  steps_entered (suc count) = first_entered (Step 0) (replicate count (Step 0)) (λ at to entry same. cc) (steps_entered count)

  failures_entered : (area : AreaParts) (failed : Option FailureName) → EachEntered P (failures_of area failed)
  failures_entered area None = none_entered
  failures_entered area (Some name) = first_entered (event_of area (said.Fail name)) [] (λ at to entry same. cc) none_entered

  pub then_steps_entered : (events : List Event) (count : ℕ) → EachEntered P events → EachEntered P (then_steps events count)
  then_steps_entered events count each = both_entered events (replicate count (Step 0)) each (steps_entered count)

  -- before the steps of a trace its packet
  pub beginning_entered : (area : AreaParts) (trace : Trace) → P (spot_of area trace.to) → EachEntered P (beginning area trace)
  beginning_entered area trace holds =
      both_entered (failures_of area trace.failed) (event_of area (said.Inject trace.from trace.to trace.entry) ∷ [])
      (failures_entered area trace.failed)
      (first_entered (event_of area (said.Inject trace.from trace.to trace.entry)) [] here none_entered)
    where
      here : (at to : ℕ) (entry : Entry) → Inject at to entry ≡ Inject (spot_of area (router trace.from)) (spot_of area trace.to) trace.entry → P to
      here at to entry same = let to_is : spot_of area trace.to ≡ to = cc in subst P to_is holds
