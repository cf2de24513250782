-- What the area does not have is refused.
use Rattle.std.proofs.Common.{◌≡◌, ◌<◌, ◌∙◌, ◌↔◌, ℕ, false, Option, Some, None, Err, Contains, ap, arith, length, refl}
use Rattle.std.specs.Prelude.{IsNone}
use Rattle.std.specs.Option.{unwrap_or}
use Rattle.std.proofs.lemmas.Bool.{false_from_ne_true}
use Rattle.area_graph.proofs.Naming.{none_named}
use Rattle.mrt_graph.proofs.IdPlaces.{contained_by_number}
use Rattle.area_graph.specs.Named.{IsNamed, bond_named}
use Rattle.mrt_graph.specs.NodeIds.{number_of, router}
use Rattle.area_graph.specs.Parts.{AreaParts}
use Rattle.area_graph.specs.declared.area_types.Arc.{Arc}
use Rattle.fabric.specs.Answers.{HasElement, IsAnswer, MayEnter}
use Rattle.fabric.specs.declared.event.Refused.TheVariants.{NoSuchPlace}
use Rattle.fabric_script.specs.declared.entry.Entry.{Entry}
use Rattle.fabric.specs.FabricParts.{FabricParts}
use Rattle.fabric.specs.FabricState.{Answer, FabricState, state_after}
use Rattle.fabric.specs.Runs.{FabricStep}
use Rattle.fabric_script.specs.declared.event.FailureName.{FailureName}
use Rattle.fabric_script.specs.declared.event.FailureName.TheVariants.{Link, Node}
use Rattle.fabric_script.specs.declared.event.ScriptEvent.{ScriptEvent}
use Rattle.fabric_script.specs.declared.event.ScriptEvent.TheVariants.{Fail, Inject, Step}
use Rattle.fabric.specs.NamedEvents.{AreThere, HasNamed, bond_of, event_of, failure_of, spot_of}
use Rattle.mrt_graph.specs.declared.node_id.NodeId.{NodeId}
use Rattle.primary_alt.proofs.RouterFacts.{router_within}

-- a number that names have is that of a node that is there
node_there : (area : AreaParts) (id : NodeId) → spot_of area id < length area.ids → Contains area.ids id
node_there area id within = go (number_of area.ids id) refl within
  where
    go : (place : Option ℕ) → number_of area.ids id ≡ place → unwrap_or place (length area.ids) < length area.ids → Contains area.ids id
    go None is within = absurd (omega (arith, within))
    go (Some s) is within = contained_by_number area.ids id s is

-- and of a link
link_there : (area : AreaParts) (number link_data : ℕ) → ((arc : Arc) → IsNamed area number link_data arc → ⊥)
    → bond_of area number link_data < length area.bonds → ⊥
link_there area number link_data none within = go (bond_named area number link_data) ((none_named area number link_data (bond_named area number link_data) refl).1 none) within
  where
    go : (bond : Option ℕ) → IsNone bond → unwrap_or bond (length area.bonds) < length area.bonds → ⊥
    go None none within = omega (arith, within)
    go (Some b) none within = cc

may_not : (parts : FabricParts) (number : ℕ) (to : NodeId) (entry : Entry) → ¬ AreThere parts.area (Inject number to entry)
    → ¬ MayEnter parts.area parts.island (spot_of parts.area (router number)) (spot_of parts.area to) entry
may_not parts number to entry none = λ may.
    none (
      node_there parts.area (router number) (router_within parts.area.ids (spot_of parts.area (router number)) may.router),
      node_there parts.area to may.destination,
    )

not_element : (parts : FabricParts) (failed : FailureName) → ¬ HasNamed parts.area failed → ¬ HasElement parts.area (failure_of parts.area failed)
not_element parts (Node id) none = λ within. none (node_there parts.area id within)
not_element parts (Link number link_data) none =
    λ within. link_there parts.area number link_data (λ arc named. none (arc, named)) within

only_answer : (parts : FabricParts) (old : FabricState) (event : ScriptEvent) (answer : Answer) → ¬ AreThere parts.area event
    → IsAnswer parts old (event_of parts.area event) answer → answer ≡ Err NoSuchPlace
only_answer parts old (Inject number to entry) answer none is =
    is.is ∙ (rw (false_from_ne_true is.may (λ may. may_not parts number to entry none (is.may_is.0 may))) refl)
only_answer parts old (Step packet) answer none is = absurd (none tt)
only_answer parts old (Fail failed) answer none is = is.is ∙ (rw (false_from_ne_true is.has (λ has. not_element parts failed none (is.has_is.0 has))) refl)

refused_answer : (parts : FabricParts) (old : FabricState) (event : ScriptEvent) → ¬ AreThere parts.area event → IsAnswer parts old (event_of parts.area event) (Err NoSuchPlace)
refused_answer parts old (Inject number to entry) none = record { may = false; may_is = (λ holds. cc, λ may. absurd (may_not parts number to entry none may)); is = refl }
refused_answer parts old (Step packet) none = absurd (none tt)
refused_answer parts old (Fail failed) none = record { has = false; has_is = (λ holds. cc, λ has. absurd (not_element parts failed none has)); is = refl }

pub refused : (parts : FabricParts) (old new : FabricState) (event : ScriptEvent) (answer : Answer) → ¬ AreThere parts.area event
    → FabricStep parts old (event_of parts.area event) answer new ↔ ((answer ≡ Err NoSuchPlace) × (new ≡ old))
refused parts old new event answer none = (
  λ step.
      let is = only_answer parts old event answer none step.answers in (is, step.after ∙ ap (λ (a : Answer). state_after old (event_of parts.area event) a) is),
  λ is. rw (is.0, is.1) (record { answers = refused_answer parts old event none; after = refl }),
)
