-- Events whose destinations are served.
use Rattle.std.proofs.Common.{◌≡◌, ◌∙◌, ℕ, List, [], ◌∷◌, Option, Some, None, ap, arith, length, refl, subst, sym, inl, inr}
use Rattle.std.specs.Prelude.{Contains}
use Rattle.std.specs.Option.{option_and_then, unwrap_or}
use Rattle.std.proofs.lemmas.Option.{slice_get_past}
use Rattle.mrt_graph.proofs.IdPlaces.{number_found}
use Rattle.mrt_graph.specs.NodeIds.{number_of}
use Rattle.area_graph.specs.Parts.{AreaParts}
use Rattle.fabric.specs.FabricParts.{FabricParts, node_at}
use Rattle.fabric.specs.Served.{AgreeFor, IsEventServed, IsServedBy}
use Rattle.fabric_script.specs.declared.entry.Entry.{Entry}
use Rattle.fabric.specs.Destinations.{AgreeForEvent, AreDestinations, AreServed}
use Rattle.fabric.specs.NamedEvents.{event_of, spot_of}
use Rattle.fabric_script.specs.declared.event.ScriptEvent.{ScriptEvent}
use Rattle.fabric_script.specs.declared.event.ScriptEvent.TheVariants.{Fail, Inject, Step}
use Rattle.mrt_graph.specs.Rows.{Rows}
use Rattle.mrt_graph.specs.declared.node_id.NodeId.{NodeId}
use Rattle.mrt_graph.proofs.Members.{contains_cases, contains_none}
use Rattle.primary_alt.specs.RouteLists.{RouteLists}

-- of one event alone
pub alone_served : (parts : FabricParts) (routes : RouteLists) (event : ScriptEvent) → IsEventServed parts routes (event_of parts.area event) → AreServed parts routes (event ∷ [])
alone_served parts routes event served other among = elim (contains_cases event other [] among) [ inl is ↦ rw is served | inr none ↦ absurd (contains_none other none) ]

-- a name that the area does not have is no destination
outside : (parts : FabricParts) (d : ℕ) → node_at parts (length parts.area.ids) ≡ Some d → ⊥
outside parts d at = none (sym (ap (option_and_then (number_of parts.island.ids)) (slice_get_past parts.area.ids (length parts.area.ids) (omega arith))) ∙ at)
  where
    none : ◌≡◌ {A = Option ℕ} None (Some d) → ⊥
    none e = cc

nowhere : (parts : FabricParts) (routes : RouteLists) → IsServedBy parts routes (length parts.area.ids)
nowhere parts routes = record { rows = λ d at. absurd (outside parts d at); primaries = λ less. absurd (omega (arith, less)) }

-- what holds of all destinations of events, and of the number of none, holds of what each names
all_destinations : (area : AreaParts) (P : ℕ → Type 0) → P (length area.ids) → (events : List ScriptEvent) (spots : List ℕ)
    → AreDestinations area events spots → ((t : ℕ) → Contains spots t → P t)
    → (number : ℕ) (to : NodeId) (entry : Entry) → Contains events (Inject number to entry) → P (spot_of area to)
all_destinations area P none events spots are each number to entry among = go (number_of area.ids to) refl
  where
    go : (place : Option ℕ) → number_of area.ids to ≡ place → P (spot_of area to)
    go None is = subst P (sym (ap (λ (o : Option ℕ). unwrap_or o (length area.ids)) is)) none
    go (Some t) is =
        subst P (sym (ap (λ (o : Option ℕ). unwrap_or o (length area.ids)) is))
        (each t ((are.all t).1 (record { event = Inject number to entry; among = among; enters = number_found area.ids to t is })))

-- where all destinations of events are served, so are the events
pub served_at_destinations : (parts : FabricParts) (routes : RouteLists) (events : List ScriptEvent) (spots : List ℕ)
    → AreDestinations parts.area events spots → ((t : ℕ) → Contains spots t → IsServedBy parts routes t) → AreServed parts routes events
served_at_destinations parts routes events spots are served (Inject number to entry) among =
    all_destinations parts.area (IsServedBy parts routes) (nowhere parts routes) events spots are served number to entry among
served_at_destinations parts routes events spots are served (Step packet) among = tt
served_at_destinations parts routes events spots are served (Fail failed) among = tt

-- and where rows agree for them, they agree for the events
pub agree_at_destinations : (parts : FabricParts) (rows : Rows) (events : List ScriptEvent) (spots : List ℕ)
    → AreDestinations parts.area events spots → ((t : ℕ) → Contains spots t → AgreeFor parts rows t)
    → (event : ScriptEvent) → Contains events event → AgreeForEvent parts rows event
agree_at_destinations parts rows events spots are agree (Inject number to entry) among =
    all_destinations parts.area (AgreeFor parts rows) (λ d at. absurd (outside parts d at)) events spots are agree number to entry among
agree_at_destinations parts rows events spots are agree (Step packet) among = tt
agree_at_destinations parts rows events spots are agree (Fail failed) among = tt
