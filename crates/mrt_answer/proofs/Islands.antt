-- What is said of an area that is too large is one; and a router whose island there is is there.
use Rattle.std.proofs.Common.{◌≡◌, ◌∙◌, ◌<◌, ◌⊎◌, ℕ, List, Bool, Option, length, refl, sym, subst, inl, inr, arith}
use Rattle.std.specs.Prelude.{Contains, Some, slice_get}
use Rattle.mrt_graph.specs.declared.node_id.NodeId.{NodeId}
use Rattle.std.specs.List.Sorted.{IsStrictlySortedBy}
use Rattle.std.proofs.lemmas.Option.{get_or_from_slice_get, slice_get_within}
use Rattle.std.proofs.lemmas.List.Elements.{Contains-get_or}
use Rattle.area_graph.specs.AreaInvariant.{IsArea}
use Rattle.mrt_graph.specs.NodeIds.{router}
use Rattle.mrt_graph.specs.NodeOrder.{node_id_cmp}
use Rattle.mrt_island.proofs.Counting.{ascend_flagged}
use Rattle.area_graph.specs.Parts.{AreaParts}
use Rattle.mrt_graph.specs.Topology.{Topology}
use Rattle.mrt_island.specs.IslandOf.{IsIsland}
use Rattle.mrt_island.specs.Members.{IsInside}
use Rattle.mrt_island.specs.Policy.{Policy}
use Rattle.mrt_exit.specs.declared.exit.What.{What}
use Rattle.mrt_exit.specs.declared.exit.What.TheVariants as whats
use Rattle.mrt_answer.specs.Islands.{IsLargeArea, IsMissing}
pub use Rattle.flood_verdict.proofs.OneVerdict.{root_within}

pub one_large_area : (area : AreaParts) (what other : What) (size count : ℕ) → IsLargeArea area what size
    → IsLargeArea area other count → (what ≡ other) × (size ≡ count)
one_large_area area whats.AreaNodes whats.AreaNodes size count one two = (refl, one.1 ∙ sym two.1)
one_large_area area whats.AreaNodes whats.AreaArcs size count one two = absurd (omega (arith, one.0, two.0))
one_large_area area whats.AreaArcs whats.AreaNodes size count one two = absurd (omega (arith, one.0, two.0))
one_large_area area whats.AreaArcs whats.AreaArcs size count one two = (refl, one.2 ∙ sym two.2)
one_large_area area whats.AreaNodes other size count one two = absurd two
one_large_area area whats.AreaArcs other size count one two = absurd two
one_large_area area what other size count one two = absurd one

pub no_large_area : (area : AreaParts) (what : What) (size : ℕ)
    → ((4096 < length area.ids) ⊎ (32768 < length area.arcs) → ⊥) → IsLargeArea area what size → ⊥
no_large_area area whats.AreaNodes size within large = within (inl large.0)
no_large_area area whats.AreaArcs size within large = within (inr large.1)
no_large_area area what size within large = absurd large

pub contained : (ids : List NodeId) (place : ℕ) (id : NodeId) → slice_get ids place ≡ Some id → Contains ids id
contained ids place id at = subst (Contains ids) (get_or_from_slice_get ids place id id at)
    (Contains-get_or ids place id (slice_get_within ids place id at))

-- a router whose island there is is there, and supports the profile
pub inside_is_there : (policy : Policy) (area : AreaParts) (number : ℕ) (inside : List Bool)
    → IsInside policy area number inside → IsMissing policy area number → ⊥
inside_is_there policy area number inside those (inl absent) = absent (contained area.ids those.start (router number)
    those.there)
inside_is_there policy area number inside those (inr unsupported) =
    let supported = those.supported in
    absurd cc

-- the nodes of an island ascend, as those of the area do
pub island_ascends : (policy : Policy) (area : AreaParts) → IsArea area → (router : ℕ) (graph : Topology) (root : ℕ)
    (link_of : List (Option ℕ)) → IsIsland policy area router graph root link_of → IsStrictlySortedBy node_id_cmp graph.ids
island_ascends policy area kept router graph root link_of island =
    subst (λ (ids : List NodeId). IsStrictlySortedBy node_id_cmp ids) (sym island.made.same_ids)
    (ascend_flagged node_id_cmp island.inside area.ids kept.ids_ascend)
