use Rattle.std.proofs.Common.{◌≡◌, ◌∙◌, ℕ, List, Option, Some, IsNone, Contains, length, slice_get, refl, sym, ap, subst, arith, true≢false}
use Rattle.std.specs.List.Sorted.{IsStrictlySortedBy}
use Rattle.mrt_graph.specs.declared.node_id.NodeId.{NodeId}
use Rattle.mrt_graph.specs.NodeOrder.{node_id_cmp}
use Rattle.mrt_graph.specs.Topology.{Topology}
use Rattle.mrt_graph.proofs.graph.Graph.find.Goals as goal

pub place_of-requires : goal.place_of-requires
place_of-requires c = subst (IsStrictlySortedBy node_id_cmp) (sym c.deref.ensures.value) c.self.invariant.ids_ascend

pub overflow_cast-place : goal.overflow_cast-place
overflow_cast-place c = omega (arith, c.in_ok-place.ensures.within, ap length c.deref.ensures.value, c.self.invariant.few_nodes)

pub returns-in_err-place-clause-none : goal.returns-in_err-place-clause-none
returns-in_err-place-clause-none c =
    let ids = c.deref.ensures.value ∙ ap (λ (graph : Topology). graph.ids) c.self.view_is in (
      λ none has. c.in_err-place.ensures.none.0 refl (subst (λ (l : List NodeId). Contains l c.args.id) (sym ids) has),
      λ lacks. subst (λ (o : Option ℕ). IsNone o) (sym c.from_residual.ensures) refl,
    )

pub returns-clause-found : goal.returns-clause-found
returns-clause-found c =
    subst (λ (l : List NodeId). slice_get l c.new.result ≡ Some c.args.id) (c.deref.ensures.value ∙ ap (λ (graph : Topology). graph.ids) c.self.view_is)
    (subst (λ (k : ℕ). slice_get c.deref.result.now k ≡ Some c.args.id) (sym c.new.ensures) c.in_ok-place.ensures.found)

pub returns-clause-none : goal.returns-clause-none
returns-clause-none c =
    let ids = c.deref.ensures.value ∙ ap (λ (graph : Topology). graph.ids) c.self.view_is in (
      λ none. absurd (true≢false none),
      λ lacks. c.in_ok-place.ensures.none.1 (λ has. lacks (subst (λ (l : List NodeId). Contains l c.args.id) ids has)),
    )
