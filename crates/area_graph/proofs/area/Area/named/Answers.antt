use Rattle.std.proofs.Common.{rules, ◌≡◌, ◌==◌, ◌∙◌, Some, Contains, slice_get, refl, sym, ap, subst, ℕ, List}
use Rattle.std.specs.List.{filter, find}
use Rattle.std.specs.Option.{option_map}
use Rattle.mrt_graph.specs.declared.node_id.NodeId.{NodeId}
use Rattle.area_graph.specs.declared.area_types.Arc.{Arc}
use Rattle.area_graph.specs.AreaInvariant.{IsArea}
use Rattle.mrt_graph.specs.NodeIds.{router}
use Rattle.area_graph.proofs.Naming.{named_in_row, none_named, not_named}
use Rattle.area_graph.proofs.area.Area.named.Goals as goal

pub returns-in_err-place-clause-bond : goal.returns-in_err-place-clause-bond
returns-in_err-place-clause-bond c =
    let ids : c.deref.result.now ≡ c.args.self.now.ids = search rules in
    let absent : Contains c.args.self.now.ids (router c.args.router) → ⊥ =
    subst (λ (id : NodeId). Contains c.args.self.now.ids id → ⊥) c.router.ensures
    (subst (λ (ids : List NodeId). Contains ids c.router.result → ⊥) ids (c.in_err-place.ensures.none.0 refl)) in
    c.from_residual.ensures ∙ sym (not_named c.args.self.now c.args.router c.args.link_data absent)

pub returns-clause-bond : goal.returns-clause-bond
returns-clause-bond c =
    let kept : IsArea c.args.self.now = subst IsArea c.self.view_is c.self.invariant.0 in
    let ids : c.deref.result.now ≡ c.args.self.now.ids = search rules in
    let spot : c.new-spot.result ≡ c.in_ok-place.place = search rules in
    let there : slice_get c.args.self.now.ids c.new-spot.result ≡ Some (router c.args.router) =
    subst (λ (k : ℕ). slice_get c.args.self.now.ids k ≡ Some (router c.args.router)) (sym spot)
    (subst (λ (id : NodeId). slice_get c.args.self.now.ids c.in_ok-place.place ≡ Some id) c.router.ensures
    (subst (λ (ids : List NodeId). slice_get ids c.in_ok-place.place ≡ Some c.router.result) ids c.in_ok-place.ensures.found)) in
    let arcs : c.deref-2.result.now ≡ c.args.self.now.arcs = search rules in
    let value : c.row.result.now ≡ filter (λ arc. arc.tail == c.new-spot.result) c.args.self.now.arcs =
    c.row.ensures ∙ ap (filter (λ (arc : Arc). arc.tail == c.new-spot.result)) arcs in
    c.with_data.ensures
    ∙ ap (λ (arcs : List Arc). option_map (λ arc. arc.bond) (find (λ arc. arc.link_data == c.args.link_data) arcs)) value
    ∙ named_in_row c.args.self.now c.args.router c.args.link_data c.new-spot.result kept there

pub returns-in_err-place-clause-none : goal.returns-in_err-place-clause-none
returns-in_err-place-clause-none c = none_named c.args.self.now c.args.router c.args.link_data c.from_residual.result (returns-in_err-place-clause-bond c)

pub returns-clause-none : goal.returns-clause-none
returns-clause-none c = none_named c.args.self.now c.args.router c.args.link_data c.with_data.result (returns-clause-bond c)
