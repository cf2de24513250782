use Rattle.std.proofs.Common.{◌≡◌, Some, slice_get, subst}
use Rattle.mrt_graph.specs.declared.node_id.NodeId.{NodeId}
use Rattle.mrt_graph.proofs.ListPlaces.{contains_at}
use Rattle.mrt_calls.proofs.Names.{one_name}
use Rattle.mrt_calls.proofs.row_for.node_named.Goals as goal

pub returns-clause-none : goal.returns-clause-none
returns-clause-none c = λ none to id at named.
    let same : id ≡ c.in_ok-id.id = one_name id c.in_ok-id.id c.args.kind c.args.number named c.in_ok-id.ensures.found in
    absurd (c.find.ensures.none.0 none
    (contains_at c.args.graph.now.ids to c.in_ok-id.id (subst (λ (x : NodeId). slice_get c.args.graph.now.ids to ≡ Some x) same at)))
