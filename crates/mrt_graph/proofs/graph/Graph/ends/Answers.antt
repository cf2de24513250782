use Rattle.std.proofs.Common.{◌≡◌, ◌<◌, Some, length, slice_get, subst, ap, arith}
use Rattle.std.proofs.lemmas.List.{length-map}
use Rattle.mrt_graph.specs.GraphInvariant.{IsTopology}
use Rattle.mrt_graph.proofs.graph.Graph.ends.Goals as goal
use Rattle.mrt_graph.proofs.Rows.{seen_at}

pub returns-clause-kept : goal.returns-clause-kept
returns-clause-kept c =
    let kept : IsTopology c.args.self.now = subst IsTopology c.self.view_is c.self.invariant in
    let within : c.args.n < length c.self.inside.ends.items =
    omega (arith, c.self.invariant.a_list_each, length-map c.self.inside.ends.items (λ row. row.items), ap (λ graph. length graph.ids) c.self.view_is) in
    let there : slice_get c.args.self.now.ends c.args.n ≡ Some c.as_slice.result.now =
    rw (c.as_slice.ensures, ← c.self.view_is) (seen_at _ c.self.inside.ends.items c.args.n c.index.result.now within (rw (← c.get.ensures.value) c.index.ensures)) in
    kept.ends_kept c.args.n c.as_slice.result.now there
