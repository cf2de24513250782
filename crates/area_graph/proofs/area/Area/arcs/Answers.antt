use Rattle.std.proofs.Common.{rules, ◌≡◌, ◌==◌, subst, sym}
use Rattle.std.specs.List.{AllByRecursion, filter}
use Rattle.mrt_graph.proofs.Filters.{all_filter}
use Rattle.area_graph.specs.declared.area_types.Arc.{Arc}
use Rattle.area_graph.specs.AreaInvariant.{IsArc, IsArea}
use Rattle.area_graph.proofs.area.Area.arcs.Goals as goal

pub returns-clause-kept : goal.returns-clause-kept
returns-clause-kept c =
    let kept : IsArea c.args.self.now = subst IsArea c.self.view_is c.self.invariant.0 in
    let value : c.row.result.now ≡ filter (λ arc. arc.tail == c.args.s) c.args.self.now.arcs = search rules in
    subst (AllByRecursion (IsArc c.args.self.now.ids c.args.self.now.bonds)) (sym value) (all_filter (λ (arc : Arc). arc.tail == c.args.s) (IsArc c.args.self.now.ids c.args.self.now.bonds) c.args.self.now.arcs kept.arcs_kept)
