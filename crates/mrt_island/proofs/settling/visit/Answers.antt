use Rattle.std.proofs.Common.{◌≡◌, ◌<◌, ℕ, List, inl, inr, length, get_or, refl, sym, subst, arith}
use Rattle.std.specs.List.{AllByRecursion}
use Rattle.std.proofs.lemmas.List.Elements.{All-from_recursion}
use Rattle.std.proofs.lemmas.Option.{slice_get_read, slice_get_within}
use Rattle.area_graph.specs.declared.area_types.Arc.{Arc}
use Rattle.area_graph.specs.AreaInvariant.{IsArc, IsArea, IsBond}
use Rattle.area_graph.specs.Parts.{AreaParts}
use Rattle.mrt_graph.proofs.Members.{all_has, has_at}
use Rattle.mrt_island.proofs.Telling.{all_told, next_told, none_told}
use Rattle.mrt_island.proofs.settling.visit.Goals as goal

-- the arc that is read is one of the area
kept_at : (area : AreaParts) (arcs : List Arc) (i : ℕ) (arc : Arc) → AllByRecursion (IsArc area.ids area.bonds) arcs → i < length arcs → arc ≡ get_or arcs i arc → IsArc area.ids area.bonds arc
kept_at area arcs i arc kept within is = subst (IsArc area.ids area.bonds) (sym is) (All-from_recursion (IsArc area.ids area.bonds) arcs kept i arc within)

-- and leads to one of its nodes
far_within : (area : AreaParts) (arc : Arc) → IsArea area → IsArc area.ids area.bonds arc → arc.to < length area.ids
far_within area arc kept is =
    let bond : IsBond area.ids is.bond = all_has (IsBond area.ids) area.bonds is.bond kept.bonds_kept (has_at area.bonds arc.bond is.bond is.there) in
    elim is.leads [
      | inl there ↦ subst (λ (v : ℕ). v < length area.ids) (sym there.to) bond.b
      | inr back ↦ subst (λ (v : ℕ). v < length area.ids) (sym back.to) bond.a
    ]

pub loop-i-init : goal.loop-i-init
loop-i-init c = none_told c.arcs-arcs.result.now c.args.flags.now _

pub pass-requires-clause-bond : goal.pass-requires-clause-bond
pass-requires-clause-bond c =
    let arc = c.index-arcs-i.result in
    let kept = kept_at c.args.area.now c.arcs-arcs.result.now c.loop-i.i arc c.arcs-arcs.ensures.kept (omega arith) c.index-arcs-i.is in
    omega (arith, slice_get_within c.args.area.now.bonds arc.bond kept.bond kept.there, c.requires.flags)

pub pass-requires-clause-to : goal.pass-requires-clause-to
pass-requires-clause-to c =
    let arc = c.index-arcs-i.result in
    let kept = kept_at c.args.area.now c.arcs-arcs.result.now c.loop-i.i arc c.arcs-arcs.ensures.kept (omega arith) c.index-arcs-i.is in
    omega (arith, far_within c.args.area.now arc c.requires.kept kept, c.requires.count, c.loop-i.invariant.one_each)

pub loop-i-preserved : goal.loop-i-preserved
loop-i-preserved c =
    next_told c.arcs-arcs.result.now c.args.flags.now c.loop-i.i c.index-arcs-i.result _ _ _
    (slice_get_read c.arcs-arcs.result.now (length c.arcs-arcs.result.now) c.loop-i.i c.index-arcs-i.result refl (omega arith) c.index-arcs-i.is)
    c.loop-i.invariant c.pass.ensures

pub returns : goal.returns
returns c =
    all_told c.args.area.now c.arcs-arcs.result.now c.args.flags.now c.args.at c.loop-i.i _ _ c.requires.kept c.requires.pairs c.arcs-arcs.ensures.value
    c.arcs-arcs.ensures.kept (omega arith) c.loop-i.invariant
