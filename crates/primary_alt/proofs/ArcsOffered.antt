-- Where the arcs of a node stand.
use Rattle.std.proofs.Common.{◌≡◌, ◌<◌, ◌≤◌, ◌+◌, ℕ, Some, length, slice_get, inl, inr, sym, ap, subst, arith}
use Rattle.std.proofs.lemmas.Bool.{cases_lt}
use Rattle.std.proofs.lemmas.Option.{get_or_from_slice_get, slice_get_within}
use Rattle.area_graph.specs.declared.area_types.Arc.{Arc}
use Rattle.area_graph.specs.AreaInvariant.{IsArc, IsArea, IsBond}
use Rattle.area_graph.specs.Parts.{AreaParts}
use Rattle.area_graph.specs.steps.Starts.{below}
use Rattle.area_graph.proofs.Slices.{climbs, none_further, one_further}
use Rattle.mrt_graph.proofs.Members.{all_has, has_at}

-- an arc's far node is one of the area
pub far_within : (area : AreaParts) (arc : Arc) → IsArea area → IsArc area.ids area.bonds arc → arc.to < length area.ids
far_within area arc kept is =
    let bond : IsBond area.ids is.bond = all_has (IsBond area.ids) area.bonds is.bond kept.bonds_kept (has_at area.bonds arc.bond is.bond is.there) in
    elim is.leads [
      | inl there ↦ subst (λ (v : ℕ). v < length area.ids) (sym there.to) bond.b
      | inr back ↦ subst (λ (v : ℕ). v < length area.ids) (sym back.to) bond.a
    ]

-- an arc of node x is numbered after those of lower nodes
pub not_lower : (area : AreaParts) (x k : ℕ) (arc : Arc) → IsArea area → slice_get area.arcs k ≡ Some arc → arc.tail ≡ x → below x area.arcs ≤ k
not_lower area x k arc kept there tail =
    none_further x area.arcs k arc (climbs area.arcs kept.arcs_ascend) (slice_get_within area.arcs k arc there)
    (omega (arith, tail, ap (λ (a : Arc). a.tail) (get_or_from_slice_get area.arcs k arc arc there)))

-- and before those of higher nodes
pub not_higher : (area : AreaParts) (x k : ℕ) (arc : Arc) → IsArea area → slice_get area.arcs k ≡ Some arc → arc.tail ≡ x → k < below (x + 1) area.arcs
not_higher area x k arc kept there tail =
    one_further (x + 1) area.arcs k arc (climbs area.arcs kept.arcs_ascend) (slice_get_within area.arcs k arc there)
    (omega (arith, tail, ap (λ (a : Arc). a.tail) (get_or_from_slice_get area.arcs k arc arc there)))

-- an arc between them leaves x
pub leaves : (area : AreaParts) (x k : ℕ) (arc : Arc) → IsArea area → slice_get area.arcs k ≡ Some arc → below x area.arcs ≤ k → k < below (x + 1) area.arcs
    → arc.tail ≡ x
leaves area x k arc kept there low high =
    let same = ap (λ (a : Arc). a.tail) (get_or_from_slice_get area.arcs k arc arc there) in
    let climb = climbs area.arcs kept.arcs_ascend in
    let within = slice_get_within area.arcs k arc there in
    elim (cases_lt arc.tail x) [
      | inl lower ↦ absurd (omega (arith, low, one_further x area.arcs k arc climb within (omega (arith, lower, same))))
      | inr upto ↦ elim (cases_lt x arc.tail) [
        | inl above ↦ absurd (omega (arith, high, none_further (x + 1) area.arcs k arc climb within (omega (arith, above, same))))
        | inr same' ↦ omega (arith, upto, same')
      ]
    ]
