-- The area of a database, from what its LSAs list.
use Rattle.std.proofs.Common.{◌≡◌, ◌≤◌, ◌<◌, ◌∙◌, ◌⊎◌, ℕ, Result, Ok, Err, List, length, sym, ap, subst, inl, inr}
use Rattle.std.specs.List.{AllByRecursion}
use Rattle.std.specs.List.Sorted.{IsStrictlySortedBy}
use Rattle.std.specs.Prelude.{IfErr, IfOk}
use Rattle.std.specs.Result.{IsErrAnd}
use Rattle.std.proofs.lemmas.Bool.{cases_lt}
use Rattle.std.proofs.lemmas.List.{length-map}
use Rattle.mrt_graph.specs.NodeOrder.{node_id_cmp}
use Rattle.mrt_graph.specs.declared.node_id.NodeId.{NodeId}
use Rattle.mrt_graph.specs.InOrder.{in_order}
use Rattle.mrt_graph.proofs.InOrder.{length-in_order}
use Rattle.ospf_lsa.specs.declared.lsa.Lsa.{Lsa}
use Rattle.area_graph.specs.declared.entry.NumberedEntry.{NumberedEntry as Entry}
use Rattle.area_graph.specs.AreaInvariant.{IsArea}
use Rattle.area_graph.specs.AreaOf.{area_of}
use Rattle.area_graph.specs.steps.NumberedArea.{arcs_of, numbered, parts_of}
use Rattle.area_graph.specs.AreaSize.{IsTooLarge, too_large as error_of}
use Rattle.area_graph.specs.declared.area_error.AreaError.{AreaError}
use Rattle.area_graph.specs.declared.area_error.AreaError.TheVariants.{NoMemory}
use Rattle.area_graph.specs.steps.NumberedArcs.{arc_cmp, arcs_among}
use Rattle.area_graph.specs.steps.NumberedEntries.{entries}
use Rattle.area_graph.specs.steps.Listed.{AreEntries}
use Rattle.area_graph.specs.Nodes.{nodes}
use Rattle.area_graph.specs.steps.Pairing.{AreOrdered, IsBetween}
use Rattle.area_graph.specs.Parts.{AreaParts}
use Rattle.area_graph.proofs.Kept.{area_kept}
use Rattle.area_graph.proofs.ListedByNumber.{area_by_number}
use Rattle.area_graph.proofs.Paired.{arcs_are_between, arcs_are_ordered}

pub parts_are : (lsas : List Lsa) (ids : List NodeId) (all by_way : List Entry) → IsStrictlySortedBy node_id_cmp ids → ids ≡ nodes lsas → all ≡ entries lsas → by_way ≡ arcs_among all → parts_of ids by_way ≡ area_of lsas
parts_are lsas ids all by_way ascend ids_are all_are by_way_are =
    let arcs_are : by_way ≡ arcs_among (entries lsas) = by_way_are ∙ ap arcs_among all_are in
    ap (λ (xs : List NodeId). parts_of xs by_way) ids_are ∙ ap (λ (xs : List Entry). parts_of (nodes lsas) xs) arcs_are
    ∙ sym (area_by_number lsas (subst (IsStrictlySortedBy node_id_cmp) ids_are ascend))

-- there are as many arcs as entries that are arcs
pub as_many : (by_way : List Entry) → length (arcs_of by_way) ≡ length by_way
as_many by_way = length-map (in_order arc_cmp by_way) (numbered by_way) ∙ length-in_order arc_cmp by_way

pub ordered : (all by_way : List Entry) (ids : List NodeId) → by_way ≡ arcs_among all → AreEntries ids all → AreOrdered by_way
ordered all by_way ids are kept = subst AreOrdered (sym are) (arcs_are_ordered all kept.apart)

few : (nodes arcs : ℕ) → (IsTooLarge nodes arcs → ⊥) → (nodes ≤ 4096) × (arcs ≤ 32768)
few nodes arcs within = (few_nodes (within_or nodes 4096), few_arcs (within_or arcs 32768))
  where
    within_or : (n limit : ℕ) → (n ≤ limit) ⊎ (limit < n)
    within_or n limit = elim (cases_lt limit n) [ inl lt ↦ inr lt | inr le ↦ inl le ]

    few_nodes : (nodes ≤ 4096) ⊎ (4096 < nodes) → nodes ≤ 4096
    few_nodes (inl le) = le
    few_nodes (inr lt) = absurd (within (inl lt))

    few_arcs : (arcs ≤ 32768) ⊎ (32768 < arcs) → arcs ≤ 32768
    few_arcs (inl le) = le
    few_arcs (inr lt) = absurd (within (inr lt))

pub between : (all by_way : List Entry) (ids : List NodeId) → by_way ≡ arcs_among all → AreEntries ids all → (IsTooLarge (length ids) (length by_way) → ⊥) → AllByRecursion IsBetween by_way
between all by_way ids are kept within = subst (AllByRecursion IsBetween) (sym are) (arcs_are_between ids all kept (few (length ids) (length by_way) within).0)

pub few_arcs : (by_way : List Entry) (ids : List NodeId) → (IsTooLarge (length ids) (length by_way) → ⊥) → length by_way ≤ 32768
few_arcs by_way ids within = (few (length ids) (length by_way) within).1

pub is_area : (all by_way : List Entry) (ids : List NodeId) → by_way ≡ arcs_among all → AreEntries ids all → IsStrictlySortedBy node_id_cmp ids → (IsTooLarge (length ids) (length by_way) → ⊥) → IsArea (parts_of ids by_way)
is_area all by_way ids are kept ascend within =
    let sizes = few (length ids) (length by_way) within in
    subst (λ (xs : List Entry). IsArea (parts_of ids xs)) (sym are) (area_kept ids all kept ascend sizes.0 (subst (λ (xs : List Entry). length xs ≤ 32768) are sizes.1))

-- where the parts are too large, so is the area
pub too_large_is : (lsas : List Lsa) (ids : List NodeId) (all by_way : List Entry) (error : AreaError) → IsStrictlySortedBy node_id_cmp ids → ids ≡ nodes lsas → all ≡ entries lsas → by_way ≡ arcs_among all
    → IsTooLarge (length ids) (length by_way) × (error ≡ error_of (length ids) (length by_way))
    → (error ≡ NoMemory) ⊎ (IsTooLarge (length (area_of lsas).ids) (length (area_of lsas).arcs) × (error ≡ error_of (length (area_of lsas).ids) (length (area_of lsas).arcs)))
too_large_is lsas ids all by_way error ascend ids_are all_are by_way_are told =
    let are = parts_are lsas ids all by_way ascend ids_are all_are by_way_are in
    let nodes_are : length ids ≡ length (area_of lsas).ids = ap (λ (a : AreaParts). length a.ids) are in
    let arcs_are : length by_way ≡ length (area_of lsas).arcs = sym (as_many by_way) ∙ ap (λ (a : AreaParts). length a.arcs) are in
    inr (
      subst (λ (n : ℕ). IsTooLarge n (length (area_of lsas).arcs)) nodes_are (subst (λ (n : ℕ). IsTooLarge (length ids) n) arcs_are told.0),
      subst (λ (n : ℕ). error ≡ error_of n (length (area_of lsas).arcs)) nodes_are (subst (λ (n : ℕ). error ≡ error_of (length ids) n) arcs_are told.1),
    )

-- where the parts are not too large, neither is the area
pub not_too_large : {X : Type 0} (result : Result X AreaError) (lsas : List Lsa) (ids : List NodeId) (all by_way : List Entry) → IsStrictlySortedBy node_id_cmp ids
    → ids ≡ nodes lsas → all ≡ entries lsas → by_way ≡ arcs_among all → (IsTooLarge (length ids) (length by_way) → ⊥)
    → IfOk result (λ _. IsTooLarge (length (area_of lsas).ids) (length (area_of lsas).arcs) → ⊥)
not_too_large (Err error) lsas ids all by_way ascend ids_are all_are by_way_are within = tt
not_too_large (Ok area) lsas ids all by_way ascend ids_are all_are by_way_are within =
    let are = parts_are lsas ids all by_way ascend ids_are all_are by_way_are in
    let nodes_are : length ids ≡ length (area_of lsas).ids = ap (λ (a : AreaParts). length a.ids) are in
    let arcs_are : length by_way ≡ length (area_of lsas).arcs = sym (as_many by_way) ∙ ap (λ (a : AreaParts). length a.arcs) are in
    λ large. within (subst (λ (n : ℕ). IsTooLarge n (length by_way)) (sym nodes_are)
    (subst (λ (n : ℕ). IsTooLarge (length (area_of lsas).ids) n) (sym arcs_are) large))

-- an error that is handed on
pub handed_on : {X : Type 0} (result : Result X AreaError) (error : AreaError) → IsErrAnd result (λ told. told ≡ error) → (P : AreaError → Type 0) → P error → IfErr result P
handed_on (Ok x) error is P held = tt
handed_on (Err told) error is P held = subst P (sym is) held
