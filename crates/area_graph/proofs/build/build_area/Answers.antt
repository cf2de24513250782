use Rattle.std.proofs.Common.{◌≡◌, ◌∙◌, ◌⊎◌, ℕ, List, length, map, refl, sym, ap, subst, inl, inr, arith}
use Rattle.std.specs.Prelude.{IfOk}
use Rattle.ospf_lsa.specs.declared.lsa.Lsa.{Lsa}
use Rattle.lsdb.specs.Entries.{Entry as DatabaseEntry}
use Rattle.area_graph.specs.AreaOf.{area_of}
use Rattle.area_graph.specs.AreaSize.{TellsTooLarge}
use Rattle.area_graph.specs.steps.NumberedArcs.{arcs_among}
use Rattle.area_graph.specs.steps.NumberedEntries.{entries}
use Rattle.area_graph.specs.Nodes.{nodes}
use Rattle.area_graph.specs.declared.area_error.AreaError.{AreaError}
use Rattle.area_graph.specs.declared.area_error.AreaError.TheVariants.{NoMemory}
use Rattle.area_graph.specs.Parts.{AreaParts}
use Rattle.area_graph.proofs.Built.{between, handed_on, is_area, not_too_large, ordered, parts_are, too_large_is}
use Rattle.area_graph.specs.steps.NumberedArea.{parts_of}
use Rattle.area_graph.proofs.build.build_area.Goals as goal

pub returns-in_err-by_way-clause-refused : goal.returns-in_err-by_way-clause-refused
returns-in_err-by_way-clause-refused c =
    let lsas : List Lsa = map (λ (entry : DatabaseEntry). entry.lsa) c.args.database.now.entries in
    let ids = c.in_ok-ids.field-0.ids.items in
    let all = c.in_ok-ids.field-0.entries.items in
    let error : AreaError = c.in_err-by_way.field-0.0 in
    let count : c.len.result ≡ length ids = omega (arith, c.len.ensures, c.in_ok-ids.field-0.ids.ok.0) in
    let told : (error ≡ NoMemory) ⊎ TellsTooLarge (length ids) (length (arcs_among all)) error =
    subst (λ (n : ℕ). (error ≡ NoMemory) ⊎ TellsTooLarge n (length (arcs_among all)) error) count c.in_err-by_way.ensures.refused in
    let large : (error ≡ NoMemory) ⊎ TellsTooLarge (length (area_of lsas).ids) (length (area_of lsas).arcs) error =
    elim told [
      | inl none ↦ inl none
      | inr large ↦ too_large_is lsas ids all (arcs_among all) error c.in_ok-ids.ensures.ascend
          (c.in_ok-ids.ensures.ids ∙ ap nodes c.newest.ensures.lsas) (c.in_ok-ids.ensures.entries ∙ ap entries c.newest.ensures.lsas) refl large
    ] in
    handed_on c.from_residual-in_err-by_way.result error c.from_residual-in_err-by_way.ensures.1
    (λ (e : AreaError). (e ≡ NoMemory) ⊎ TellsTooLarge (length (area_of lsas).ids) (length (area_of lsas).arcs) e) large

pub area_of_arcs-requires-clause-ordered : goal.area_of_arcs-requires-clause-ordered
area_of_arcs-requires-clause-ordered c =
    ordered c.in_ok-ids.field-0.entries.items c.deref.result.now c.in_ok-ids.field-0.ids.items
    (c.deref.ensures.value ∙ c.in_ok-by_way.ensures.arcs) c.in_ok-ids.ensures.kept

pub area_of_arcs-requires-clause-between : goal.area_of_arcs-requires-clause-between
area_of_arcs-requires-clause-between c =
    let count : c.len.result ≡ length c.in_ok-ids.field-0.ids.items = omega (arith, c.len.ensures, c.in_ok-ids.field-0.ids.ok.0) in
    between c.in_ok-ids.field-0.entries.items c.deref.result.now c.in_ok-ids.field-0.ids.items
    (c.deref.ensures.value ∙ c.in_ok-by_way.ensures.arcs) c.in_ok-ids.ensures.kept
    (rw (count, sym c.deref.ensures.value) at c.in_ok-by_way.ensures.within)

pub area_of_arcs-requires-clause-kept : goal.area_of_arcs-requires-clause-kept
area_of_arcs-requires-clause-kept c =
    let count : c.len.result ≡ length c.in_ok-ids.field-0.ids.items = omega (arith, c.len.ensures, c.in_ok-ids.field-0.ids.ok.0) in
    is_area c.in_ok-ids.field-0.entries.items c.deref.result.now c.in_ok-ids.field-0.ids.items
    (c.deref.ensures.value ∙ c.in_ok-by_way.ensures.arcs) c.in_ok-ids.ensures.kept c.in_ok-ids.ensures.ascend
    (rw (count, sym c.deref.ensures.value) at c.in_ok-by_way.ensures.within)

pub returns-clause-area : goal.returns-clause-area
returns-clause-area c =
    let lsas : List Lsa = map (λ (entry : DatabaseEntry). entry.lsa) c.args.database.now.entries in
    let are : parts_of c.in_ok-ids.field-0.ids.items c.deref.result.now ≡ area_of lsas =
    subst (λ (ls : List Lsa). parts_of c.in_ok-ids.field-0.ids.items c.deref.result.now ≡ area_of ls) c.newest.ensures.lsas
    (parts_are c.newest.result.now c.in_ok-ids.field-0.ids.items c.in_ok-ids.field-0.entries.items c.deref.result.now c.in_ok-ids.ensures.ascend c.in_ok-ids.ensures.ids
    c.in_ok-ids.ensures.entries (c.deref.ensures.value ∙ c.in_ok-by_way.ensures.arcs)) in
    subst (λ (a : AreaParts). IfOk c.area_of_arcs.result (λ area. area ≡ a)) are c.area_of_arcs.ensures.area

pub returns-clause-within : goal.returns-clause-within
returns-clause-within c =
    let count : c.len.result ≡ length c.in_ok-ids.field-0.ids.items = omega (arith, c.len.ensures, c.in_ok-ids.field-0.ids.ok.0) in
    let lsas : List Lsa = map (λ (entry : DatabaseEntry). entry.lsa) c.args.database.now.entries in
    not_too_large c.area_of_arcs.result lsas c.in_ok-ids.field-0.ids.items c.in_ok-ids.field-0.entries.items c.deref.result.now c.in_ok-ids.ensures.ascend
    (c.in_ok-ids.ensures.ids ∙ ap nodes c.newest.ensures.lsas) (c.in_ok-ids.ensures.entries ∙ ap entries c.newest.ensures.lsas)
    (c.deref.ensures.value ∙ c.in_ok-by_way.ensures.arcs)
    (rw (count, sym c.deref.ensures.value) at c.in_ok-by_way.ensures.within)
