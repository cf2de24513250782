use Rattle.std.proofs.Common.{◌≡◌, ◌∙◌, ◌<◌, ℕ, List, Option, Some, get_or, length, slice_get, inl, inr, refl, sym, ap, arith}
use Rattle.std.specs.Option.{option_map}
use Rattle.std.proofs.lemmas.Bool.{cases_eq}
use Rattle.std.proofs.lemmas.Option.{slice_get_read}
use Rattle.mrt_graph.specs.declared.cert.Row.{Row}
use Rattle.mrt_graph.specs.Tags.{carried}
use Rattle.mrt_rows.proofs.of_source.carried_to.Goals as goal

carried_at : (rows : List Row) (i k : ℕ) (row made : Row) → i ≡ k → i < length rows → row ≡ get_or rows i row → made ≡ carried row
    → Some made ≡ option_map carried (slice_get rows k)
carried_at rows i k row made same within is so =
    ap (λ (r : Row). Some r) so
    ∙ sym (ap (λ (o : Option Row). option_map carried o) (ap (λ (n : ℕ). slice_get rows n) (sym same) ∙ slice_get_read rows (length rows) i row refl within is))

pub bounds-rows-get : goal.bounds-rows-get
bounds-rows-get c = elim (cases_eq c.args.t c.args.rooted.now.root) [
  | inl same ↦ omega (
    arith,
    c.get.ensures.value,
    c.carrier_of-by.ensures.to_root same,
    c.requires.source.head,
    c.requires.rooted.ordered.heads.head_within c.args.source.now.node c.requires.node,
    c.requires.one_each,
  )
  | inr other ↦ omega (
    arith,
    c.get.ensures.value,
    c.carrier_of-by.ensures.to_other other,
    c.place.ensures.head,
    c.requires.rooted.ordered.heads.head_within c.args.t c.requires.target,
    c.requires.one_each,
  )
]

pub returns-clause-to_other : goal.returns-clause-to_other
returns-clause-to_other c = λ other.
    let at = c.get.ensures.value ∙ c.carrier_of-by.ensures.to_other other ∙ c.place.ensures.head in
    let within = c.requires.rooted.ordered.heads.head_within c.args.t c.requires.target in
    carried_at c.args.rows.now c.get.result _ c.index-rows-get.result c.carried.result at (omega (arith, at, within, c.requires.one_each))
    c.index-rows-get.is c.carried.ensures

pub returns-clause-to_root : goal.returns-clause-to_root
returns-clause-to_root c = λ same.
    let at = c.get.ensures.value ∙ c.carrier_of-by.ensures.to_root same ∙ c.requires.source.head in
    let within = c.requires.rooted.ordered.heads.head_within c.args.source.now.node c.requires.node in
    carried_at c.args.rows.now c.get.result _ c.index-rows-get.result c.carried.result at (omega (arith, at, within, c.requires.one_each))
    c.index-rows-get.is c.carried.ensures
