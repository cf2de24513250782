use Rattle.std.proofs.Common.{◌≡◌, ◌∙◌, ◌<◌, ℕ, Option, Some, None, ap, refl, sym, subst, slice_get, get_or, length, arith}
use Rattle.std.specs.Prelude.{IfSome, IsNone, IsSome}
use Rattle.mrt_graph.proofs.ListPlaces.{contains_at}
use Rattle.primary_alt.specs.declared.shortest.Primary.{Primary}
use Rattle.mrt_report.proofs.ForLine.{entry_is, its_primary, some_entry}
use Rattle.mrt_report.proofs.primaries.primary_for.Goals as goal

some_from : {X : Type 0} (o : Option X) → (IsNone o → ⊥) → IsSome o
some_from None none = absurd (none refl)
some_from (Some x) none = refl

pub unwrap-spot-requires : goal.unwrap-spot-requires
unwrap-spot-requires c =
    some_from c.find.result (λ none. c.find.ensures.none.0 none
    (c.requires.fits.1.nodes c.id.result (contains_at c.args.island.now.ids c.args.to c.id.result c.id.ensures)))

pub bounds-prim-get : goal.bounds-prim-get
bounds-prim-get c =
    let below = subst (λ (o : Option ℕ). IfSome o (λ s. s < length c.args.area.now.ids)) c.unwrap-spot.ensures c.find.ensures.within in
    omega (arith, below, c.get.ensures.value, c.requires.primaries.3.entries.one_each)

pub unwrap-requires : goal.unwrap-requires
unwrap-requires c =
    let own = c.requires.primaries in
    let at = subst (λ (o : Option ℕ). IfSome o (λ s. slice_get c.args.area.now.ids s ≡ Some c.id.result)) c.unwrap-spot.ensures c.find.ensures.found in
    let read = c.index-prim-get.is ∙ ap (λ (k : ℕ). get_or c.args.prim.now k c.index-prim-get.result) c.get.ensures.value in
    subst (λ (o : Option Primary). IsSome o) (sym read)
    (some_entry c.args.area.now c.args.island.now c.requires.fits.0 c.count-nodes.ensures.kept c.node_count-count.ensures.kept c.requires.fits.1
    own.0 c.args.to c.unwrap-spot.result c.args.prim.now c.id.result c.index-prim-get.result own.1 c.requires.target own.2 own.3 at c.id.ensures)

pub returns-clause-among : goal.returns-clause-among
returns-clause-among c =
    let own = c.requires.primaries in
    let at = subst (λ (o : Option ℕ). IfSome o (λ s. slice_get c.args.area.now.ids s ≡ Some c.id.result)) c.unwrap-spot.ensures c.find.ensures.found in
    let read = c.index-prim-get.is ∙ ap (λ (k : ℕ). get_or c.args.prim.now k c.index-prim-get.result) c.get.ensures.value in
    entry_is c.args.area.now c.args.island.now own.0 c.args.to c.unwrap-spot.result c.args.prim.now c.id.result c.index-prim-get.result c.unwrap.result own.3 at c.id.ensures
    (sym read ∙ c.unwrap.ensures)

pub returns-clause-is : goal.returns-clause-is
returns-clause-is c = λ source own. its_primary c.args.area.now c.args.island.now source c.args.to c.args.prim.now c.unwrap.result own (returns-clause-among c)
