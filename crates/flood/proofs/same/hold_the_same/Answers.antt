use Rattle.std.proofs.Common.{◌≡◌, ◌∙◌, ◌<◌, ◌≤◌, ℕ, List, length, get_or, refl, sym, ap, arith}
use Rattle.std.specs.List.{AllByRecursion}
use Rattle.std.proofs.lemmas.Bool.{true≢false}
use Rattle.lsdb.specs.Orders.{without_place}
use Rattle.ospf_lsa.specs.declared.lsa.Lsa.{Lsa}
use Rattle.flood.specs.declared.database_copy.DatabaseCopy.{DatabaseCopy}
use Rattle.flood.specs.steps.Numbers.{lsa_in}
use Rattle.flood.proofs.Numbered.{all_at, lsa_read}
use Rattle.flood.proofs.SameLsas.{one_differs, same_all, same_more}
use Rattle.flood.proofs.same.hold_the_same.Goals as goal

-- an LSA that a place of a store has, as it was read by its number
lsa_at : (lsas : List Lsa) (held : List DatabaseCopy) (place : ℕ) (h : DatabaseCopy) (x : Lsa) → AllByRecursion (λ h. h.number < length lsas) held
    → place < length held → h ≡ get_or held place h → x ≡ get_or lsas h.number x → x ≡ lsa_in lsas h.number
lsa_at lsas held place h x numbers within there is =
    lsa_read lsas h.number x (all_at (λ (h : DatabaseCopy). h.number < length lsas) held place h numbers within there) is

pub bounds-lsas-index : goal.bounds-lsas-index
bounds-lsas-index c =
    all_at (λ (h : DatabaseCopy). h.number < length c.args.lsas.now) c.args.store.now.held.items c.loop-place.place c.index.result.now
    c.requires.stored.numbers (omega arith) c.index.ensures

pub bounds-others-index : goal.bounds-others-index
bounds-others-index c =
    all_at (λ (h : DatabaseCopy). h.number < length c.args.others.now) c.args.other.now.held.items c.loop-place.place c.index-in-loop-place.result.now
    c.requires.other_stored.numbers (omega arith) c.index-in-loop-place.ensures

pub returns-then-not-are_alike : goal.returns-then-not-are_alike
returns-then-not-are_alike c =
    let within : c.loop-place.place < length c.args.store.now.held.items = omega arith in
    let within' : c.loop-place.place < length c.args.other.now.held.items = omega arith in
    let one = lsa_at c.args.lsas.now c.args.store.now.held.items c.loop-place.place c.index.result.now c.index-lsas-index.result
    c.requires.stored.numbers within c.index.ensures c.index-lsas-index.is in
    let other = lsa_at c.args.others.now c.args.other.now.held.items c.loop-place.place c.index-in-loop-place.result.now
    c.index-others-index.result c.requires.other_stored.numbers within' c.index-in-loop-place.ensures c.index-others-index.is in (
      λ is. absurd cc,
      λ all.
          absurd (true≢false
          (sym (c.are_alike.ensures.1
          (ap without_place one
          ∙ one_differs c.args.lsas.now c.args.others.now c.args.store.now.held.items c.args.other.now.held.items
          c.loop-place.place c.index.result.now c.index-in-loop-place.result.now c.loop-place.invariant within within'
          c.index.ensures c.index-in-loop-place.ensures all
          ∙ sym (ap without_place other)))
          ∙ c.if-not-are_alike.true)),
    )

pub loop-place-preserved : goal.loop-place-preserved
loop-place-preserved c =
    let within : c.loop-place.place < length c.args.store.now.held.items = omega arith in
    let within' : c.loop-place.place < length c.args.other.now.held.items = omega arith in
    let one = lsa_at c.args.lsas.now c.args.store.now.held.items c.loop-place.place c.index.result.now c.index-lsas-index.result
    c.requires.stored.numbers within c.index.ensures c.index-lsas-index.is in
    let other = lsa_at c.args.others.now c.args.other.now.held.items c.loop-place.place c.index-in-loop-place.result.now
    c.index-others-index.result c.requires.other_stored.numbers within' c.index-in-loop-place.ensures c.index-others-index.is in
    same_more c.args.lsas.now c.args.others.now c.args.store.now.held.items c.args.other.now.held.items
    c.loop-place.place c.index.result.now c.index-in-loop-place.result.now c.loop-place.invariant within within'
    c.index.ensures c.index-in-loop-place.ensures
    (sym (ap without_place one) ∙ c.are_alike.ensures.0 c.if-not-are_alike.false ∙ ap without_place other)

pub returns : goal.returns
returns c =
    let past : length c.args.store.now.held.items ≤ c.loop-place.place = omega arith in (
      λ _. same_all c.args.lsas.now c.args.others.now c.args.store.now.held.items c.args.other.now.held.items
          c.loop-place.place past c.loop-place.invariant,
      λ _. refl,
    )
