use Rattle.std.proofs.Common.{◌≡◌, ◌∙◌, ◌++◌, ◌+◌, ◌≤◌, ◌∷◌, [], ℕ, List, None, Option, ap, arith, drop, length, refl, subst, sym}
use Rattle.std.specs.List.{swap}
use Rattle.std.proofs.lemmas.List.{length_push}
use Rattle.std.proofs.lemmas.Option.{get_or_from_slice_get, slice_get_read}
use Rattle.lsdb.specs.declared.change.Change.{Change}
use Rattle.lsdb.specs.Entries.{Entry}
use Rattle.lsdb.specs.Installing.{installed}
use Rattle.lsdb.specs.Keys.{key_of}
use Rattle.lsdb.specs.steps.Store.{entries_of, front, IsStore}
use Rattle.lsdb.proofs.Fronts.{added_new, after_swap, change_told, entries_joined, keys_grown, keys_stay, met, met_key, store_added, store_turned}
use Rattle.lsdb.proofs.meet.install_at.Goals as goal

pub returns-then-is_new-clause-change : goal.returns-then-is_new-clause-change
returns-then-is_new-clause-change c = λ lsa there.
    sym (ap (λ (r : List Entry × Change). r.1)
    (added_new c.args.keys.now.keys c.of.result c.args.lsas.now.items c.args.differing.now.items lsa
    c.in_ok-number.is_new c.requires.store
    (c.of.ensures ∙ ap key_of
    (c.index.ensures ∙ get_or_from_slice_get c.args.lsas.now.items c.args.place lsa c.index.result.now there))
    c.in_ok-number.ensures.added c.if-is_new.true))

pub returns-then-is_new-clause-entries : goal.returns-then-is_new-clause-entries
returns-then-is_new-clause-entries c = λ lsa there.
    let len : c.len.result ≡ length c.args.differing.now.items = omega
    (arith, c.len.ensures, c.reserve.new.self.ok.0, ap length c.reserve.ensures.items) in
    entries_joined c.args.keys.now.keys c.of.result c.args.lsas.now.items c.swap.new.self.items
    c.args.differing.now.items c.push_reserved.new.self.items c.args.place lsa c.in_ok-number.is_new c.requires.store
    there c.requires.behind c.requires.inside
    (c.swap.ensures.items ∙ ap (λ (n : ℕ). swap c.args.lsas.now.items n c.args.place) len)
    (c.push_reserved.ensures.items
    ∙ ap (λ (places : List (Option ℕ)). places ++ None ∷ []) c.reserve.ensures.items)
    (c.of.ensures ∙ ap key_of
    (c.index.ensures ∙ get_or_from_slice_get c.args.lsas.now.items c.args.place lsa c.index.result.now there))
    c.in_ok-number.ensures.added c.if-is_new.true

pub returns-then-is_new-clause-store : goal.returns-then-is_new-clause-store
returns-then-is_new-clause-store c =
    let len : c.len.result ≡ length c.args.differing.now.items = omega
    (arith, c.len.ensures, c.reserve.new.self.ok.0, ap length c.reserve.ensures.items) in
    let there = slice_get_read c.args.lsas.now.items (length c.args.lsas.now.items) c.args.place c.index.result.now refl
    c.requires.inside c.index.ensures in
    store_added c.args.keys.now.keys c.insert_full.new.self.keys c.args.lsas.now.items c.swap.new.self.items
    c.args.differing.now.items c.push_reserved.new.self.items c.args.place c.index.result.now c.requires.store there
    c.requires.behind c.requires.inside
    (c.swap.ensures.items ∙ ap (λ (n : ℕ). swap c.args.lsas.now.items n c.args.place) len)
    (c.push_reserved.ensures.items
    ∙ ap (λ (places : List (Option ℕ)). places ++ None ∷ []) c.reserve.ensures.items)
    (keys_grown c.args.keys.now.keys c.insert_full.new.self.keys c.of.result c.index.result.now c.in_ok-number.is_new
    c.in_ok-number.ensures.keys c.in_ok-number.ensures.added c.if-is_new.true c.of.ensures)
    c.insert_full.ensures.unique
    (c.requires.kept c.index.result.now there)

pub returns-then-is_new-clause-behind : goal.returns-then-is_new-clause-behind
returns-then-is_new-clause-behind c = omega (
  arith,
  ap length c.push_reserved.ensures.items,
  ap length c.reserve.ensures.items,
  length_push c.reserve.new.self.items None,
  c.requires.behind,
)

pub returns-then-is_new-clause-rest : goal.returns-then-is_new-clause-rest
returns-then-is_new-clause-rest c =
    let before : c.len.result ≤ c.args.place = omega
    (arith, c.len.ensures, c.reserve.new.self.ok.0, ap length c.reserve.ensures.items, c.requires.behind) in
    ap (drop (c.args.place + 1)) c.swap.ensures.items
    ∙ after_swap c.args.lsas.now.items c.len.result c.args.place c.index.result.now before c.requires.inside

pub returns-clause-change : goal.returns-clause-change
returns-clause-change c = λ lsa there.
    let found =
    met c.args.keys.now.keys c.of.result c.args.lsas.now.items c.args.differing.now.items c.in_ok-number.number lsa
    c.in_ok-number.is_new c.requires.store
    (c.of.ensures ∙ ap key_of
    (c.index.ensures ∙ get_or_from_slice_get c.args.lsas.now.items c.args.place lsa c.index.result.now there))
    c.in_ok-number.ensures.added c.if-is_new.false c.in_ok-number.ensures.index in
    sym (ap (λ (r : List Entry × Change). r.1)
    (change_told c.args.lsas.now.items c.args.differing.now.items c.in_ok-number.number c.args.place lsa
    c.index-2.result.now c.index-3.result.now c.change_of-change.result found c.index-2.ensures there
    c.index-3.ensures c.change_of-change.ensures))

pub returns-clause-entries : goal.returns-clause-entries
returns-clause-entries c = λ lsa there.
    let places = c.reserve.new.self.items in
    let store = subst (λ (ps : List (Option ℕ)). IsStore c.args.keys.now.keys (front c.args.lsas.now.items ps) ps)
    (sym c.reserve.ensures.items) c.requires.store in
    let found =
    met c.args.keys.now.keys c.of.result c.args.lsas.now.items places c.in_ok-number.number lsa
    c.in_ok-number.is_new store
    (c.of.ensures ∙ ap key_of
    (c.index.ensures ∙ get_or_from_slice_get c.args.lsas.now.items c.args.place lsa c.index.result.now there))
    c.in_ok-number.ensures.added c.if-is_new.false c.in_ok-number.ensures.index in
    subst (λ (ps : List (Option ℕ)). entries_of (front c.turn.new.lsas.items c.turn.new.differing.items)
    c.turn.new.differing.items ≡ (installed (entries_of (front c.args.lsas.now.items ps) ps) lsa).0)
    c.reserve.ensures.items
    (c.turn.ensures.entries lsa found.entry there found.there
    ∙ sym (ap (λ (r : List Entry × Change). r.0)
    (change_told c.args.lsas.now.items places c.in_ok-number.number c.args.place lsa
    c.index-2.result.now c.index-3.result.now c.change_of-change.result found c.index-2.ensures there
    c.index-3.ensures c.change_of-change.ensures)))

pub returns-clause-store : goal.returns-clause-store
returns-clause-store c =
    let places = c.reserve.new.self.items in
    let store = subst (λ (ps : List (Option ℕ)). IsStore c.args.keys.now.keys (front c.args.lsas.now.items ps) ps)
    (sym c.reserve.ensures.items) c.requires.store in
    let there = slice_get_read c.args.lsas.now.items (length c.args.lsas.now.items) c.args.place c.index.result.now refl
    c.requires.inside c.index.ensures in
    let found =
    met c.args.keys.now.keys c.of.result c.args.lsas.now.items places c.in_ok-number.number
    c.index.result.now c.in_ok-number.is_new store c.of.ensures c.in_ok-number.ensures.added
    c.if-is_new.false c.in_ok-number.ensures.index in
    store_turned c.args.keys.now.keys c.insert_full.new.self.keys c.args.lsas.now.items
    c.turn.new.lsas.items places c.turn.new.differing.items store
    (omega (arith, ap length c.reserve.ensures.items, c.requires.behind, c.requires.inside)) c.turn.ensures.noted
    c.turn.ensures.count
    (keys_stay c.args.keys.now.keys c.insert_full.new.self.keys c.of.result c.in_ok-number.is_new
    c.in_ok-number.ensures.keys c.in_ok-number.ensures.added c.if-is_new.false)
    (c.turn.ensures.keys c.index.result.now there
    (met_key c.args.lsas.now.items places c.in_ok-number.number c.index.result.now found))
    (c.turn.ensures.kept c.index.result.now there (c.requires.kept c.index.result.now there) store.kept)
