use Rattle.std.proofs.Common.{◌∙◌, ◌<◌, ◌∷◌, ◌++◌, [], ℕ, List, Some, length, ap, subst, sym, arith}
use Rattle.std.specs.List.{AllByRecursion}
use Rattle.mrt_graph.proofs.Members.{all_append}
use Rattle.lsdb.specs.Entries.{Database, Entry}
use Rattle.lsdb.specs.Keys.{key_of}
use Rattle.flood.specs.declared.database_copy.DatabaseCopy.{DatabaseCopy}
use Rattle.flood.specs.steps.Numbers.{entries_by}
use Rattle.flood.specs.steps.SharedStore.{IsSharedStore}
use Rattle.flood.proofs.Numbered.{all_at, lsa_read}
use Rattle.flood.proofs.OneDelivery.{all_set}
use Rattle.flood.proofs.Stored.{met_by, new_by, there_by}
use Rattle.flood.proofs.store.Store.install.Goals as goal

-- the database with these entries, whose greatest place is this one
abbrev with_greatest : ℕ → List Entry → Database
with_greatest at es = record { entries = es; greatest = Some at }

pub meet-requires-clause-there : goal.meet-requires-clause-there
meet-requires-clause-there c =
    let lsas = c.args.lsas.now in
    let is = c.of.ensures ∙ ap key_of (lsa_read lsas c.args.number c.index-lsas-number.result c.requires.number c.index-lsas-number.is) in
    let within = there_by lsas c.args.self.now.keys.keys c.args.self.now.held.items c.in_ok-place.place c.in_ok-place.is_new
    c.args.self.now.greatest c.args.number c.of.result is c.requires.stored.entries c.in_ok-place.ensures.added
    c.if-is_new.false c.in_ok-place.ensures.index in
    all_at (λ (h : DatabaseCopy). h.number < length lsas) c.reserve.new.self.items c.in_ok-place.place c.index_mut.result.now
    (subst (λ (hs : List DatabaseCopy). AllByRecursion (λ (h : DatabaseCopy). h.number < length lsas) hs) (sym c.reserve.ensures.items)
    c.requires.stored.numbers)
    (omega (arith, within, ap length c.reserve.ensures.items)) c.index_mut.ensures.value

pub returns-then-is_new : goal.returns-then-is_new
returns-then-is_new c =
    let lsas = c.args.lsas.now in
    let is = c.of.ensures ∙ ap key_of (lsa_read lsas c.args.number c.index-lsas-number.result c.requires.number c.index-lsas-number.is) in
    let new = new_by lsas c.args.self.now.keys.keys c.args.self.now.held.items c.in_ok-place.is_new c.args.self.now.greatest
    c.args.number c.args.at c.of.result c.new.result is c.requires.stored.entries c.in_ok-place.ensures.added
    c.if-is_new.true c.new.ensures in
    let items = c.push_reserved.ensures.items ∙ ap (λ (hs : List DatabaseCopy). hs ++ c.new.result ∷ []) c.reserve.ensures.items in
    record {
      change = new.told;
      after = ap (with_greatest c.args.at) (ap (entries_by lsas) items ∙ new.turns);
      stored = record {
        entries = subst (λ (hs : List DatabaseCopy). IsSharedStore c.insert_full.new.self.keys (entries_by lsas hs) (Some c.args.at)) (sym items)
            (new.kept c.insert_full.new.self.keys c.args.self.now.greatest c.requires.stored.entries c.in_ok-place.ensures.keys
            c.requires.behind c.requires.small c.requires.kept);
        numbers = subst (λ (hs : List DatabaseCopy). AllByRecursion (λ (h : DatabaseCopy). h.number < length lsas) hs) (sym items)
            (all_append (λ (h : DatabaseCopy). h.number < length lsas) c.args.self.now.held.items (c.new.result ∷ [])
            c.requires.stored.numbers (subst (λ (h : DatabaseCopy). h.number < length lsas) (sym c.new.ensures) c.requires.number, tt));
      };
    }

pub returns : goal.returns
returns c =
    let lsas = c.args.lsas.now in
    let is = c.of.ensures ∙ ap key_of (lsa_read lsas c.args.number c.index-lsas-number.result c.requires.number c.index-lsas-number.is) in
    let within = there_by lsas c.args.self.now.keys.keys c.args.self.now.held.items c.in_ok-place.place c.in_ok-place.is_new
    c.args.self.now.greatest c.args.number c.of.result is c.requires.stored.entries c.in_ok-place.ensures.added
    c.if-is_new.false c.in_ok-place.ensures.index in
    let met = met_by lsas c.args.self.now.keys.keys c.args.self.now.held.items c.reserve.new.self.items c.in_ok-place.place
    c.in_ok-place.is_new c.args.self.now.greatest c.args.number c.args.at c.of.result c.index_mut.result.now c.meet.new.self
    c.meet.result is c.requires.stored.entries c.reserve.ensures.items c.in_ok-place.ensures.added c.if-is_new.false
    c.in_ok-place.ensures.index (omega (arith, within, ap length c.reserve.ensures.items)) c.index_mut.ensures.value
    c.meet.ensures.change c.meet.ensures.after in
    record {
      change = met.told;
      after = ap (with_greatest c.args.at) met.turns;
      stored = record {
        entries = met.kept c.insert_full.new.self.keys c.args.self.now.greatest c.requires.stored.entries
            c.in_ok-place.ensures.keys c.requires.behind c.requires.kept;
        numbers = all_set (λ (h : DatabaseCopy). h.number < length lsas) c.reserve.new.self.items c.in_ok-place.place c.meet.new.self
            (subst (λ (hs : List DatabaseCopy). AllByRecursion (λ (h : DatabaseCopy). h.number < length lsas) hs) (sym c.reserve.ensures.items)
            c.requires.stored.numbers)
            c.meet.ensures.within;
      };
    }
