use Rattle.std.proofs.Common.{◌<◌, ◌≤◌, ℕ, Option, length, sym, ap, subst, arith}
use Rattle.std.proofs.lemmas.List.{length-map}
use Rattle.ospf_lsa.specs.declared.lsa.Lsa.{Lsa}
use Rattle.lsdb.specs.Installing.{IsBehind}
use Rattle.flood.specs.declared.database_copy.DatabaseCopy.{DatabaseCopy}
use Rattle.flood.specs.Runs.{last_number}
use Rattle.flood.specs.steps.Numbers.{entries_by, entry_in}
use Rattle.flood.proofs.Copies.{behind_last, copied_all, copied_more, kept_copy}
use Rattle.flood.proofs.Numbered.{all_at, entry_read}
use Rattle.flood.proofs.store.Store.copied.Goals as goal

pub copy_of-requires : goal.copy_of-requires
copy_of-requires c =
    all_at (λ (h : DatabaseCopy). h.number < length c.args.lsas.now) c.args.self.now.held.items c.loop-place.place c.index.result.now
    c.requires.numbers (omega arith) c.index.ensures

pub install-requires-clause-kept : goal.install-requires-clause-kept
install-requires-clause-kept c =
    let within : c.loop-place.place < length c.args.self.now.held.items = omega arith in
    kept_copy (entries_by c.args.lsas.now c.args.self.now.held.items) c.loop-place.place
    (entry_in c.args.lsas.now c.index.result.now) c.in_ok-lsa.lsa
    (omega (arith, within, length-map c.args.self.now.held.items (entry_in c.args.lsas.now)))
    (entry_read c.args.lsas.now c.args.self.now.held.items c.loop-place.place c.index.result.now within c.index.ensures)
    c.in_ok-lsa.ensures c.requires.entries.store.kept

pub install-requires-clause-behind : goal.install-requires-clause-behind
install-requires-clause-behind c =
    subst (λ (o : Option ℕ). IsBehind o c.in_ok-lsa.lsa.at) (sym c.loop-place.invariant.last)
    (subst (λ (n : ℕ). IsBehind (last_number c.loop-place.place) n) (sym (ap (λ (l : Lsa). l.at) c.in_ok-lsa.ensures)) (behind_last c.loop-place.place))

pub loop-place-preserved : goal.loop-place-preserved
loop-place-preserved c =
    let within : c.loop-place.place < length c.args.self.now.held.items = omega arith in
    copied_more (entries_by c.args.lsas.now c.args.self.now.held.items) c.loop-place.place c.loop-place.copy
    c.install.new.self c.in_ok-lsa.lsa (entry_in c.args.lsas.now c.index.result.now)
    (omega (arith, within, length-map c.args.self.now.held.items (entry_in c.args.lsas.now)))
    (entry_read c.args.lsas.now c.args.self.now.held.items c.loop-place.place c.index.result.now within c.index.ensures)
    c.in_ok-lsa.ensures c.loop-place.invariant c.in_ok-install.ensures.entries c.in_ok-install.ensures.greatest

pub returns-clause-entries : goal.returns-clause-entries
returns-clause-entries c =
    let past : length c.args.self.now.held.items ≤ c.loop-place.place = omega arith in
    copied_all (entries_by c.args.lsas.now c.args.self.now.held.items) c.loop-place.place c.loop-place.copy
    (omega (arith, past, length-map c.args.self.now.held.items (entry_in c.args.lsas.now))) c.loop-place.invariant
