use Rattle.std.proofs.Common.{◌≡◌, ◌∙◌, ◌+◌, ◌<◌, List, ap, arith, drop, get_or, length, refl, subst, sym}
use Rattle.std.proofs.lemmas.List.{drop_all}
use Rattle.std.proofs.lemmas.Option.{get_or_from_slice_get, slice_get_read}
use Rattle.ospf_lsa.specs.declared.lsa.Lsa.{Lsa}
use Rattle.ospf_lsa.specs.AreaLsas.{is_area_lsa}
use Rattle.lsdb.specs.Database.{entering}
use Rattle.lsdb.specs.Entries.{entries_in}
use Rattle.lsdb.specs.steps.Store.{entries_of, front}
use Rattle.lsdb.proofs.Entering.{at_place, installed_next, next_one, none_left, type_of, IsUnderWay}
use Rattle.lsdb.proofs.Fronts.{store_first}
use Rattle.lsdb.proofs.whole.database_of.Goals as goal

pub install_at-requires-clause-kept : goal.install_at-requires-clause-kept
install_at-requires-clause-kept c = λ lsa there.
    let inside : c.loop-place.place < length c.loop-place.list.items = omega
    (arith, c.loop-place-test.true, c.len-place-end.ensures, c.args.lsas.ok.0, c.loop-place.invariant.count) in
    let read : get_or c.loop-place.list.items c.loop-place.place lsa ≡ lsa =
    get_or_from_slice_get c.loop-place.list.items c.loop-place.place lsa lsa there in
    let same : c.index.result.now ≡ lsa =
    c.index.ensures
    ∙ get_or_from_slice_get c.loop-place.list.items c.loop-place.place lsa c.index.result.now there in
    c.an_lsa_without_a_fault_may_be_installed.ensures lsa
    (next_one _ lsa (drop (c.loop-place.place + 1) c.loop-place.list.items)
    (drop c.loop-place.place c.loop-place.list.items) _
    (at_place c.loop-place.list.items c.loop-place.place lsa inside (sym read)) c.loop-place.invariant.under_way)
    (type_of lsa (ap is_area_lsa (sym same) ∙ sym c.is_area_lsa.ensures ∙ c.if-not-is_area_lsa.false))

pub loop-place-init : goal.loop-place-init
loop-place-init c =
    let none = c.new-differing.ensures.items in
    record {
      count = refl;
      behind = omega (arith, ap length none);
      store = store_first _ c.args.lsas.items _ c.with_hasher-keys.ensures.empty none;
      under_way = record {
        at = 0;
        left = c.requires;
        comes = rw none (c.entries_are_those_of_the_list.ensures (entering c.args.lsas.items));
      };
    }

pub loop-place-preserved : goal.loop-place-preserved
loop-place-preserved c =
    let inside : c.loop-place.place < length c.loop-place.list.items = omega
    (arith, c.loop-place-test.true, c.len-place-end.ensures, c.args.lsas.ok.0, c.loop-place.invariant.count) in
    let there = slice_get_read c.loop-place.list.items (length c.loop-place.list.items) c.loop-place.place
    c.index.result.now refl inside c.index.ensures in
    record {
      count = c.in_ok-install_at.ensures.count ∙ c.loop-place.invariant.count;
      behind = c.in_ok-install_at.ensures.behind;
      store = c.in_ok-install_at.ensures.store;
      under_way = subst
          (λ (rest : List Lsa). IsUnderWay
          (entries_of (front c.install_at.new.lsas.items c.install_at.new.differing.items)
          c.install_at.new.differing.items) rest (entries_in (entering c.args.lsas.items)))
          (sym c.in_ok-install_at.ensures.rest)
          (installed_next _ _ c.index.result.now (drop (c.loop-place.place + 1) c.loop-place.list.items)
          (drop c.loop-place.place c.loop-place.list.items) _ (sym c.is_area_lsa.ensures ∙ c.if-not-is_area_lsa.false)
          (c.in_ok-install_at.ensures.entries c.index.result.now there)
          (at_place c.loop-place.list.items c.loop-place.place c.index.result.now inside c.index.ensures)
          c.loop-place.invariant.under_way);
    }

pub returns : goal.returns
returns c =
    c.at_front.ensures.entries
    ∙ none_left _ _ _
    (drop_all c.loop-place.place c.loop-place.list.items (omega
    (arith, c.loop-place-test.false, c.len-place-end.ensures, c.args.lsas.ok.0, c.loop-place.invariant.count)))
    c.loop-place.invariant.under_way
