use Rattle.std.proofs.Common.{◌≡◌, length}
use Rattle.std.specs.Iterator.Adapters.{zip_first, zip_second}
use Rattle.std.specs.Slice.Iter.{iter_rest}
use Rattle.lsdb.specs.Conflicts.{earlier, least_conflict}
use Rattle.lsdb.specs.steps.Store.{entries_of}
use Rattle.lsdb.proofs.conflicts.least.Given as goal

abbrev pub invariant-loop-lsa : goal.invariant-loop-lsa
invariant-loop-lsa l =
    let lsas = iter_rest (zip_first l.lsa-iterator) in
    let places = iter_rest (zip_second l.lsa-iterator) in
    record {
      even : length places ≡ length lsas;
      rest : earlier l.least (least_conflict (entries_of lsas places))
          ≡ least_conflict (entries_of l.lsas l.differing);
    }
