use Rattle.std.proofs.Common.{◌≡◌, ◌≤◌, drop, length}
use Rattle.lsdb.specs.Database.{entering}
use Rattle.lsdb.specs.Entries.{entries_in}
use Rattle.lsdb.specs.steps.Store.{entries_of, front, IsStore}
use Rattle.lsdb.proofs.Entering.{IsUnderWay}
use Rattle.lsdb.proofs.whole.database_of.Given as goal

abbrev pub invariant-loop-place : goal.invariant-loop-place
invariant-loop-place l = record {
  count : length l.list.items ≡ length l.fn.lsas.items;
  behind : length l.differing.items ≤ l.place;
  store : IsStore l.keys.keys (front l.list.items l.differing.items) l.differing.items;
  under_way : IsUnderWay (entries_of (front l.list.items l.differing.items) l.differing.items)
      (drop l.place l.list.items) (entries_in (entering l.fn.lsas.items));
}
