use Rattle.std.proofs.Common.{◌≡◌, List, drop}
use Rattle.ospf_lsa.specs.declared.lsa.Lsa.{Lsa}
use Rattle.lsdb.specs.Conflicts.{least_conflict}
use Rattle.flood.specs.steps.Numbers.{entries_by}
use Rattle.flood.proofs.store.Store.is_settled.Given as goal

abbrev pub invariant-loop-held : goal.invariant-loop-held
invariant-loop-held l =
    (lsas : List Lsa) → least_conflict (entries_by lsas (drop l.held-index l.held-items))
    ≡ least_conflict (entries_by lsas l.held-items)
