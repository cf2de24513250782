-- Databases in which LSAs were installed.
use Rattle.std.specs.Prelude.{◌≡◌, ◌<◌, ◌^◌, List, map}
use Rattle.std.specs.List.{AllByRecursion}
use Rattle.lsdb.specs.Entries.{Database}
use Rattle.lsdb.specs.Installing.{IsKept}
use Rattle.lsdb.specs.Orders.{newest_in}
use Rattle.ospf_lsa.specs.Lsas.{FitsBody}
use Rattle.ospf_lsa.specs.declared.lsa.Lsa.{Lsa}

-- what the database has as newest are the newest ones of a list of LSAs that may stand in one, and whose numbers fit their fields
pub record IsOfLsas (database : Database) : Type 0 where
  pub lsas : List Lsa
  pub kept : AllByRecursion IsKept lsas
  pub bodies : AllByRecursion (λ (lsa : Lsa). FitsBody lsa.body) lsas
  pub ids : AllByRecursion (λ (lsa : Lsa). lsa.id < 2 ^ 32) lsas
  pub newest : map (λ entry. entry.lsa) database.entries ≡ newest_in lsas
