-- What the bytes of a database hold.
use Rattle.std.specs.Prelude.{◌≡◌, ℕ, List}
use Rattle.std.specs.List.{filter}
use Rattle.ospf_lsa.specs.declared.lsa.Lsa.{Lsa}
use Rattle.ospf_lsa.specs.AreaLsas.{is_area_lsa}
use Rattle.ospf_lsa.specs.LsaText.{lsas_text}
use Rattle.ospf_lsa.specs.Lsas.{AreLsas}
use Rattle.lsdb.specs.Newest.{IsSettled}
use Rattle.lsdb.specs.Orders.{newest_in}

-- the bytes are these LSAs, each without a fault, one after another
pub record HoldsLsas (bytes : List ℕ) (lsas : List Lsa) : Type 0 where
  pub each : AreLsas 0 lsas
  pub spelled : bytes ≡ lsas_text lsas

-- the LSAs that enter the database: router-LSAs (type 1) and network-LSAs (type 2)
abbrev pub entering : List Lsa → List Lsa
entering lsas = filter is_area_lsa lsas

-- the bytes are LSAs, of those that enter the database no two newest instances contradict each other, and these are the newest ones
pub record IsDatabase (bytes : List ℕ) (newest : List Lsa) : Type 0 where
  pub lsas : List Lsa
  pub held : HoldsLsas bytes lsas
  pub settled : IsSettled (entering lsas)
  pub newest_ones : newest ≡ newest_in (entering lsas)
