-- A router that packets reach.
use Rattle.std.specs.Prelude.{ℕ}
use Rattle.lsdb.specs.Entries.{Database}

-- its database, and how many LSAs of types 1 and 2 have arrived for it
pub record Router : Type 0 where
  pub database : Database
  pub arrivals : ℕ
