-- What is wrong with the bytes of a database.
use Rattle.std.specs.Prelude.{ℕ, List}
use Rattle.lsdb.specs.Database.{HoldsLsas, entering}
use Rattle.lsdb.specs.Disagreements.{IsFirstConflictOf}
use Rattle.ospf_lsa.specs.declared.lsa.Lsa.{Lsa as Advertisement}
use Rattle.ospf_lsa.specs.Outcome.{IsFirstLsaFault}
use Rattle.mrt_exit.specs.declared.exit.DbKind.{DbKind}
use Rattle.mrt_exit.specs.declared.exit.DbKind.TheVariants.{Lsa, Conflict}

-- what is wrong with the bytes: the first record with a fault, and its first fault; where there is none, the conflict with the least
-- second place
abbrev pub IsBadDatabase : List ℕ → ℕ → DbKind → Type 0
IsBadDatabase bytes at (Lsa kind) = IsFirstLsaFault bytes at kind
IsBadDatabase bytes at (Conflict first) =
    (lsas : List Advertisement) × HoldsLsas bytes lsas × IsFirstConflictOf (entering lsas) (record { first = first; second = at })
