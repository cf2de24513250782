-- Whole databases that LSAs are installed in.
use Rattle.std.specs.Prelude.{List, [], ◌∷◌, Some, None}
use Rattle.ospf_lsa.specs.declared.lsa.Lsa.{Lsa}
use Rattle.lsdb.specs.Entries.{Database}
use Rattle.lsdb.specs.Installing.{installed}

-- the database in which no LSA was installed
abbrev pub empty_database : Database
empty_database = record { entries = []; greatest = None }

-- a database after one more LSA was installed, whose place comes after the greatest there
abbrev pub after_install : Database → Lsa → Database
after_install database lsa = record { entries = (installed database.entries lsa).0; greatest = Some lsa.at }

-- a database after LSAs were installed one after another
abbrev pub after_installs : Database → List Lsa → Database
after_installs database [] = database
after_installs database (lsa ∷ lsas) = after_installs (after_install database lsa) lsas
