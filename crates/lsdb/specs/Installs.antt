-- A list of installs.
use Rattle.std.specs.Prelude.{ℕ, List, [], ◌∷◌, Option, Some}
use Rattle.ospf_lsa.specs.declared.lsa.Lsa.{Lsa}
use Rattle.lsdb.specs.Entries.{Entry}
use Rattle.lsdb.specs.Installing.{installed, IsBehind}

-- the entries after LSAs were installed one after another
abbrev pub all_installed : List Entry → List Lsa → List Entry
all_installed entries [] = entries
all_installed entries (lsa ∷ lsas) = all_installed (installed entries lsa).0 lsas

-- the places of LSAs rise, and come after the greatest before them
abbrev pub AreBehind : Option ℕ → List Lsa → Type 0
AreBehind greatest [] = Unit {0}
AreBehind greatest (lsa ∷ lsas) = IsBehind greatest lsa.at × AreBehind (Some lsa.at) lsas
