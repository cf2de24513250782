-- How the code keeps a database.
use Rattle.std.specs.Prelude.{◌≡◌, ℕ, Bool, List, [], ◌∷◌, Option, length, map, take}
use Rattle.std.specs.List.{AllByRecursion}
use Rattle.ospf_lsa.specs.declared.lsa.Lsa.{Lsa}
use Rattle.lsdb.specs.declared.key.Key.{Key}
use Rattle.lsdb.specs.Entries.{Entry}
use Rattle.lsdb.specs.Installing.{IsKept}
use Rattle.lsdb.specs.Keys.{key_of, same_key, AreDistinct}

-- the entries of these LSAs, each with the place of its differing instance
abbrev pub entries_of : List Lsa → List (Option ℕ) → List Entry
entries_of [] differing = []
entries_of (lsa ∷ lsas) [] = []
entries_of (lsa ∷ lsas) (place ∷ places) = record { lsa = lsa; differing = place } ∷ entries_of lsas places

-- the LSAs at the front of a list, one for each of these places
abbrev pub front : List Lsa → List (Option ℕ) → List Lsa
front lsas differing = take (length differing) lsas

-- the keys are those of the LSAs and differ, each LSA has its differing place or none, and may stand in a database
pub record IsStore (keys : List Key) (lsas : List Lsa) (differing : List (Option ℕ)) : Type 0 where
  pub keyed : keys ≡ map key_of lsas
  pub distinct : AreDistinct lsas
  pub noted : length differing ≡ length lsas
  pub kept : AllByRecursion IsKept lsas

-- whether an entry is of the key
abbrev pub is_entry_of : Key → Entry → Bool
is_entry_of key entry = same_key key (key_of entry.lsa)
