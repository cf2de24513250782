-- Lists that hold the same LSAs, and what of a database does not hang on their order.
use Rattle.std.specs.Prelude.{◌↔◌, List, Option, if◌then◌else◌, map, slice_get, Contains, IsPermutation}
use Rattle.ospf_lsa.specs.Types.{max_age}
use Rattle.ospf_lsa.specs.declared.lsa.Lsa.{Lsa}
use Rattle.lsdb.specs.declared.key.Key.{Key}
use Rattle.lsdb.specs.Entries.{entries_in}
use Rattle.lsdb.specs.Newest.{newest_of}
use Rattle.ospf_lsa.specs.MaxAge.{is_at_max_age}

-- an LSA without its place
abbrev pub without_place : Lsa → Lsa
without_place lsa = record lsa { at = 0 }

-- one list is the other in another order, the places left out
abbrev pub AreReordered : List Lsa → List Lsa → Type 0
AreReordered lsas others = IsPermutation (map without_place lsas) (map without_place others)

-- two lists hold the same LSAs in whatever order and number, the places left out
abbrev pub HoldTheSame : List Lsa → List Lsa → Type 0
HoldTheSame lsas others = (lsa : Lsa) → Contains (map without_place lsas) lsa ↔ Contains (map without_place others) lsa

-- an LSA without its place, and of its age only whether it is MaxAge
abbrev pub timeless : Lsa → Lsa
timeless lsa = record lsa { at = 0; age = if is_at_max_age lsa then max_age else 0 }

-- the first newest instance of a key, if it has an instance
abbrev pub first_newest : List Lsa → Key → Option Lsa
first_newest lsas key = slice_get (newest_of lsas key) 0

-- the first newest instance of each key, in the order of the keys' first arrival
abbrev pub newest_in : List Lsa → List Lsa
newest_in lsas = map (λ entry. entry.lsa) (entries_in lsas)
