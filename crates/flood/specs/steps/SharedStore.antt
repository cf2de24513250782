-- How the code keeps a router's database.
use Rattle.std.specs.Prelude.{◌≡◌, ◌≤◌, ◌+◌, ◌^◌, ℕ, List, Option, Some, None, length, map}
use Rattle.ospf_lsa.specs.declared.lsa.Lsa.{Lsa}
use Rattle.lsdb.specs.declared.key.Key.{Key}
use Rattle.lsdb.specs.Entries.{Entry}
use Rattle.lsdb.specs.steps.Store.{IsStore}

-- the first newest instances
abbrev pub lsas_in : List Entry → List Lsa
lsas_in entries = map (λ entry. entry.lsa) entries

-- the places of the differing ones
abbrev pub places_in : List Entry → List (Option ℕ)
places_in entries = map (λ entry. entry.differing) entries

-- at most one entry for each place up to the greatest
abbrev pub IsCounted : Option ℕ → ℕ → Type 0
IsCounted None count = count ≡ 0
IsCounted (Some greatest) count = count ≤ greatest + 1

-- keys and entries are those of a database, and there are at most 4,294,967,296 of them
pub record IsSharedStore (keys : List Key) (entries : List Entry) (greatest : Option ℕ) : Type 0 where
  pub store : IsStore keys (lsas_in entries) (places_in entries)
  pub counted : IsCounted greatest (length entries)
  pub few : length entries ≤ 2 ^ 32
