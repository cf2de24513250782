-- The conflicts of a list of LSAs, and the one that is told.
use Rattle.std.specs.Prelude.{◌≡◌, ◌≤◌, not, List, ◌∷◌, Some, Contains}
use Rattle.std.specs.List.{find}
use Rattle.ospf_lsa.specs.declared.lsa.Lsa.{Lsa}
use Rattle.lsdb.specs.declared.change.Conflict.{Conflict}
use Rattle.lsdb.specs.declared.key.Key.{Key}
use Rattle.lsdb.specs.Conflicts.{conflict_of}
use Rattle.lsdb.specs.Entries.{Entry}
use Rattle.lsdb.specs.Newest.{newest_of, same_but_age}

-- the places of a key's first newest instance and of the first newest one that differs from it in more than place and
-- age
pub record IsConflictOf (lsas : List Lsa) (conflict : Conflict) : Type 0 where
  pub key : Key
  pub first : Lsa
  pub others : List Lsa
  pub newest : newest_of lsas key ≡ first ∷ others
  pub second : Lsa
  pub differs : find (λ lsa. not (same_but_age first lsa)) others ≡ Some second
  pub places : conflict ≡ record { first = first.at; second = second.at }

-- a conflict of the list, and no other has a lesser second place
pub record IsFirstConflictOf (lsas : List Lsa) (conflict : Conflict) : Type 0 where
  pub is_one : IsConflictOf lsas conflict
  pub least : (other : Conflict) → IsConflictOf lsas other → conflict.second ≤ other.second

-- the conflict of one of these entries, and no other entry has one with a lesser second place
pub record IsFirstConflict (entries : List Entry) (conflict : Conflict) : Type 0 where
  pub entry : Entry
  pub there : Contains entries entry
  pub its : conflict_of entry ≡ Some conflict
  pub least : (other : Entry) (conflict' : Conflict) → Contains entries other → conflict_of other ≡ Some conflict'
      → conflict.second ≤ conflict'.second
