-- The conflicts of a database: newest instances of one key that differ in more than place and age.
use Rattle.std.specs.Prelude.{nat_lt, List, [], ◌∷◌, Option, Some, None, Result, Ok, Err, if◌then◌else◌}
use Rattle.std.specs.Option.{option_map}
use Rattle.lsdb.specs.declared.change.Conflict.{Conflict}
use Rattle.lsdb.specs.Entries.{Entry}

-- the conflict of an entry, if it has one: the places of its LSA and of the first newest instance that differs from it
abbrev pub conflict_of : Entry → Option Conflict
conflict_of entry = option_map (λ at. record { first = entry.lsa.at; second = at }) entry.differing

-- of two conflicts that with the lesser second place, and the former where they are equal
abbrev pub earlier : Option Conflict → Option Conflict → Option Conflict
earlier None other = other
earlier (Some one) None = Some one
earlier (Some one) (Some other) = if nat_lt other.second one.second then Some other else Some one

-- of all conflicts that with the least second place
abbrev pub least_conflict : List Entry → Option Conflict
least_conflict [] = None
least_conflict (entry ∷ entries) = earlier (conflict_of entry) (least_conflict entries)

-- a refusal where there is a conflict, and where there is none the database is settled
abbrev pub settled_by : Option Conflict → Result (Unit {0}) Conflict
settled_by None = Ok tt
settled_by (Some conflict) = Err conflict
