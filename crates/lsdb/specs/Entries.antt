-- What a database of newest instances has.
use Rattle.std.specs.Prelude.{ℕ, not, List, [], ◌∷◌, Option, Some, None}
use Rattle.std.specs.List.{find, filter_map}
use Rattle.std.specs.Option.{option_map}
use Rattle.ospf_lsa.specs.declared.lsa.Lsa.{Lsa}
use Rattle.lsdb.specs.Keys.{keys_in}
use Rattle.lsdb.specs.Newest.{same_but_age, newest_of}

-- an entry: the first newest instance of a key, and the place of the first newest instance that differs from it in
-- anything but place and age, if there is one
pub record Entry : Type 0 where
  pub lsa : Lsa
  pub differing : Option ℕ

-- a database: its entries, and the greatest place of an LSA that was installed, if there was one
pub record Database : Type 0 where
  pub entries : List Entry
  pub greatest : Option ℕ

-- the entry of the newest instances of a key
abbrev pub entry_of : List Lsa → Option Entry
entry_of [] = None
entry_of (first ∷ others) = Some (record {
  lsa = first;
  differing = option_map (λ lsa. lsa.at) (find (λ lsa. not (same_but_age first lsa)) others);
})

-- the entries of a list of LSAs, in the order of their keys' first arrival
abbrev pub entries_in : List Lsa → List Entry
entries_in lsas = filter_map (λ key. entry_of (newest_of lsas key)) (keys_in lsas)
