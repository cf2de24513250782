-- What names an LSA (RFC 2328, section 12.1).
use Rattle.std.specs.Prelude.{Bool, not, ◌&&◌, ◌==◌, List, [], ◌∷◌, map}
use Rattle.std.specs.List.{filter, IsDistinct}
use Rattle.ospf_lsa.specs.declared.lsa.Lsa.{Lsa}
use Rattle.lsdb.specs.declared.key.Key.{Key}

-- the key of an LSA: its LS type, its link state ID and its advertising router
abbrev pub key_of : Lsa → Key
key_of lsa = record { kind = lsa.kind; id = lsa.id; router = lsa.router }

-- whether two keys are one
abbrev pub same_key : Key → Key → Bool
same_key one other = (one.kind == other.kind) && ((one.id == other.id) && (one.router == other.router))

-- whether an LSA is an instance of the key
abbrev pub is_of : Key → Lsa → Bool
is_of key lsa = same_key key (key_of lsa)

-- the keys of LSAs, in the order of their first arrival
abbrev pub keys_in : List Lsa → List Key
keys_in [] = []
keys_in (lsa ∷ lsas) = key_of lsa ∷ filter (λ key. not (same_key (key_of lsa) key)) (keys_in lsas)

-- no two of these LSAs have one key
abbrev pub AreDistinct : List Lsa → Type 0
AreDistinct lsas = IsDistinct same_key (map key_of lsas)
