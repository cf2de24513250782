-- What one more LSA is to the LSAs of a list.
use Rattle.std.specs.Prelude.{◌≡◌, Bool, true, false, List, Some}
use Rattle.std.specs.List.{filter, list_all, list_any}
use Rattle.std.specs.declared.cmp.Ordering.TheVariants.{Equal}
use Rattle.ospf_lsa.specs.declared.lsa.Lsa.{Lsa}
use Rattle.lsdb.specs.Keys.{key_of, is_of}
use Rattle.lsdb.specs.Newest.{same_but_age}
use Rattle.lsdb.specs.Orders.{first_newest}
use Rattle.lsdb.specs.Rank.{rank_cmp, outranks}

-- the LSAs of the list that have an LSA's key
abbrev pub instances_of : List Lsa → Lsa → List Lsa
instances_of lsas lsa = filter (is_of (key_of lsa)) lsas

-- no LSA of the list has its key
abbrev pub IsOfNewKey : List Lsa → Lsa → Type 0
IsOfNewKey lsas lsa = list_any (is_of (key_of lsa)) lsas ≡ false

-- there are instances of its key, and it outranks all of them
abbrev pub OutranksAll : List Lsa → Lsa → Type 0
OutranksAll lsas lsa =
    (list_any (is_of (key_of lsa)) lsas ≡ true) × (list_all (outranks lsa) (instances_of lsas lsa) ≡ true)

-- an instance of its key outranks it
abbrev pub IsOutranked : List Lsa → Lsa → Type 0
IsOutranked lsas lsa = list_any (λ other. outranks other lsa) (instances_of lsas lsa) ≡ true

-- it has the rank of its key's first newest instance, and whether it differs from that in nothing but place and age
pub record HasRankOfFirst (lsas : List Lsa) (lsa : Lsa) (alike : Bool) : Type 0 where
  pub first : Lsa
  pub is_first : first_newest lsas (key_of lsa) ≡ Some first
  pub rank : rank_cmp lsa first ≡ Equal
  pub compared : same_but_age first lsa ≡ alike
