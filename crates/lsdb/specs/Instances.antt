-- The same instances of LSAs in two lists, each at an age of its own (RFC 2328, section 13.1).
use Rattle.std.specs.Prelude.{◌≡◌, ◌≢◌, true, List, Contains}
use Rattle.ospf_lsa.specs.MaxAge.{is_at_max_age}
use Rattle.ospf_lsa.specs.declared.lsa.Lsa.{Lsa}
use Rattle.lsdb.specs.Newest.{same_but_age}

-- two LSAs are the same instance: they differ in nothing but their place in a file and their age, and both are at MaxAge or
-- neither is
pub record IsSameInstance (one other : Lsa) : Type 0 where
  pub alike : same_but_age one other ≡ true
  pub max_age : is_at_max_age one ≡ is_at_max_age other

-- each LSA of either list is like one of the other
pub record AreAllLike (IsLike : Lsa → Lsa → Type 0) (lsas others : List Lsa) : Type 0 where
  pub there : (lsa : Lsa) → Contains lsas lsa → (other : Lsa) × Contains others other × IsLike lsa other
  pub back : (other : Lsa) → Contains others other → (lsa : Lsa) × Contains lsas lsa × IsLike lsa other

-- two lists hold the same instances, each in an order of its own
abbrev pub HoldTheSameInstances : List Lsa → List Lsa → Type 0
HoldTheSameInstances lsas others = AreAllLike IsSameInstance lsas others

-- two lists hold the same LSAs but for their places and ages
abbrev pub HoldTheSameButAge : List Lsa → List Lsa → Type 0
HoldTheSameButAge lsas others = AreAllLike (λ one other. same_but_age one other ≡ true) lsas others

-- an LSA that two lists hold is at MaxAge in one of them, and not in the other
pub record DifferInMaxAge (lsas others : List Lsa) : Type 0 where
  pub one : Lsa
  pub in_one : Contains lsas one
  pub other : Lsa
  pub in_other : Contains others other
  pub alike : same_but_age one other ≡ true
  pub max_age : is_at_max_age one ≢ is_at_max_age other
