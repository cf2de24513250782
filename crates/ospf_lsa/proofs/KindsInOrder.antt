-- The first fault of a record is one.
use Rattle.std.proofs.Common.{◌≡◌, ◌<◌, ℕ, zero, suc, List, inl, inr, refl, sym, ap, ◌∙◌, arith}
use Rattle.std.proofs.lemmas.Bool.{cases_lt}
use Rattle.ospf_lsa.specs.declared.error.LsaKind.{LsaKind}
use Rattle.ospf_lsa.specs.declared.error.LsaKind.TheVariants as kinds
use Rattle.ospf_lsa.specs.Faults.{IsTruncated, HasShortLength, HasBadChecksum, HasReservedSequence, HasIdMismatch, HasBadBody, HasFault, HasFirstFault, order_of}

-- the kind that is told in this place
kind_at : ℕ → LsaKind
kind_at zero = kinds.Truncated
kind_at (suc zero) = kinds.Length
kind_at (suc (suc zero)) = kinds.Checksum
kind_at (suc (suc (suc zero))) = kinds.ReservedSequence
kind_at (suc (suc (suc (suc zero)))) = kinds.IdMismatch
kind_at (suc (suc (suc (suc (suc zero))))) = kinds.Body
kind_at (suc (suc (suc (suc (suc (suc n)))))) = kinds.ZeroMetric

kind_back : (kind : LsaKind) → kind_at (order_of kind) ≡ kind
unfolding kind_at
kind_back kinds.Truncated = refl
kind_back kinds.Length = refl
kind_back kinds.Checksum = refl
kind_back kinds.ReservedSequence = refl
kind_back kinds.IdMismatch = refl
kind_back kinds.Body = refl
kind_back kinds.ZeroMetric = refl

pub one_first_kind : (bytes : List ℕ) (kind other : LsaKind) → HasFirstFault kind bytes → HasFirstFault other bytes
    → kind ≡ other
one_first_kind bytes kind other first second = elim (cases_lt (order_of kind) (order_of other)) [
  | inl below ↦ absurd (second.none_earlier kind below first.fault)
  | inr above ↦ elim (cases_lt (order_of other) (order_of kind)) [
    | inl below ↦ absurd (first.none_earlier other below second.fault)
    | inr same ↦ let equal : order_of kind ≡ order_of other = omega (arith, above, same) in sym (kind_back kind)
        ∙ ap kind_at equal ∙ kind_back other
  ]
]

-- what there is not of the kinds before a place in their order
pub record NoneBefore (place : ℕ) (bytes : List ℕ) : Type 0 where
  pub truncated : 0 < place → ¬ IsTruncated bytes
  pub short : 1 < place → ¬ HasShortLength bytes
  pub checksum : 2 < place → ¬ HasBadChecksum bytes
  pub sequence : 3 < place → ¬ HasReservedSequence bytes
  pub id : 4 < place → ¬ HasIdMismatch bytes
  pub body : 5 < place → ¬ HasBadBody bytes
  pub few : place < 7

none_of : (place : ℕ) (bytes : List ℕ) → NoneBefore place bytes → (other : LsaKind) → order_of other < place
    → ¬ HasFault other bytes
none_of place bytes none kinds.Truncated below = none.truncated below
none_of place bytes none kinds.Length below = none.short below
none_of place bytes none kinds.Checksum below = none.checksum below
none_of place bytes none kinds.ReservedSequence below = none.sequence below
none_of place bytes none kinds.IdMismatch below = none.id below
none_of place bytes none kinds.Body below = none.body below
none_of place bytes none kinds.ZeroMetric below = absurd (omega (arith, below, none.few))

pub first_of : (kind : LsaKind) (bytes : List ℕ) → HasFault kind bytes → NoneBefore (order_of kind) bytes
    → HasFirstFault kind bytes
first_of kind bytes fault none = record { fault = fault; none_earlier = none_of (order_of kind) bytes none }
