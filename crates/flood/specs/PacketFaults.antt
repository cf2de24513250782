-- The faults of the packet at the front of bytes.
use Rattle.std.specs.Prelude.{◌≡◌, ◌≢◌, ◌<◌, ◌+◌, ◌⊎◌, ℕ, List, length}
use Rattle.ospf_lsa.specs.declared.error.LsaKind.{LsaKind}
use Rattle.ospf_lsa.specs.declared.lsa.Lsa.{Lsa}
use Rattle.ospf_lsa.specs.Lsas.{AreLsas}
use Rattle.ospf_lsa.specs.LsaText.{lsas_text}
use Rattle.ospf_lsa.specs.Outcome.{IsFirstLsaFault}
use Rattle.flood.specs.declared.error.UpdateKind.{UpdateKind}
use Rattle.flood.specs.declared.error.UpdateKind.TheVariants as kinds
use Rattle.flood.specs.PacketFields.{ospf_version, link_state_update, version_field, type_field, length_field, count_field, lsa_bytes}

-- fewer than 28 bytes are left, or fewer than its length field says
abbrev pub IsTruncated : List ℕ → Type 0
IsTruncated bytes = (length bytes < 28) ⊎ (length bytes < length_field bytes)

-- its version or its type is another
abbrev pub HasOtherHeader : List ℕ → Type 0
HasOtherHeader bytes = (version_field bytes ≢ ospf_version) ⊎ (type_field bytes ≢ link_state_update)

-- its length field is below 28
abbrev pub HasShortLength : List ℕ → Type 0
HasShortLength bytes = length_field bytes < 28

-- the bytes after its count have a first record with a fault, this one, which begins so far into the packet
pub record HasLsaFault (kind : LsaKind) (offset : ℕ) (bytes : List ℕ) : Type 0 where
  pub place : ℕ
  pub fault : IsFirstLsaFault (lsa_bytes bytes) place kind
  pub told : offset ≡ 28 + place

-- the bytes after its count are LSAs, and as many as its count says are they not
pub record HasOtherCount (bytes : List ℕ) : Type 0 where
  pub lsas : List Lsa
  pub faultless : AreLsas 0 lsas
  pub spelled : lsa_bytes bytes ≡ lsas_text lsas
  pub differs : count_field bytes ≢ length lsas

-- it has a fault of this kind, which is told so far into the packet: that of an LSA at the LSA's record, any other at
-- the packet itself
abbrev pub HasFault : UpdateKind → ℕ → List ℕ → Type 0
HasFault kinds.Truncated offset bytes = (offset ≡ 0) × IsTruncated bytes
HasFault kinds.Header offset bytes = (offset ≡ 0) × HasOtherHeader bytes
HasFault kinds.Length offset bytes = (offset ≡ 0) × HasShortLength bytes
HasFault (kinds.Lsa kind) offset bytes = HasLsaFault kind offset bytes
HasFault kinds.Count offset bytes = (offset ≡ 0) × HasOtherCount bytes

-- the order in which the kinds are told
abbrev pub order_of : UpdateKind → ℕ
order_of kinds.Truncated = 0
order_of kinds.Header = 1
order_of kinds.Length = 2
order_of (kinds.Lsa kind) = 3
order_of kinds.Count = 4

-- its first fault is of this kind: it has that fault, and none of a kind that is told earlier
pub record HasFirstFault (kind : UpdateKind) (offset : ℕ) (bytes : List ℕ) : Type 0 where
  pub fault : HasFault kind offset bytes
  pub none_earlier : (other : UpdateKind) (place : ℕ) → order_of other < order_of kind → ¬ HasFault other place bytes
