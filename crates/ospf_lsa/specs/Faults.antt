-- The faults of the record at the front of bytes.
use Rattle.std.specs.Prelude.{◌≡◌, ◌≢◌, ◌<◌, ◌^◌, ◌%◌, ◌⊎◌, ℕ, true, false, List, length}
use Rattle.std.specs.List.{list_any}
use Rattle.ospf_lsa.specs.declared.error.LsaKind.{LsaKind}
use Rattle.ospf_lsa.specs.declared.error.LsaKind.TheVariants as kinds
use Rattle.ospf_lsa.specs.declared.lsa.RouterLink.{RouterLink}
use Rattle.ospf_lsa.specs.declared.lsa.Body.TheVariants.{Router}
use Rattle.ospf_lsa.specs.Checksum.{is_good}
use Rattle.ospf_lsa.specs.Header.{type_field, id_field, router_field, sequence_field, checksum_field, length_field, covered_bytes, body_bytes}
use Rattle.ospf_lsa.specs.LsaText.{body_text}
use Rattle.ospf_lsa.specs.Lsas.{has_zero_metric, FitsBody}
use Rattle.ospf_lsa.specs.Types.{router_lsa, network_lsa}

-- these bytes are a router-LSA's body of these links: its flags, its spare byte, the number of its links, and they
-- themselves, each with as many TOS entries as it says, with nothing after them; each number fits its field
pub record SpellsLinks (bytes : List ℕ) (links : List RouterLink) : Type 0 where
  pub flags : ℕ
  pub spare : ℕ
  pub tos : List ℕ
  pub fits : FitsBody (Router flags spare links tos)
  pub spelled : bytes ≡ body_text (Router flags spare links tos)

-- fewer than 20 bytes are left, or fewer than its length field says
abbrev pub IsTruncated : List ℕ → Type 0
IsTruncated bytes = (length bytes < 20) ⊎ (length bytes < length_field bytes)

-- its length field is below 20
abbrev pub HasShortLength : List ℕ → Type 0
HasShortLength bytes = length_field bytes < 20

-- its checksum is not good
abbrev pub HasBadChecksum : List ℕ → Type 0
HasBadChecksum bytes = is_good (covered_bytes bytes) (checksum_field bytes) ≡ false

-- its sequence number is 0x80000000
abbrev pub HasReservedSequence : List ℕ → Type 0
HasReservedSequence bytes = sequence_field bytes ≡ 2 ^ 31

-- it is a router-LSA, and link state ID and advertising router differ
abbrev pub HasIdMismatch : List ℕ → Type 0
HasIdMismatch bytes = (type_field bytes ≡ router_lsa) × (id_field bytes ≢ router_field bytes)

-- it is a router-LSA, and its body is not that of any links; or it is a network-LSA, and its length is below 24 or no
-- multiple of 4
abbrev pub HasBadBody : List ℕ → Type 0
HasBadBody bytes =
    ((type_field bytes ≡ router_lsa) × ((links : List RouterLink) → ¬ SpellsLinks (body_bytes bytes) links))
    ⊎ ((type_field bytes ≡ network_lsa) × ((length_field bytes < 24) ⊎ (length_field bytes % 4 ≢ 0)))

-- it is a router-LSA, and its body is that of links of which one to a router or to a transit network has metric 0
abbrev pub HasZeroMetric : List ℕ → Type 0
HasZeroMetric bytes =
    (type_field bytes ≡ router_lsa)
    × ((links : List RouterLink) × SpellsLinks (body_bytes bytes) links × (list_any has_zero_metric links ≡ true))

-- it has a fault of this kind
abbrev pub HasFault : LsaKind → List ℕ → Type 0
HasFault kinds.Truncated bytes = IsTruncated bytes
HasFault kinds.Length bytes = HasShortLength bytes
HasFault kinds.Checksum bytes = HasBadChecksum bytes
HasFault kinds.ReservedSequence bytes = HasReservedSequence bytes
HasFault kinds.IdMismatch bytes = HasIdMismatch bytes
HasFault kinds.Body bytes = HasBadBody bytes
HasFault kinds.ZeroMetric bytes = HasZeroMetric bytes

-- the order in which the kinds are told
abbrev pub order_of : LsaKind → ℕ
order_of kinds.Truncated = 0
order_of kinds.Length = 1
order_of kinds.Checksum = 2
order_of kinds.ReservedSequence = 3
order_of kinds.IdMismatch = 4
order_of kinds.Body = 5
order_of kinds.ZeroMetric = 6

-- its first fault is of this kind: it has that fault, and none of a kind that is told earlier
pub record HasFirstFault (kind : LsaKind) (bytes : List ℕ) : Type 0 where
  pub fault : HasFault kind bytes
  pub none_earlier : (other : LsaKind) → order_of other < order_of kind → ¬ HasFault other bytes
