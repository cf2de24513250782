-- The fields of the record at the front of bytes (RFC 2328, section A.4.1). All their numbers are in network order.
use Rattle.std.specs.Prelude.{ℕ, ◌-◌, List, take, drop}
use Rattle.byteorder.specs.Endian.{big_number}

-- the number in so many bytes from this place on
abbrev pub number_at : ℕ → ℕ → List ℕ → ℕ
number_at place count bytes = big_number count (drop place bytes)

-- its LS type
abbrev pub type_field : List ℕ → ℕ
type_field bytes = number_at 3 1 bytes

-- its link state ID
abbrev pub id_field : List ℕ → ℕ
id_field bytes = number_at 4 4 bytes

-- its advertising router
abbrev pub router_field : List ℕ → ℕ
router_field bytes = number_at 8 4 bytes

-- its sequence number, as a number without a sign
abbrev pub sequence_field : List ℕ → ℕ
sequence_field bytes = number_at 12 4 bytes

-- its checksum
abbrev pub checksum_field : List ℕ → ℕ
checksum_field bytes = number_at 16 2 bytes

-- its length, header included
abbrev pub length_field : List ℕ → ℕ
length_field bytes = number_at 18 2 bytes

-- the bytes that its checksum covers, from its options to its end
abbrev pub covered_bytes : List ℕ → List ℕ
covered_bytes bytes = take (length_field bytes - 2) (drop 2 bytes)

-- the bytes of its body
abbrev pub body_bytes : List ℕ → List ℕ
body_bytes bytes = take (length_field bytes - 20) (drop 20 bytes)
