-- The fields of the Link State Update packet at the front of bytes (RFC 2328, sections A.3.1 and A.3.5). All their
-- numbers are in network order. The twelve bytes from 12 on, the checksum and the authentication, are passed over.
use Rattle.std.specs.Prelude.{ℕ, ◌-◌, List, take, drop}
use Rattle.ospf_lsa.specs.Header.{number_at}

-- the version of OSPF in which these packets are
abbrev pub ospf_version : ℕ
ospf_version = 2

-- the packet type of a Link State Update
abbrev pub link_state_update : ℕ
link_state_update = 4

-- its version
abbrev pub version_field : List ℕ → ℕ
version_field bytes = number_at 0 1 bytes

-- its packet type
abbrev pub type_field : List ℕ → ℕ
type_field bytes = number_at 1 1 bytes

-- its length, header included
abbrev pub length_field : List ℕ → ℕ
length_field bytes = number_at 2 2 bytes

-- the ID of the router that sent it
abbrev pub router_field : List ℕ → ℕ
router_field bytes = number_at 4 4 bytes

-- its area
abbrev pub area_field : List ℕ → ℕ
area_field bytes = number_at 8 4 bytes

-- how many LSAs it says that it has
abbrev pub count_field : List ℕ → ℕ
count_field bytes = number_at 24 4 bytes

-- the bytes after the count
abbrev pub lsa_bytes : List ℕ → List ℕ
lsa_bytes bytes = take (length_field bytes - 28) (drop 28 bytes)
