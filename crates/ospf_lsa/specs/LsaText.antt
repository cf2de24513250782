-- The bytes of LSAs (RFC 2328, section A.4). All their numbers are in network order.
use Rattle.std.specs.Prelude.{ℕ, ◌+◌, List, [], ◌∷◌, ◌++◌, length, take, drop}
use Rattle.std.specs.Int.{w8, w16, w32, to_be_bytes, cast_unsigned}
use Rattle.std.specs.List.{flat_map}
use Rattle.ospf_lsa.specs.declared.lsa.RouterLink.{RouterLink}
use Rattle.ospf_lsa.specs.declared.lsa.Body.{Body}
use Rattle.ospf_lsa.specs.declared.lsa.Body.TheVariants.{Router, Network, Other}
use Rattle.ospf_lsa.specs.declared.lsa.Lsa.{Lsa}

-- a link of a router-LSA without its TOS entries: its ID, its data, its type, the number of these entries, its metric
abbrev pub link_text : RouterLink → List ℕ
link_text link =
    to_be_bytes w32 link.id ++ (to_be_bytes w32 link.link_data ++ (to_be_bytes w8 link.kind
    ++ (to_be_bytes w8 link.entries ++ to_be_bytes w16 link.metric)))

-- each link of a router-LSA with its TOS entries: as many as it says, taken from the front of the list; the links after it have those
-- that are left
abbrev pub with_entries : List RouterLink → List ℕ → List (RouterLink × List ℕ)
with_entries [] tos = []
with_entries (link ∷ links) tos = (link, take link.entries tos) ∷ with_entries links (drop link.entries tos)

-- each link and its TOS entries, one after another
abbrev pub links_text : List RouterLink → List ℕ → List ℕ
links_text links tos = flat_map (λ (each : RouterLink × List ℕ). link_text each.0 ++ flat_map (to_be_bytes w32) each.1) (with_entries links tos)

-- of a router its flags, the spare byte, the number of its links, and these with their TOS entries; of a network its
-- mask and its routers
abbrev pub body_text : Body → List ℕ
body_text (Router flags spare links tos) =
    to_be_bytes w8 flags ++ (to_be_bytes w8 spare ++ (to_be_bytes w16 (length links) ++ links_text links tos))
body_text (Network mask routers) = to_be_bytes w32 mask ++ flat_map (to_be_bytes w32) routers
body_text (Other bytes) = bytes

-- the length of the whole LSA, of which 20 bytes are its header
abbrev pub lsa_length : Lsa → ℕ
lsa_length lsa = 20 + length (body_text lsa.body)

-- a header: age, options, type, link state ID, advertising router, sequence number, checksum and length
abbrev pub header_text : Lsa → ℕ → List ℕ
header_text lsa length =
    to_be_bytes w16 lsa.age ++ (to_be_bytes w8 lsa.options ++ (to_be_bytes w8 lsa.kind ++ (to_be_bytes w32 lsa.id
    ++ (to_be_bytes w32 lsa.router ++ (to_be_bytes w32 (cast_unsigned w32 lsa.sequence)
    ++ (to_be_bytes w16 lsa.checksum ++ to_be_bytes w16 length))))))

-- an LSA: its header and its body; its place is no part of its bytes
abbrev pub lsa_text : Lsa → List ℕ
lsa_text lsa = header_text lsa (lsa_length lsa) ++ body_text lsa.body

-- the bytes of an LSA that its checksum covers: all after its age
abbrev pub covered_text : Lsa → List ℕ
covered_text lsa = drop 2 (lsa_text lsa)

-- LSAs, one after another and nothing between
abbrev pub lsas_text : List Lsa → List ℕ
lsas_text lsas = flat_map lsa_text lsas
