-- What the private steps of reading answer.
use Rattle.std.specs.Prelude.{◌≡◌, ◌+◌, ◌-◌, ◌*◌, ◌/◌, ◌%◌, ◌^◌, ◌&&◌, ◌==◌, ℕ, zero, suc, not, nat_lt, List, [], ◌∷◌, ◌++◌, length, drop, Option, Some, None, Result, Ok, Err, if◌then◌else◌}
use Rattle.std.specs.Int.{w32, cast_signed}
use Rattle.std.specs.List.{list_any}
use Rattle.std.specs.Option.{option_map, option_map_or, option_and_then}
use Rattle.ospf_lsa.specs.declared.error.LsaKind.{LsaKind}
use Rattle.ospf_lsa.specs.declared.error.LsaKind.TheVariants as kinds
use Rattle.ospf_lsa.specs.declared.error.LsaError.{LsaError}
use Rattle.ospf_lsa.specs.declared.error.LsaError.TheVariants.{Fault, NoMemory}
use Rattle.ospf_lsa.specs.declared.lsa.RouterLink.{RouterLink}
use Rattle.ospf_lsa.specs.declared.lsa.Body.{Body}
use Rattle.ospf_lsa.specs.declared.lsa.Body.TheVariants.{Router, Network, Other}
use Rattle.ospf_lsa.specs.declared.lsa.Lsa.{Lsa}
use Rattle.ospf_lsa.specs.Checksum.{is_good}
use Rattle.ospf_lsa.specs.Header.{number_at, type_field, id_field, router_field, sequence_field, checksum_field, length_field, covered_bytes, body_bytes}
use Rattle.ospf_lsa.specs.Lsas.{has_zero_metric}
use Rattle.ospf_lsa.specs.Types.{router_lsa, network_lsa}

-- so many numbers of 32 bits
abbrev pub numbers_in : ℕ → List ℕ → List ℕ
numbers_in zero bytes = []
numbers_in (suc count) bytes = number_at 0 4 bytes ∷ numbers_in count (drop 4 bytes)

-- a link
abbrev pub link_in : List ℕ → RouterLink
link_in bytes = record {
  id = number_at 0 4 bytes;
  link_data = number_at 4 4 bytes;
  kind = number_at 8 1 bytes;
  entries = number_at 9 1 bytes;
  metric = number_at 10 2 bytes;
}

-- how many bytes a link has with its TOS entries
abbrev pub link_length : RouterLink → ℕ
link_length link = 12 + 4 * link.entries

-- the link at the front; none where it or one of its TOS entries is cut
abbrev pub first_link : List ℕ → Option RouterLink
first_link bytes =
    if nat_lt (length bytes) 12 then None
    else (if nat_lt (length bytes) (link_length (link_in bytes)) then None else Some (link_in bytes))

-- links, and the TOS entries of all of them
abbrev pub Links : Type 0
Links = List RouterLink × List ℕ

-- a link and its TOS entries before others
abbrev pub with_link : RouterLink → List ℕ → Links → Links
with_link link tos later = (link ∷ later.0, tos ++ later.1)

-- so many links, and nothing after them
abbrev pub links_in : ℕ → List ℕ → Option Links
links_in zero bytes = if length bytes == 0 then Some ([], []) else None
links_in (suc count) bytes =
    option_and_then (λ link. option_map (with_link link (numbers_in link.entries (drop 12 bytes)))
    (links_in count (drop (link_length link) bytes))) (first_link bytes)

-- the links in a router-LSA's body, after its flags, its spare byte and the count of its links
abbrev pub body_links : List ℕ → Option Links
body_links bytes = if nat_lt (length bytes) 4 then None else links_in (number_at 2 2 bytes) (drop 4 bytes)

-- a router-LSA's body of these links
abbrev pub body_in : List ℕ → Links → Body
body_in bytes links = Router (number_at 0 1 bytes) (number_at 1 1 bytes) links.0 links.1

-- an LSA with this place and this body
abbrev pub lsa_in : ℕ → List ℕ → Body → Lsa
lsa_in at bytes body = record {
  at = at;
  age = number_at 0 2 bytes;
  options = number_at 2 1 bytes;
  kind = type_field bytes;
  id = id_field bytes;
  router = router_field bytes;
  sequence = cast_signed w32 (sequence_field bytes);
  checksum = checksum_field bytes;
  body = body;
}

-- the first fault that an LSA shows before its body is looked at
abbrev pub header_fault : List ℕ → Option LsaKind
header_fault bytes =
    if nat_lt (length bytes) 20 then Some kinds.Truncated
    else (if nat_lt (length bytes) (length_field bytes) then Some kinds.Truncated
    else (if nat_lt (length_field bytes) 20 then Some kinds.Length
    else (if not (is_good (covered_bytes bytes) (checksum_field bytes)) then Some kinds.Checksum
    else (if sequence_field bytes == 2 ^ 31 then Some kinds.ReservedSequence
    else (if (type_field bytes == router_lsa) && not (id_field bytes == router_field bytes) then Some kinds.IdMismatch
    else None)))))

-- a router-LSA's body of these links; none may have the metric 0 where it leads to a router or to a transit network
abbrev pub with_links : List ℕ → Links → Result Body LsaKind
with_links bytes links = if list_any has_zero_metric links.0 then Err kinds.ZeroMetric else Ok (body_in bytes links)

-- a router-LSA's body, or its first fault
abbrev pub router_body : List ℕ → Result Body LsaKind
router_body bytes = option_map_or (with_links bytes) (body_links bytes) (Err kinds.Body)

-- a network-LSA's body, or its fault: 4 bytes are the mask, and each 4 bytes after it are a router
abbrev pub network_body : List ℕ → Result Body LsaKind
network_body bytes =
    if nat_lt (length bytes) 4 then Err kinds.Body
    else (if not (length bytes % 4 == 0) then Err kinds.Body
    else Ok (Network (number_at 0 4 bytes) (numbers_in ((length bytes - 4) / 4) (drop 4 bytes))))

-- the body of an LSA of this type, or its first fault; of types other than 1 and 2 it is any bytes
abbrev pub typed_body : ℕ → List ℕ → Result Body LsaKind
typed_body kind bytes =
    if kind == router_lsa then router_body bytes
    else (if kind == network_lsa then network_body bytes else Ok (Other bytes))

-- the LSA of this body and its length
abbrev pub with_body : ℕ → List ℕ → Result Body LsaKind → Result (Lsa × ℕ) LsaKind
with_body at bytes (Ok body) = Ok (lsa_in at bytes body, length_field bytes)
with_body at bytes (Err kind) = Err kind

-- the LSA at the front and its length, or its first fault
abbrev pub record_in : ℕ → List ℕ → Result (Lsa × ℕ) LsaKind
record_in at bytes =
    option_map_or Err (header_fault bytes) (with_body at bytes (typed_body (type_field bytes) (body_bytes bytes)))

-- the answer is this LSA, or this fault at this place, or there was no memory
abbrev pub Answers : ℕ → Result (Lsa × ℕ) LsaKind → Result (Lsa × ℕ) LsaError → Type 0
Answers at expected (Ok found) = expected ≡ Ok found
Answers at expected (Err (Fault place kind)) = (place ≡ at) × (expected ≡ Err kind)
Answers at expected (Err NoMemory) = Unit {0}
