-- How addresses and nodes are spelled.
use Rattle.std.specs.Prelude.{ℕ, List, ◌++◌, ◌^◌, ◌==◌, ◌&&◌, nat_lt, map, codes, decimal, Option, Some, None, if◌then◌else◌}
use Rattle.std.specs.Int.{from_be_bytes, to_be_bytes, w32}
use Rattle.std.specs.List.{join_with_byte, slice_split}
use Rattle.std.specs.Str.{bytes_eq}
use Rattle.std.specs.Str.Parse.{digits_value}
use Rattle.mrt_graph.specs.declared.node_id.Kind.{Kind}
use Rattle.mrt_graph.specs.declared.node_id.Kind.TheVariants.{Router, Network}
use Rattle.mrt_graph.specs.declared.node_id.NodeId.{NodeId}

-- an address: the four bytes of a number of 32 bits, most significant first, in decimal and joined by dots
abbrev pub address_text : ℕ → List ℕ
address_text number = join_with_byte 46 (map decimal (to_be_bytes w32 number))

-- what stands before the address: nothing for a router, `net:` for a network
abbrev pub kind_prefix : Kind → List ℕ
kind_prefix Router = codes ""
kind_prefix Network = codes "net:"

-- a node: what its kind puts before, and the address of its number
abbrev pub node_text : NodeId → List ℕ
node_text id = kind_prefix id.kind ++ address_text id.number

-- the number, if it has 32 bits and the text is its spelling
abbrev pub if_spelled : (ℕ → List ℕ) → List ℕ → ℕ → Option ℕ
if_spelled spelling text number = if nat_lt number (2 ^ 32) && bytes_eq text (spelling number) then Some number else None

-- the number of 32 bits whose spelling in decimal, without leading zeros, a text is, if it is one
unfoldable pub number_in : List ℕ → Option ℕ
number_in text = if_spelled decimal text (digits_value 10 text)

-- the number whose address a text is, if it is one
unfoldable pub address_in : List ℕ → Option ℕ
address_in text = if_spelled address_text text (from_be_bytes w32 (map (digits_value 10) (slice_split (λ byte. byte == 46) text)))
