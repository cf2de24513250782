-- What a certificate says of a node, of a link, and of one node for another, by their numbers.
use Rattle.std.specs.Prelude.{◌==◌, ℕ, Bool, false, List, Option, slice_get, filter}
use Rattle.std.specs.Option.{option_map, option_map_or}
use Rattle.mrt_graph.specs.declared.cert.CertNode.{CertNode}
use Rattle.mrt_graph.specs.declared.cert.CertLink.{CertLink}
use Rattle.mrt_graph.specs.declared.cert.Role.{Role}
use Rattle.mrt_graph.specs.declared.cert.Tag.{Tag}
use Rattle.mrt_graph.specs.Certificate.{Certificate, row_of}
use Rattle.mrt_graph.specs.Tags.{same_tag}

-- a node's order number; none where there is no such node
abbrev pub order_of : Certificate → ℕ → Option ℕ
order_of c a = option_map (λ node. node.order) (slice_get c.nodes a)

-- a node's head; none where there is no such node
abbrev pub head_of : Certificate → ℕ → Option ℕ
head_of c a = option_map (λ node. node.head) (slice_get c.nodes a)

-- a node's block; none where there is no such node
abbrev pub block_of : Certificate → ℕ → Option ℕ
block_of c a = option_map (λ node. node.block) (slice_get c.nodes a)

-- a link's block; none where there is no such link
abbrev pub link_block : Certificate → ℕ → Option ℕ
link_block c e = option_map (λ link. link.block) (slice_get c.links e)

-- there is a link e, and its role passes the test
abbrev pub has_role : (Role → Bool) → Certificate → ℕ → Bool
has_role test c e = option_map_or (λ link. test link.role) (slice_get c.links e) false

-- the nodes of a block
abbrev pub members : Certificate → ℕ → List CertNode
members c k = filter (λ node. node.block == k) c.nodes

-- the links of a block
abbrev pub links_of : Certificate → ℕ → List CertLink
links_of c k = filter (λ link. link.block == k) c.links

-- v has a row for t, so that v is not t, and the row has this tag
abbrev pub tagged : Certificate → ℕ → ℕ → Tag → Bool
tagged c v t tag = option_map_or (λ row. same_tag row.tag tag) (row_of c v t) false
