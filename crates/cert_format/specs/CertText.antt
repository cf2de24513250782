-- The bytes of a certificate file. All its numbers are in network order.
use Rattle.std.specs.Prelude.{ℕ, List, ◌++◌, length, codes}
use Rattle.std.specs.Int.{w8, w16, w32, to_be_bytes}
use Rattle.std.specs.List.{flat_map}
use Rattle.mrt_graph.specs.declared.node_id.Kind.{Kind}
use Rattle.mrt_graph.specs.declared.node_id.Kind.TheVariants as kinds
use Rattle.mrt_graph.specs.declared.cert.Role.{Role}
use Rattle.mrt_graph.specs.declared.cert.Role.TheVariants as roles
use Rattle.mrt_graph.specs.declared.cert.Row.{Row}
use Rattle.mrt_graph.specs.declared.cert.CertNode.{CertNode}
use Rattle.mrt_graph.specs.declared.cert.CertLink.{CertLink}
use Rattle.mrt_graph.specs.declared.cert.CertFile.{CertFile}
use Rattle.mrt_graph.specs.Tags.{tag_number}
use Rattle.cert_format.specs.Versions.{rows_in}

-- the number that spells a kind
abbrev pub kind_number : Kind → ℕ
kind_number kinds.Router = 1
kind_number kinds.Network = 2

-- the number that spells a role
abbrev pub role_number : Role → ℕ
role_number roles.Plain = 0
role_number roles.Sole = 1
role_number roles.Closing = 2

-- a header: the magic bytes, the version, the number of nodes, the number of links and the root's router ID
abbrev pub header_text : ℕ → ℕ → ℕ → ℕ → List ℕ
header_text version nodes links root =
    codes "MRTC" ++ (to_be_bytes w16 version ++ (to_be_bytes w16 nodes ++ (to_be_bytes w16 links ++ to_be_bytes w32 root)))

-- a node: its kind and its number, its order, its head and its block
abbrev pub node_text : CertNode → List ℕ
node_text node =
    to_be_bytes w8 (kind_number node.id.kind) ++ (to_be_bytes w32 node.id.number ++ (to_be_bytes w16 node.order ++ (to_be_bytes w16 node.head ++ to_be_bytes w16 node.block)))

-- a link: its two nodes, its block and its role
abbrev pub link_text : CertLink → List ℕ
link_text link =
    to_be_bytes w16 link.a ++ (to_be_bytes w16 link.b ++ (to_be_bytes w16 link.block ++ to_be_bytes w8 (role_number link.role)))

-- a row: its two links and its tag
abbrev pub row_text : Row → List ℕ
row_text row = to_be_bytes w16 row.blue ++ (to_be_bytes w16 row.red ++ to_be_bytes w8 (tag_number row.tag))

-- the header, then the nodes and the links by number, and those rows that stand in a file of this version, by ascending
-- source, then by ascending destination; of a foldable file these are in version 2 the rows of related nodes
abbrev pub cert_text : CertFile → List ℕ
cert_text f =
    header_text f.version (length f.cert.nodes) (length f.cert.links) f.root
    ++ (flat_map node_text f.cert.nodes ++ (flat_map link_text f.cert.links ++ flat_map row_text (rows_in f.version f.cert.rows)))
