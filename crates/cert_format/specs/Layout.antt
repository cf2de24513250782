-- The fields of a certificate file in their order, each with its bytes and what it allows.
use Rattle.std.specs.Prelude.{ℕ, zero, suc, ◌+◌, ◌*◌, ◌^◌, Bool, ◌&&◌, ◌==◌, nat_lt, nat_le, codes, List, [], ◌∷◌, length, if◌then◌else◌}
use Rattle.std.specs.Int.{Width, w8, w16, w32, byte_len, from_be_bytes}
use Rattle.std.specs.Option.{option_map_or}
use Rattle.mrt_graph.specs.declared.cert.CertLink.{CertLink}
use Rattle.mrt_graph.specs.declared.cert.CertNode.{CertNode}
use Rattle.mrt_graph.specs.declared.cert.Role.{Role}
use Rattle.mrt_graph.specs.declared.cert.Role.TheVariants as roles
use Rattle.mrt_graph.specs.declared.cert.Row.{Row}
use Rattle.mrt_graph.specs.declared.cert.Tag.{Tag}
use Rattle.mrt_graph.specs.declared.cert.Tag.TheVariants.{Sole, Head, Top, Below, Above, Unordered, Carried}
use Rattle.mrt_graph.specs.declared.node_id.Kind.{Kind}
use Rattle.mrt_graph.specs.declared.node_id.Kind.TheVariants as kinds
use Rattle.cert_format.specs.declared.error.CertKind.{CertKind}
use Rattle.cert_format.specs.declared.error.CertKind.TheVariants as faults
use Rattle.cert_format.specs.Versions.{most_links, most_nodes, row_count, stray_head, tag_count}

-- a field: a number in network order, from the least one on and below the bound, and the fault where it has another one
pub record Field : Type 0 where
  pub width : Width
  pub least : ℕ
  pub bound : ℕ
  pub fault : CertKind

abbrev pub allows : Field → ℕ → Bool
allows field number = nat_le field.least number && nat_lt number field.bound

-- one number alone, and any other is no certificate of this kind
abbrev pub exactly : Width → ℕ → Field
exactly width wanted = record { width = width; least = wanted; bound = wanted + 1; fault = faults.Magic }

-- the number of a version, 1 or 2
abbrev pub known_version : Field
known_version = record { width = w16; least = 1; bound = 3; fault = faults.Magic }

-- every number
abbrev pub any : Width → Field
any width = record { width = width; least = 0; bound = 256 ^ byte_len width; fault = faults.Range }

-- from the least number on, below the bound
abbrev pub within : Width → ℕ → ℕ → Field
within width least bound = record { width = width; least = least; bound = bound; fault = faults.Range }

-- one of so many tags
abbrev pub tag : ℕ → Field
tag tags = record { width = w8; least = 0; bound = tags; fault = faults.Tag }

-- the form of a file: its end; or a field and the form of what follows it, which the field's number may decide; or, by
-- what was read before, a fault at this place
pub data Form : Type 0 where
  End : Form
  Then : Field → (ℕ → Form) → Form
  Fails : ℕ → CertKind → Form

-- so many parts, one after another, all of which may decide what follows them
abbrev pub collected : {A : Type 0} → ℕ → ((A → Form) → Form) → (List A → Form) → Form
collected zero part next = next []
collected (suc count) part next = part (λ x. collected count part (λ xs. next (x ∷ xs)))

-- the magic bytes, the version, the number of nodes, the number of links and the root's router ID
abbrev pub header_form : (ℕ → ℕ → ℕ → Form) → Form
header_form next =
    Then (exactly w32 (from_be_bytes w32 (codes "MRTC"))) (λ magic. Then known_version (λ version.
    Then (within w16 1 (most_nodes version + 1)) (λ nodes. Then (within w16 0 (most_links version + 1)) (λ links.
    Then (any w32) (λ root. next version nodes links)))))

-- the kind that a number spells
abbrev pub kind_named : ℕ → Kind
kind_named number = if number == 1 then kinds.Router else kinds.Network

-- the node that these numbers spell
abbrev pub node_named : ℕ → ℕ → ℕ → ℕ → ℕ → CertNode
node_named kind number order head block =
    record { id = record { kind = kind_named kind; number = number }; order = order; head = head; block = block }

-- of so many nodes, a node: its kind and its number, its order, its head and its block
abbrev pub node_form : ℕ → (CertNode → Form) → Form
node_form nodes next =
    Then (within w8 1 3) (λ kind. Then (any w32) (λ number. Then (within w16 1 (nodes + 1)) (λ order.
    Then (within w16 0 nodes) (λ head. Then (within w16 0 nodes) (λ block. next (node_named kind number order head block))))))

-- the role that a number spells
abbrev pub role_named : ℕ → Role
role_named number = if number == 0 then roles.Plain else (if number == 1 then roles.Sole else roles.Closing)

-- the tag that a number spells
abbrev pub tag_named : ℕ → Tag
tag_named number =
    if number == 0 then Sole else (if number == 1 then Head else (if number == 2 then Top
    else (if number == 3 then Below else (if number == 4 then Above
    else (if number == 5 then Unordered else Carried)))))

-- the link and the row that these numbers spell
abbrev pub link_named : ℕ → ℕ → ℕ → ℕ → CertLink
link_named a b block role = record { a = a; b = b; block = block; role = role_named role }

abbrev pub row_named : ℕ → ℕ → ℕ → Row
row_named blue red number = record { blue = blue; red = red; tag = tag_named number }

-- a link between two of so many nodes, the lower one first: these, its block and its role
abbrev pub link_form : ℕ → (CertLink → Form) → Form
link_form nodes next =
    Then (any w16) (λ a. Then (within w16 (a + 1) nodes) (λ b. Then (within w16 0 nodes) (λ block. Then (within w8 0 3) (λ role. next (link_named a b block role)))))

-- a row of two of so many links: these and its tag, one of so many
abbrev pub row_form : ℕ → ℕ → (Row → Form) → Form
row_form tags links next =
    Then (within w16 0 links) (λ blue. Then (within w16 0 links) (λ red. Then (tag tags) (λ number. next (row_named blue red number))))

-- where the head of a node stands: after the header, the nodes before it, and its kind, its number and its order
abbrev pub head_place : ℕ → ℕ
head_place a = 14 + 11 * a + 7

-- what follows all the links: the rows
abbrev pub after_links : ℕ → ℕ → List CertNode → Form
after_links version links nodes = collected (row_count version nodes) (row_form (tag_count version) links) (λ rows. End)

-- what follows all the nodes: the links and the rows, unless a head is at fault
abbrev pub after_nodes : ℕ → ℕ → List CertNode → Form
after_nodes version links nodes =
    option_map_or (λ a. Fails (head_place a) faults.Heads) (stray_head version nodes)
    (collected links (link_form (length nodes)) (λ all. after_links version links nodes))

-- the header, the nodes, the links and the rows
abbrev pub cert_form : Form
cert_form = header_form (λ version nodes links. collected nodes (node_form nodes) (after_nodes version links))
