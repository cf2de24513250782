-- Names of nodes and of links, as words give them.
use Rattle.std.specs.Prelude.{◌==◌, ◌<◌, ◌++◌, ◌+◌, ◌^◌, ℕ, List, Option, codes, drop, position, take, if◌then◌else◌}
use Rattle.std.specs.Option.{option_and_then, option_map}
use Rattle.std.specs.Str.{bytes_eq}
use Rattle.mrt_graph.specs.declared.node_id.Kind.{Kind}
use Rattle.mrt_graph.specs.declared.node_id.Kind.TheVariants.{Network, Router}
use Rattle.mrt_graph.specs.declared.node_id.NodeId.{NodeId}
use Rattle.text_parts.specs.Spelling.{address_in, address_text, node_text}
use Rattle.fabric_script.specs.declared.event.FailureName.{FailureName}
use Rattle.fabric_script.specs.declared.event.FailureName.TheVariants.{Link, Node}

-- the node of a kind with the number that an address spells
abbrev pub node_of : Kind → List ℕ → Option NodeId
node_of kind address = option_map (λ number. record { kind = kind; number = number }) (address_in address)

-- the node that a text names, if it names one: a router by its address, a network by `net:` and its address
abbrev pub node_in : List ℕ → Option NodeId
node_in text = if bytes_eq (take 4 text) (codes "net:") then node_of Network (drop 4 text) else node_of Router text

-- the link that a router's address and link data name, with a slash between them
abbrev pub link_in : List ℕ → Option FailureName
link_in text =
    option_and_then (λ slash. option_and_then (λ router. option_map (λ link_data. Link router link_data)
    (address_in (drop (slash + 1) text))) (address_in (take slash text))) (position (λ byte. byte == 47) text)

-- what a text names as failed, if it does: a node, or by `link:` and its name a link
abbrev pub failure_in : List ℕ → Option FailureName
failure_in text =
    if bytes_eq (take 5 text) (codes "link:") then link_in (drop 5 text) else option_map (λ id. Node id) (node_in text)

-- how a name is spelled
abbrev pub failure_text : FailureName → List ℕ
failure_text (Node id) = node_text id
failure_text (Link router link_data) = codes "link:" ++ address_text router ++ codes "/" ++ address_text link_data

-- the numbers of a name have 32 bits
abbrev pub HasNumbers : FailureName → Type 0
HasNumbers (Node id) = id.number < 2 ^ 32
HasNumbers (Link router link_data) = (router < 2 ^ 32) × (link_data < 2 ^ 32)
