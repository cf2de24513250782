-- What the two versions of a certificate file differ in.
use Rattle.std.specs.Prelude.{◌==◌, ◌||◌, ◌*◌, ◌-◌, ℕ, Bool, List, [], Option, None, filter, length, if◌then◌else◌}
use Rattle.mrt_graph.specs.declared.cert.CertNode.{CertNode}
use Rattle.mrt_graph.specs.declared.cert.Row.{Row}
use Rattle.mrt_graph.specs.Certificate.{certificate_of}
use Rattle.mrt_graph.specs.Tags.{is_near}
use Rattle.cert_format.specs.Folded.{head_fault}
use Rattle.mrt_graph.specs.RelatedPairs.{related_pairs}

-- how many nodes a file has at most
abbrev pub most_nodes : ℕ → ℕ
most_nodes version = if version == 1 then 2048 else 4096

-- how many links
abbrev pub most_links : ℕ → ℕ
most_links version = if version == 1 then 8192 else 16384

-- how many tags there are, from 0 on: version 2 has no Carried rows
abbrev pub tag_count : ℕ → ℕ
tag_count version = if version == 1 then 7 else 6

-- a row of each of so many nodes for each other one
abbrev pub all_rows : ℕ → ℕ
all_rows nodes = nodes * (nodes - 1)

-- how many rows stand in a file with these nodes: in version 1 all, in version 2 those of related nodes
abbrev pub row_count : ℕ → List CertNode → ℕ
row_count version nodes =
    if version == 1 then all_rows (length nodes)
    else length (filter (λ related. related) (related_pairs (certificate_of nodes [] [])))

-- whether a row stands in a file: in version 1 each does, in version 2 each that is not Carried
abbrev pub stands_in : ℕ → Row → Bool
stands_in version row = (version == 1) || is_near row

abbrev pub rows_in : ℕ → List Row → List Row
rows_in version rows = filter (stands_in version) rows

-- the node whose head is at fault, among all the nodes: in version 1 none is looked at
abbrev pub stray_head : ℕ → List CertNode → Option ℕ
stray_head version nodes = if version == 1 then None else head_fault (certificate_of nodes [] [])
