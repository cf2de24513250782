-- Entries as the code holds them: by the numbers of their nodes.
use Rattle.std.specs.Prelude.{◌++◌, ◌+◌, ℕ, List, [], ◌∷◌, Option}
use Rattle.std.specs.List.{filter_map}
use Rattle.std.specs.Option.{option_map}
use Rattle.mrt_graph.specs.declared.node_id.NodeId.{NodeId}
use Rattle.ospf_lsa.specs.declared.lsa.Lsa.{Lsa}
use Rattle.area_graph.specs.declared.entry.NumberedEntry.{NumberedEntry}
use Rattle.area_graph.specs.Entries.{Entry, entries_of}
use Rattle.area_graph.specs.Nodes.{node_of, nodes, speakers}
use Rattle.mrt_graph.specs.NodeIds.{number_of}

-- an entry of node number `tail` by numbers; none where the node that it leads to is not there
abbrev pub numbered_entry : List NodeId → ℕ → Entry → Option NumberedEntry
numbered_entry ids tail entry =
    option_map
    (λ far. record { tail = tail; far = far; metric = entry.metric; link_data = entry.link_data; place = entry.place })
    (number_of ids entry.to)

-- entries of node number `tail` by numbers, without those that lead to no node
abbrev pub by_number : List NodeId → ℕ → List Entry → List NumberedEntry
by_number ids tail entries = filter_map (numbered_entry ids tail) entries

-- the entries of LSAs that speak for the nodes from number `tail` on
abbrev pub entries_from : List NodeId → ℕ → List Lsa → List NumberedEntry
entries_from ids tail [] = []
entries_from ids tail (lsa ∷ lsas) =
    by_number ids tail (entries_of (node_of lsa) lsa.body) ++ entries_from ids (tail + 1) lsas

-- the entries of an area
abbrev pub entries : List Lsa → List NumberedEntry
entries lsas = entries_from (nodes lsas) 0 (speakers lsas)
