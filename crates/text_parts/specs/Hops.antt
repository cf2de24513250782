-- How a hop is spelled.
use Rattle.std.specs.Prelude.{◌++◌, ℕ, List, codes}
use Rattle.mrt_graph.specs.declared.node_id.NodeId.{NodeId}
use Rattle.text_parts.specs.Spelling.{address_text, node_text}

-- where a packet goes: the far node, and the link data of the near end as an address
abbrev pub hop_text : NodeId → ℕ → List ℕ
hop_text far link_data = node_text far ++ codes "/" ++ address_text link_data
