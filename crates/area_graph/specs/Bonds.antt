-- How arcs are paired, and the bonds that they make. The lists of arcs are in the order in which they are paired.
use Rattle.std.specs.Prelude.{◌++◌, ◌==◌, ◌&&◌, ◌||◌, ℕ, Bool, false, List, length, Option}
use Rattle.std.specs.List.{filter, find, position, position_or_len}
use Rattle.std.specs.Option.{is_none, is_some, option_map_or, unwrap_or}
use Rattle.std.specs.Ordering.{is_lt}
use Rattle.mrt_graph.specs.NodeOrder.{node_id_cmp}
use Rattle.mrt_graph.specs.InOrder.{in_order}
use Rattle.mrt_graph.specs.SameGraph.{same_id}
use Rattle.mrt_graph.specs.declared.node_id.NodeId.{NodeId}
use Rattle.area_graph.specs.Arcs.{answers, arc_cmp}
use Rattle.area_graph.specs.Entries.{Entry}

-- whether two entries are one: each has a place of its own in its node's LSA
abbrev pub same_entry : Entry → Entry → Bool
same_entry entry other = same_id other.from entry.from && (other.place == entry.place)

-- the arcs from u to v, in the order in which they are paired: by link data, then by place
abbrev pub parallels : List Entry → NodeId → NodeId → List Entry
parallels arcs u v = filter (λ arc. same_id arc.from u && same_id arc.to v) arcs

-- the place of an arc among its parallel ones, from 0
abbrev pub turn_of : List Entry → Entry → ℕ
turn_of arcs arc = position_or_len (same_entry arc) (parallels arcs arc.from arc.to)

-- the k-th arc from one node to another and the k-th one back are partners
abbrev pub are_partners : List Entry → Entry → Entry → Bool
are_partners arcs arc back = answers arc back && (turn_of arcs back == turn_of arcs arc)

-- the partner of an arc, if it has one
abbrev pub partner : List Entry → Entry → Option Entry
partner arcs arc = find (are_partners arcs arc) arcs

-- whether an arc tells a pair: it has a partner, and it leaves the lower of the two nodes
abbrev pub tells_pair : List Entry → Entry → Bool
tells_pair arcs arc = is_lt (node_id_cmp arc.from arc.to) && is_some (partner arcs arc)

-- the pairs, each told by one of its arcs: by lower node, then by higher node, then as parallel arcs
abbrev pub pairs : List Entry → List Entry
pairs arcs = filter (tells_pair arcs) arcs

-- the arcs that have no partner, in the order of arcs
abbrev pub singles : List Entry → List Entry
singles arcs = filter (λ arc. is_none (partner arcs arc)) (in_order arc_cmp arcs)

-- the bonds, each told by one of its arcs: first the pairs, then the single arcs
abbrev pub bonds : List Entry → List Entry
bonds arcs = pairs arcs ++ singles arcs

-- whether an arc is of a bond: it tells the bond, or is the partner of the one that does
abbrev pub is_of : List Entry → Entry → Entry → Bool
is_of arcs arc bond = same_entry arc bond || option_map_or (same_entry arc) (partner arcs bond) false

-- the number of an arc's bond: its place among the bonds (their count, which is the number of none, where the arc is of
-- none)
abbrev pub bond_of : List Entry → Entry → ℕ
bond_of arcs arc = unwrap_or (position (is_of arcs arc) (bonds arcs)) (length (bonds arcs))
