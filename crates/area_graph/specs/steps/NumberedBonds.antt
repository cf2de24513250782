-- How arcs are paired, and the bonds that they make, as the code holds them. The lists of arcs are in the order in
-- which they are paired.
use Rattle.std.specs.Prelude.{◌++◌, ◌==◌, ◌&&◌, ◌||◌, ℕ, Bool, false, nat_lt, List, length, Option}
use Rattle.std.specs.List.{filter, find, position, position_or_len}
use Rattle.std.specs.Option.{is_none, is_some, option_map_or, unwrap_or}
use Rattle.mrt_graph.specs.InOrder.{in_order}
use Rattle.area_graph.specs.declared.entry.NumberedEntry.{NumberedEntry as Entry}
use Rattle.area_graph.specs.steps.NumberedArcs.{answers, arc_cmp}

-- whether two arcs lead from one node to one node
abbrev pub same_way : Entry → Entry → Bool
same_way arc other = (other.tail == arc.tail) && (other.far == arc.far)

-- whether two entries are one: each has a place of its own in its node's LSA
abbrev pub same_entry : Entry → Entry → Bool
same_entry entry other = (other.tail == entry.tail) && (other.place == entry.place)

-- the place of an arc among those of its way, from 0
abbrev pub turn_of : List Entry → Entry → ℕ
turn_of arcs arc = position_or_len (same_entry arc) (filter (same_way arc) arcs)

-- the k-th arc of one way and the k-th of the way back are partners
abbrev pub are_partners : List Entry → Entry → Entry → Bool
are_partners arcs arc back = answers arc back && (turn_of arcs back == turn_of arcs arc)

-- the partner of an arc, if it has one
abbrev pub partner : List Entry → Entry → Option Entry
partner arcs arc = find (are_partners arcs arc) arcs

-- whether an arc tells a pair: it has a partner, and it leaves the lower of the two nodes
abbrev pub tells_pair : List Entry → Entry → Bool
tells_pair arcs arc = nat_lt arc.tail arc.far && is_some (partner arcs arc)

-- whether an arc has no partner
abbrev pub is_single : List Entry → Entry → Bool
is_single arcs arc = is_none (partner arcs arc)

-- the pairs, each told by one of its arcs
abbrev pub pairs : List Entry → List Entry
pairs arcs = filter (tells_pair arcs) arcs

-- the arcs that have no partner, in the order of arcs
abbrev pub singles : List Entry → List Entry
singles arcs = filter (is_single arcs) (in_order arc_cmp arcs)

-- the bonds, each told by one of its arcs: first the pairs, then the single arcs
abbrev pub bonds : List Entry → List Entry
bonds arcs = pairs arcs ++ singles arcs

-- whether an arc is of a bond: it tells the bond, or is the partner of the one that does
abbrev pub is_of : List Entry → Entry → Entry → Bool
is_of arcs arc bond = same_entry arc bond || option_map_or (same_entry arc) (partner arcs bond) false

-- the number of an arc's bond
abbrev pub bond_of : List Entry → Entry → ℕ
bond_of arcs arc = unwrap_or (position (is_of arcs arc) (bonds arcs)) (length (bonds arcs))
