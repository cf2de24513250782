-- How the nodes and links of an island are numbered.
use Rattle.std.specs.Prelude.{◌≡◌, ◌&&◌, ℕ, Bool, true, false, List, [], ◌∷◌, Option, Some, None, if◌then◌else◌, length, map, take, count_by, slice_get, slice_index_or}
use Rattle.std.specs.List.{filter}
use Rattle.mrt_graph.specs.declared.link.LinkIn.{LinkIn}
use Rattle.mrt_graph.specs.declared.node_id.NodeId.{NodeId}
use Rattle.area_graph.specs.declared.area_types.Bond.{Bond}
use Rattle.area_graph.specs.Parts.{AreaParts}
use Rattle.mrt_island.specs.Policy.{Policy}
use Rattle.mrt_island.specs.Eligible.{is_eligible}

-- how many flags are set
abbrev pub flags_set : List Bool → ℕ
flags_set flags = count_by (λ flag. flag) flags

-- the elements whose flags are set
abbrev pub flagged : {X : Type 0} → List Bool → List X → List X
flagged [] xs = []
flagged (flag ∷ flags) [] = []
flagged (true ∷ flags) (x ∷ xs) = x ∷ flagged flags xs
flagged (false ∷ flags) (x ∷ xs) = flagged flags xs

-- the identifiers of an island's nodes: they ascend as the area's do
abbrev pub ids_of : AreaParts → List Bool → List NodeId
ids_of area inside = flagged inside area.ids

-- the number that node s of the area has in the island: how many nodes before it are inside
abbrev pub number_inside : List Bool → ℕ → ℕ
number_inside inside s = flags_set (take s inside)

-- whether node s is inside
abbrev pub is_inside : List Bool → ℕ → Bool
is_inside inside s = slice_index_or inside s false

-- whether a bond is a link of the island: an eligible pair between two nodes that are inside
abbrev pub is_link : Policy → List NodeId → List Bool → Bond → Bool
is_link policy ids inside bond = is_eligible policy ids bond && (is_inside inside bond.a && is_inside inside bond.b)

-- the link that a bond is, its nodes by their numbers in the island
abbrev pub link_by : List Bool → Bond → LinkIn
link_by inside bond = record {
  a = number_inside inside bond.a;
  b = number_inside inside bond.b;
  metric_a = bond.metric_a;
  metric_b = bond.metric_b;
  data_a = bond.data_a;
  data_b = bond.data_b;
}

-- the links of an island, in the order of the area's bonds: these begin with the pairs by lower node, then by higher node
abbrev pub links_of : Policy → AreaParts → List Bool → List LinkIn
links_of policy area inside = map (link_by inside) (filter (is_link policy area.ids inside) area.bonds)

-- the number of the link that bond number k is, if it is one: how many links stand among the bonds before it
abbrev pub link_number : Policy → AreaParts → List Bool → ℕ → Bond → Option ℕ
link_number policy area inside k bond =
    if is_link policy area.ids inside bond then Some (count_by (is_link policy area.ids inside) (take k area.bonds)) else None

-- of each bond of the area that number
pub record AreLinkNumbers (policy : Policy) (area : AreaParts) (inside : List Bool) (link_of : List (Option ℕ)) : Type 0 where
  pub one_each : length link_of ≡ length area.bonds
  pub each : (k : ℕ) (bond : Bond) → slice_get area.bonds k ≡ Some bond
      → slice_get link_of k ≡ Some (link_number policy area inside k bond)
