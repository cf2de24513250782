-- What a search for an island goes over.
use Rattle.std.specs.Prelude.{◌≡◌, ◌&&◌, ℕ, Bool, true, List, [], ◌∷◌, Some, map, slice_get}
use Rattle.mrt_graph.specs.Leads.{far_node}
use Rattle.mrt_graph.specs.Search.{IsMarked}
use Rattle.area_graph.specs.declared.area_types.Arc.{Arc}
use Rattle.area_graph.specs.declared.area_types.Bond.{Bond}
use Rattle.area_graph.specs.Parts.{AreaParts}
use Rattle.mrt_island.specs.Policy.{Policy}
use Rattle.mrt_island.specs.Members.{IsInside, nodes_of}
use Rattle.mrt_island.specs.Numbering.{is_inside, is_link}

-- a bond whose flag is set leads from node u to node v
pub record LeadsOver (bonds : List Bond) (flags : List Bool) (u v : ℕ) : Type 0 where
  pub number : ℕ
  pub bond : Bond
  pub there : slice_get bonds number ≡ Some bond
  pub flag : IsMarked flags number
  pub leads : far_node u (nodes_of bond) ≡ Some v

-- bonds whose flags are set are pairs
abbrev pub ArePairs : List Bond → List Bool → Type 0
ArePairs bonds flags = (k : ℕ) (bond : Bond) → slice_get bonds k ≡ Some bond → IsMarked flags k → bond.paired ≡ true

-- an arc leads to v over a bond whose flag is set
pub record LeadsBy (flags : List Bool) (arc : Arc) (v : ℕ) : Type 0 where
  pub flag : IsMarked flags arc.bond
  pub to : v ≡ arc.to

-- of each bond whether its flag is set and both its nodes are inside
abbrev pub chosen : List Bool → List Bool → List Bond → List Bool
chosen [] inside bonds = []
chosen (flag ∷ flags) inside [] = []
chosen (flag ∷ flags) inside (bond ∷ bonds) = (flag && (is_inside inside bond.a && is_inside inside bond.b)) ∷ chosen flags inside bonds

-- what of an area is in the island of some router: the flags of the nodes that are inside, and of the bonds that are links
pub record IsExtent (policy : Policy) (area : AreaParts) (inside links : List Bool) : Type 0 where
  pub router : ℕ
  pub those : IsInside policy area router inside
  pub between : links ≡ map (is_link policy area.ids inside) area.bonds
