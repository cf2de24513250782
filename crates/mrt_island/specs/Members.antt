-- Which nodes are in the island of a router (RFC 7811, section 5).
use Rattle.std.specs.Prelude.{◌≡◌, ◌↔◌, ℕ, Bool, true, List, Some, length, slice_get}
use Rattle.mrt_graph.specs.declared.link.Link.{Link}
use Rattle.mrt_graph.specs.Leads.{far_node}
use Rattle.mrt_graph.specs.Reachable.{Reachable}
use Rattle.mrt_graph.specs.Search.{IsMarked}
use Rattle.area_graph.specs.declared.area_types.Bond.{Bond}
use Rattle.mrt_graph.specs.NodeIds.{router as router_node}
use Rattle.area_graph.specs.Parts.{AreaParts}
use Rattle.mrt_island.specs.Policy.{Policy}
use Rattle.mrt_island.specs.Eligible.{is_eligible}

-- the two nodes of a bond
abbrev pub nodes_of : Bond → Link
nodes_of bond = record { a = bond.a; b = bond.b }

-- an eligible pair leads from node u to node v
pub record Joins (policy : Policy) (area : AreaParts) (u v : ℕ) : Type 0 where
  pub number : ℕ
  pub bond : Bond
  pub there : slice_get area.bonds number ≡ Some bond
  pub eligible : is_eligible policy area.ids bond ≡ true
  pub leads : far_node u (nodes_of bond) ≡ Some v

-- node s is in the island of node r: a list of eligible pairs leads from r to s
abbrev pub IsMember : Policy → AreaParts → ℕ → ℕ → Type 0
IsMember policy area r s = Reachable (Joins policy area) r s

-- of each node of the area a flag, which tells whether the node is in the island of a router; the router is a node of the area and
-- supports the profile
pub record IsInside (policy : Policy) (area : AreaParts) (router : ℕ) (inside : List Bool) : Type 0 where
  pub start : ℕ
  pub there : slice_get area.ids start ≡ Some (router_node router)
  pub supported : policy.supports router ≡ true
  pub one_each : length inside ≡ length area.ids
  pub those : (s : ℕ) → IsMarked inside s ↔ IsMember policy area start s
