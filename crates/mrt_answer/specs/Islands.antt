-- The area of an input, the island of a router in it, and routers of these; or why there is none.
use Rattle.std.specs.Prelude.{◌≡◌, ◌⊎◌, ◌<◌, ◌≤◌, ◌-◌, ◌^◌, ℕ, false, List, Ok, Err, Some, Contains, length, min, slice_get}
use Rattle.area_graph.specs.AreaOf.{area_of as area_of_newest}
use Rattle.area_graph.specs.AreaSize.{IsTooLarge}
use Rattle.area_graph.specs.Parts.{AreaParts}
use Rattle.mrt_exit.specs.AnswerSteps.{Step, such, ◌▸◌}
use Rattle.mrt_exit.specs.declared.exit.Exit.TheVariants.{NotThere, TooLarge}
use Rattle.mrt_exit.specs.declared.exit.What.{What}
use Rattle.mrt_exit.specs.declared.exit.What.TheVariants as whats
use Rattle.mrt_graph.specs.NodeIds.{router as router_node}
use Rattle.mrt_graph.specs.declared.node_id.NodeId.{NodeId}
use Rattle.mrt_island.specs.IslandOf.{IsIsland}
use Rattle.mrt_island.specs.Policy.{Policy}
use Rattle.mrt_island.specs.declared.island.Island.{Island}
use Rattle.ospf_lsa.specs.declared.lsa.Lsa.{Lsa}
use Rattle.mrt_answer.specs.Input.{Input, policy}

-- so many as a number of 32 bits, the greatest one where they are more
abbrev pub in_32_bits : ℕ → ℕ
in_32_bits count = min count (2 ^ 32 - 1)

-- what is too large of an area, and how many there are: its nodes, or where these are within their limit its arcs
abbrev pub IsLargeArea : AreaParts → What → ℕ → Type 0
IsLargeArea area whats.AreaNodes size = (4096 < length area.ids) × (size ≡ in_32_bits (length area.ids))
IsLargeArea area whats.AreaArcs size = (length area.ids ≤ 4096) × (32768 < length area.arcs) × (size ≡ in_32_bits (length area.arcs))
IsLargeArea area _ size = ⊥

-- a router is none of these nodes
abbrev pub IsAbsent : List NodeId → ℕ → Type 0
IsAbsent ids number = Contains ids (router_node number) → ⊥

-- a router is not in an area, or does not support the Default MRT Profile
abbrev pub IsMissing : Policy → AreaParts → ℕ → Type 0
IsMissing policy area number = IsAbsent area.ids number ⊎ (policy.supports number ≡ false)

-- the area of the newest LSAs, where it is within its limits
abbrev pub area_of : List Lsa → Step AreaParts
area_of newest (Ok area) = (area ≡ area_of_newest newest) × (IsTooLarge (length area.ids) (length area.arcs) → ⊥)
area_of newest (Err (TooLarge what size)) = IsLargeArea (area_of_newest newest) what size
area_of newest (Err _) = ⊥

-- the island of a router in an area; where the router is not there, or does not support the profile, that is said
abbrev pub island_of : Policy → AreaParts → ℕ → Step Island
island_of policy area number (Ok island) = IsIsland policy area number island.graph island.root island.link_of
island_of policy area number (Err (NotThere missing)) = (missing ≡ number) × IsMissing policy area number
island_of policy area number (Err _) = ⊥

-- the place of a router among nodes; where it is none of them, that is said
abbrev pub place_of : List NodeId → ℕ → Step ℕ
place_of ids number (Ok place) = slice_get ids place ≡ Some (router_node number)
place_of ids number (Err (NotThere missing)) = (missing ≡ number) × IsAbsent ids number
place_of ids number (Err _) = ⊥

-- the place of a router that is one of the nodes
abbrev pub own_place : List NodeId → ℕ → Step ℕ
own_place ids number = such (λ place. slice_get ids place ≡ Some (router_node number))

-- the area, and then the island of a router in it
abbrev pub island_in : Input → ℕ → Step Island
island_in input number = area_of input.newest ▸ λ area. island_of (policy input) area number
