-- A router's island in numbers, and its certificate.
use Rattle.std.specs.Prelude.{◌≡◌, ℕ, List, Some, length, slice_get}
use Rattle.mrt_graph.specs.declared.node_id.NodeId.{NodeId}
use Rattle.mrt_island.specs.declared.island.Island.{Island}
use Rattle.mrt_answer.specs.Islands.{island_in}
use Rattle.mrt_answer.specs.Forms.{certified}
use Rattle.mrt_answer.specs.Texts.{IsComputed}
use Rattle.mrt_exit.specs.AnswerSteps.{Step, such, ◌▸◌}
use Rattle.mrt_calls.specs.Areas.{input_in}
use Rattle.mrt_calls.specs.declared.area.MrtArea.{MrtArea}
use Rattle.mrt_calls.specs.declared.shape.MrtIsland.{MrtIsland}

-- the number of its root, how many nodes and links it has, and how long the text of its certificate is
pub record IsShape (island : Island) (shape : MrtIsland) : Type 0 where
  pub root_id : NodeId
  pub root_is : slice_get island.graph.ids island.root ≡ Some root_id
  pub root : shape.root ≡ root_id.number
  pub nodes : shape.nodes ≡ length island.graph.ids
  pub links : shape.links ≡ length island.graph.links
  pub text : List ℕ
  pub computed : IsComputed island.graph island.root text
  pub certificate : shape.certificate ≡ length text
  pub reserved_1 : shape.reserved_1 ≡ 0
  pub reserved_2 : shape.reserved_2 ≡ 0

-- the shape of a router's island
abbrev pub shape_in : MrtArea → ℕ → Step MrtIsland
shape_in area router = input_in area ▸ λ input. island_in input router ▸ λ island. such (IsShape island)

-- the bytes of the certificate of a router's island
abbrev pub certified_in : MrtArea → ℕ → Step (List ℕ)
certified_in area router = input_in area ▸ λ input. certified input router
