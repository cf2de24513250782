-- Numbers by which a root is chosen.
use Rattle.std.specs.Prelude.{◌≡◌, ℕ, List, Some, slice_get}
use Rattle.mrt_graph.specs.declared.node_id.Kind.{Kind}
use Rattle.mrt_graph.specs.declared.node_id.Kind.TheVariants as kinds
use Rattle.mrt_graph.specs.declared.node_id.NodeId.{NodeId}
use Rattle.mrt_island.specs.Policy.{Policy}

-- one of the nodes is a router
pub record HasRouter (ids : List NodeId) : Type 0 where
  pub place : ℕ
  pub id : NodeId
  pub there : slice_get ids place ≡ Some id
  pub router : id.kind ≡ kinds.Router

-- a router's priority number; of a network one above all those
abbrev pub level_of : Policy → Kind → ℕ → ℕ
level_of policy kinds.Router number = policy.priority number
level_of policy kinds.Network number = 256
