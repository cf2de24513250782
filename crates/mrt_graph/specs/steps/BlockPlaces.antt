-- Where the rows of one node for those of its block stand among the rows of related nodes.
use Rattle.std.specs.Prelude.{◌≡◌, ◌<◌, ◌≤◌, ◌^◌, Some, length, slice_get}
use Rattle.mrt_graph.specs.declared.relatives.BlockPlaces.{BlockPlaces}
use Rattle.mrt_graph.specs.Groups.{with_key}
use Rattle.mrt_graph.specs.steps.Kin.{IsUpperNumber, kin_before}

-- what is read once tells the node's block, its head in another block, its children there, and where its rows begin
pub record AreBlockPlaces (p : BlockPlaces) : Type 0 where
  pub within : p.node < length p.relatives.now.blocks
  pub both : length p.relatives.now.heads ≡ length p.relatives.now.blocks
  pub few : length p.relatives.now.blocks ≤ 65535
  pub block : slice_get p.relatives.now.blocks p.node ≡ Some p.block
  pub upper : IsUpperNumber p.relatives.now.heads p.node p.upper
  pub children : p.children.now ≡ with_key p.relatives.now.heads p.node
  pub begin : p.begin ≡ kin_before p.relatives.now p.node
  pub small : p.begin < 2 ^ 32
