use Rattle.std.proofs.Common.{◌≤◌, ℕ, length, arith}
use Rattle.block_spf.specs.declared.reach.Dir.{Dir}
use Rattle.block_spf.specs.Fan.{IsOpen}
use Rattle.block_spf.specs.FanEntries.{FanEntries}
use Rattle.link_direction.specs.Directions.{Directions}
use Rattle.mrt_graph.specs.Topology.{Topology}
use Rattle.mrt_rows.specs.steps.ListedDirections.{directions_by}
use Rattle.mrt_rows.proofs.of_source.RowMaker.new.Goals as goal

-- a fan is open from no node
open_from_none : (g : Topology) (w : Directions) (dir : Dir) (first : ℕ) (fan : FanEntries) → length g.ids ≤ first → IsOpen g w dir first fan
open_from_none g w dir first fan past = record { each = λ j t ends below inside within list. absurd (omega (arith, past, inside)) }

pub returns-clause-made : goal.returns-clause-made
returns-clause-made c =
    let g = c.args.rooted.now.graph.now in
    let w = directions_by c.args.rooted.now in
    let past : length g.ids ≤ c.node_count.result = omega (arith, c.node_count.ensures.count) in
    record {
      common = c.in_ok-common.ensures;
      some = c.requires.some;
      up = record { nodes = c.in_ok-up.ensures.nodes; width = c.in_ok-up.ensures.width };
      down = record { nodes = c.in_ok-down.ensures.nodes; width = c.in_ok-down.ensures.width };
      up_open = open_from_none g w _ c.node_count.result c.in_ok-up.up past;
      down_open = open_from_none g w _ c.node_count.result c.in_ok-down.down past;
    }
