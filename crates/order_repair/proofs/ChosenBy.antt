-- The color of the line of a pair's tag is chosen by order.
use Rattle.std.proofs.Common.{◌≢◌, ◌∙◌, ℕ, sym, subst}
use Rattle.mrt_graph.specs.declared.cert.Color.{Color}
use Rattle.mrt_graph.specs.declared.cert.Role.TheVariants.{Sole}
use Rattle.mrt_graph.specs.declared.cert.Tag.{Tag}
use Rattle.mrt_graph.specs.declared.link.Element.{Element}
use Rattle.mrt_graph.specs.declared.link.Element.TheVariants as elements
use Rattle.mrt_graph.specs.Topology.{Topology}
use Rattle.link_direction.specs.Directions.{Directions}
use Rattle.mrt_rows.proofs.OrderedGraphs.{OrderedGraph}
use Rattle.order_repair.specs.ColorTable.{IsOfTable}
use Rattle.order_repair.specs.Failed.{IsBetween}
use Rattle.order_repair.specs.OrderChoice.{IsOrderChoice, LineFor}
use Rattle.order_repair.specs.steps.Tagging.{IsPair}
use Rattle.order_repair.proofs.SharedBlock.{shared_ring}

-- a link of a block of more than one link is no sole one
pub not_sole : (og : OrderedGraph) (s t e : ℕ) → IsBetween og.g og.w s t (elements.Link e) → og.w.role e ≢ Sole
not_sole og s t e between =
    let it = shared_ring og s t between.block between.head between.source between.target between.share in
    it.ring.closed.none_sole e between.lies.within (between.lies.in_block ∙ it.block)

pub chosen : (g : Topology) (root : ℕ) (w : Directions) (s t : ℕ) (tag : Tag) (k h : ℕ) (x : Element) (color : Color)
    → IsPair g root w s t tag k h → IsBetween g w s t x → LineFor tag g w s t x color → IsOrderChoice g root w s t x color
chosen g root w s t tag k h x color pair between line = record {
  between = between;
  row = pair.row;
  its_row = pair.its_row;
  of_table = subst IsOfTable (sym pair.tag_is) pair.of_table;
  by_tag = subst (λ (a : Tag). LineFor a g w s t x color) (sym pair.tag_is) line;
}
