use Rattle.std.proofs.Common.{◌++◌, ◌∙◌, ℕ, List, ap}
use Rattle.mrt_graph.specs.DirectedLists.{DirectedLists}
use Rattle.mrt_graph.specs.Topology.{Topology}
use Rattle.link_direction.specs.OrderedGadag.{SaysOrdered}
use Rattle.block_spf.specs.HasDirections.{HasDirections}
use Rattle.block_spf.proofs.SameDirections.{directions_are}
use Rattle.mrt_rows.specs.ListedDirections.{directions_of}
use Rattle.mrt_rows.proofs.Rooting.{rooted_by}
use Rattle.order_repair.specs.Source.{AreHops}
use Rattle.order_repair.proofs.text.order_text.Goals as goal

-- the directions of the graph
abbrev has : (g : Topology) (d : DirectedLists) (root : ℕ) → SaysOrdered g root d → HasDirections g d
has g d root is = record { root = root; directions = is.directions; are = (record { says = is.says; ordered = is.ordered }) }

pub new-requires-clause-directed : goal.new-requires-clause-directed
new-requires-clause-directed c = has c.args.g.now c.args.d.now c.args.root c.requires.directed

pub push_lines-requires-clause-source : goal.push_lines-requires-clause-source
push_lines-requires-clause-source c = record {
  kept = c.node_count-count.ensures.kept;
  directed = has c.args.g.now c.args.d.now c.args.root c.requires.directed;
  within = c.requires.source;
  one_up_each = (c.in_ok-up.ensures c.requires.directed.directions c.requires.directed.says).one_each;
  one_down_each = (c.in_ok-down.ensures c.requires.directed.directions c.requires.directed.says).one_each;
}

pub returns-clause-by_words : goal.returns-clause-by_words
returns-clause-by_words c = λ w says.
    let g = c.args.g.now in
    let hops : AreHops g c.args.d.now c.args.root w c.args.source c.in_ok-up.up c.in_ok-down.down = record {
      are = directions_are g c.args.d.now w c.node_count-count.ensures.kept (has g c.args.d.now c.args.root c.requires.directed) says;
      goes_up = c.in_ok-up.ensures w says;
      goes_down = c.in_ok-down.ensures w says;
    } in
    let head = c.in_ok-push_head.ensures in
    let lines = c.in_ok-push_lines.ensures c.args.root w hops in
    record {
      head = head.part;
      head_is = head.is;
      lines = lines.part;
      lines_are = lines.is;
      spelled = lines.added ∙ ap (λ (xs : List ℕ). xs ++ lines.part) (head.added ∙ ap (λ (xs : List ℕ). xs ++ head.part) c.new-text.ensures.items);
    }

pub returns-clause-of_graph : goal.returns-clause-of_graph
returns-clause-of_graph c = λ from_root.
    let g = c.args.g.now in
    let d = c.args.d.now in
    let rooted = rooted_by g c.args.root d c.node_count-count.ensures.kept c.requires.directed in
    record { directed = d; from_root = from_root; is = returns-clause-by_words c (directions_of g d) rooted.says }
