-- A graph with a GADAG in order: its links, its ends, and the blocks that nodes have in common.
use Rattle.std.proofs.Common.{◌≡◌, ◌≢◌, ◌∙◌, ◌<◌, ℕ, Some, length, sym, ap, arith}
use Rattle.mrt_graph.specs.declared.link.End.{End}
use Rattle.mrt_graph.specs.DirectedLists.{DirectedLists}
use Rattle.mrt_graph.specs.GraphInvariant.{IsTopology}
use Rattle.mrt_graph.specs.Leads.{leads}
use Rattle.mrt_graph.specs.Topology.{Topology}
use Rattle.mrt_graph.proofs.EndsAt.{end_leads, leads_end, list_of_ends}
use Rattle.link_direction.specs.CommonBlock.{HaveCommonBlock}
use Rattle.link_direction.specs.Directions.{Directions}
use Rattle.link_direction.specs.OrderedGadag.{IsOrderedGadag}
use Rattle.block_spf.specs.declared.reach.Dir.{Dir}
use Rattle.block_spf.specs.declared.reach.Dir.TheVariants.{Down, Up}
use Rattle.block_spf.specs.HasDirections.{AreDirections}
use Rattle.block_spf.specs.Path.{IsStep, LeadsOn}
use Rattle.link_direction.proofs.ClosedBlocks.{IsOrdered}
use Rattle.link_direction.proofs.LinkNodes.{leads_elsewhere, leads_within, link_within}
use Rattle.link_direction.proofs.OneBlock.{one_block}

-- a graph, its root, and what a GADAG with its order says
pub record OrderedGraph : Type 0 where
  pub g : Topology
  pub root : ℕ
  pub w : Directions
  pub kept : IsTopology g
  pub ordered : IsOrderedGadag g root w

abbrev pub graph_of : (g : Topology) (root : ℕ) (w : Directions) (d : DirectedLists) → IsTopology g
    → AreDirections g d root w → OrderedGraph
graph_of g root w d kept are = record { g = g; root = root; w = w; kept = kept; ordered = are.ordered }

-- as the lower crate has it
pub is_ordered : (og : OrderedGraph) → IsOrdered og.g og.root og.w
is_ordered og = record { kept = og.kept; ordered = og.ordered }

-- the numbers of a link and of its two nodes are in range, and the two differ
pub record Within (g : Topology) (e u v : ℕ) : Type 0 where
  pub link : e < length g.links
  pub from : u < length g.ids
  pub to : v < length g.ids
  pub differ : u ≢ v

pub within : (g : Topology) (e u v : ℕ) → IsTopology g → leads g.links e u ≡ Some v → Within g e u v
within g e u v kept onward =
    let both = leads_within g e u v kept onward in
    record { link = link_within g e u v kept onward; from = both.0; to = both.1; differ = leads_elsewhere g e u v kept onward }

-- where the link of a step leads
pub step_leads : (og : OrderedGraph) (dir : Dir) (k s : ℕ) (end : End) → IsStep og.g og.w dir k s end
    → leads og.g.links end.link s ≡ Some end.to
step_leads og dir k s end step = end_leads og.g s step.place step.ends end og.kept step.list step.there

-- a step over a link to a node
pub record StepOver (og : OrderedGraph) (dir : Dir) (k s e v : ℕ) : Type 0 where
  pub end : End
  pub step : IsStep og.g og.w dir k s end
  pub over : end.link ≡ e
  pub to : end.to ≡ v

-- the direction that a step takes over a link of this tail
abbrev pub TailAt : OrderedGraph → Dir → ℕ → ℕ → ℕ → Type 0
TailAt og Up e u v = og.w.tail e ≡ u
TailAt og Down e u v = og.w.tail e ≡ v

led_on : (og : OrderedGraph) (dir : Dir) (u : ℕ) (end : End) (e v : ℕ) → end.link ≡ e → end.to ≡ v → TailAt og dir e u v
    → LeadsOn og.w dir u end
led_on og Up u end e v over to tail = ap og.w.tail over ∙ tail
led_on og Down u end e v over to tail = ap og.w.tail over ∙ tail ∙ sym to

pub step_over : (og : OrderedGraph) (dir : Dir) (k e u v : ℕ) → leads og.g.links e u ≡ Some v → og.w.lies_in e ≡ k
    → TailAt og dir e u v → StepOver og dir k u e v
step_over og dir k e u v onward block tail =
    let ends = list_of_ends og.g u og.kept (within og.g e u v og.kept onward).from in
    let it = leads_end og.g u e v ends.0 og.kept ends.1 onward in
    record {
      end = it.end;
      step = record {
        ends = ends.0;
        list = ends.1;
        place = it.place;
        there = it.at;
        in_block = ap og.w.lies_in it.over ∙ block;
        leads_on = led_on og dir u it.end e v it.over it.to tail;
      };
      over = it.over;
      to = it.to;
    }

module _ (og : OrderedGraph) where
  abbrev n : ℕ
  n = length og.g.ids

  -- the root is no head of its own block's other node
  pub not_root_of_peers : (u v : ℕ) → u < n → v < n → u ≢ v → og.w.block u ≡ og.w.block v → v ≢ og.root
  not_root_of_peers u v u_within v_within differ same = λ at_root.
      og.ordered.heads.alone u u_within (λ u_root. differ (u_root ∙ sym at_root))
      (same ∙ ap og.w.block at_root ∙ og.ordered.heads.root_block)

  -- of two nodes of one block none is the head of the other one
  pub peers_not_head : (u v : ℕ) → u < n → v < n → u ≢ v → og.w.block u ≡ og.w.block v → og.w.head u ≢ v
  peers_not_head u v u_within v_within differ same = λ head.
      let other = not_root_of_peers u v u_within v_within differ same in
      let one = og.ordered.heads.one_head u v u_within v_within same in
      let lower = og.ordered.heads.lower v v_within other in
      omega (arith, lower, ap og.w.order (sym one ∙ head))

  -- a node with a head other than itself is not the root
  pub has_head : (u v : ℕ) → u ≢ v → og.w.head u ≡ v → u ≢ og.root
  has_head u v two head = λ at_root. two (at_root ∙ sym og.ordered.heads.root_head ∙ ap og.w.head (sym at_root) ∙ head)

  -- two nodes are not heads of each other
  pub one_is_head : (u v : ℕ) → u < n → v < n → u ≢ v → og.w.head u ≡ v → og.w.head v ≢ u
  one_is_head u v u_within v_within differ head = λ back.
      let u_lower = og.ordered.heads.lower u u_within (has_head u v differ head) in
      let v_lower = og.ordered.heads.lower v v_within (has_head v u (λ same. differ (sym same)) back) in
      omega (arith, u_lower, v_lower, ap og.w.order head, ap og.w.order back)

  -- two nodes have one block in common at most
  pub one_common : (u v k h j i : ℕ) → u < n → v < n → u ≢ v → HaveCommonBlock og.w u v k h → HaveCommonBlock og.w u v j i
      → (k ≡ j) × (h ≡ i)
  one_common u v k h j i u_within v_within differ one other =
      one_block og.g og.root og.w u v k h j i (is_ordered og) u_within v_within differ one other
