-- The GADAG, when all turns are over and each link has its block.
use Rattle.std.proofs.Common.{◌≡◌, ◌∙◌, ℕ, List, Some, length, sym, subst}
use Rattle.mrt_graph.specs.declared.gadag.Mark.{Mark}
use Rattle.mrt_graph.specs.declared.gadag.Place.{Place}
use Rattle.mrt_graph.specs.declared.tree.TreeNode.{TreeNode}
use Rattle.mrt_graph.specs.GadagLists.{GadagLists, gadag_of}
use Rattle.mrt_graph.specs.GadagFields.{role_at, way_at}
use Rattle.mrt_graph.specs.Leads.{leads}
use Rattle.mrt_graph.specs.Topology.{Topology}
use Rattle.gadag_ears.specs.declared.growing.Growing.{Growing}
use Rattle.gadag_ears.specs.steps.Blocks.{AreBlocksGiven}
use Rattle.gadag_ears.specs.CommonBlock.{IsCommonBlock}
use Rattle.gadag_ears.specs.Ear.{Ear}
use Rattle.gadag_ears.specs.Gadag.{IsGadag}
use Rattle.gadag_ears.specs.steps.Growing.{IsEnded}
use Rattle.gadag_ears.specs.LinkMarks.{AreDirected, AreMarks, HaveRoles}
use Rattle.gadag_ears.proofs.CommonBlocks.{common_block, placed_by_low}
use Rattle.gadag_ears.proofs.FromSearch.{facts_of}
use Rattle.gadag_ears.proofs.MarksGrown.{tail_stays}

-- links with the same directions and roles
ways_stay : (g : Topology) (tree : List TreeNode) (ears : List Ear) (marks marks' : List Mark) → ((e : ℕ) → way_at marks' e ≡ way_at marks e)
    → AreDirected g tree ears marks → AreDirected g tree ears marks'
ways_stay g tree ears marks marks' same are = record {
  out = λ ear c. tail_stays g marks marks' ear.link (same ear.link) ∙ are.out ear c;
  onward = λ ear v e c more on. tail_stays g marks marks' e (same e) ∙ are.onward ear v e c more on;
  others = λ e within none. same e ∙ are.others e within none;
}

roles_stay : (g : Topology) (tree : List TreeNode) (ears : List Ear) (marks marks' : List Mark) → ((e : ℕ) → role_at marks' e ≡ role_at marks e)
    → HaveRoles g tree ears marks → HaveRoles g tree ears marks'
roles_stay g tree ears marks marks' same are = record {
  sole = λ ear c one. same ear.link ∙ are.sole ear c one;
  closing = λ ear e c last other. same e ∙ are.closing ear e c last other;
  others = λ e within none. same e ∙ are.others e within none;
}

-- the two nodes of each link have a common block
pub common_ended : (g : Topology) (root : ℕ) (tree : List TreeNode) (growing : Growing) (places : List Place) → IsEnded g root tree growing
    → places ≡ growing.places.items → (e u v : ℕ) → leads g.links e u ≡ Some v → (block : ℕ) × IsCommonBlock places u v block
common_ended g root tree growing places ended same e u v onward =
    let facts = facts_of g root tree ended.searched in
    subst (λ (xs : List Place). (block : ℕ) × IsCommonBlock xs u v block) (sym same)
    (common_block g root tree growing.places.items e u v facts
    (placed_by_low g root tree growing.order.items ended.ears growing.places.items facts ended.are_ears ended.placed) ended.one_place_each onward)

pub gadag_made : (g : Topology) (root : ℕ) (tree : List TreeNode) (growing : Growing) (places : List Place) (marks : List Mark) (gadag : GadagLists)
    → IsEnded g root tree growing → places ≡ growing.places.items → AreBlocksGiven g places (length g.links) growing.marks.items marks
    → gadag ≡ gadag_of growing.order.items growing.places.items marks → IsGadag g root tree gadag
gadag_made g root tree growing places marks gadag ended same given is =
    subst (λ (it : GadagLists). IsGadag g root tree it) (sym is) (record {
      ears = ended.ears;
      are_ears = ended.are_ears;
      one_place_each = ended.one_place_each;
      places = ended.placed;
      marks = subst (λ (xs : List Place). AreMarks g tree ended.ears xs marks) same (record {
        one_each = given.one_each ∙ ended.marked.one_each;
        directed = ways_stay g tree ended.ears growing.marks.items marks given.ways ended.marked.directed;
        roles = roles_stay g tree ended.ears growing.marks.items marks given.roles ended.marked.roles;
        blocks = given.blocks;
      });
    })
