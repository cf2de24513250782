-- A node's head has a lower order.
use Rattle.std.proofs.Common.{◌≡◌, ◌≢◌, ◌<◌, ◌≤◌, ◌∙◌, ℕ, zero, suc, length, sym, ap, arith}
use Rattle.std.proofs.lemmas.Option.{same_Some}
use Rattle.mrt_graph.specs.DirectedLists.{DirectedLists}
use Rattle.mrt_graph.specs.GadagLists.{GadagLists}
use Rattle.mrt_graph.specs.Topology.{Topology}
use Rattle.lowpoint_dfs.proofs.WholeTree.{leads_within}
use Rattle.gadag_ears.specs.CommonBlock.{FirstIsHead, IsCommonBlock, OfBoth, SecondIsHead}
use Rattle.gadag_ears.specs.Members.{HasLinkInto}
use Rattle.link_direction.specs.Directions.{Directions}
use Rattle.link_direction.proofs.Answered.{IsAnswered, block_said, counted_rises, head_said, member_not_root, same_head}
use Rattle.link_direction.proofs.EnteredBy.{link_within}

-- the node from which a counted link of v's block comes to v is v's head, or is of v's block
pub data ComesFrom (w : Directions) (v u : ℕ) : Type 0 where
  FromHead : w.head v ≡ u → ComesFrom w v u
  FromMember : w.block u ≡ w.block v → ComesFrom w v u

pub comes_from : (g : Topology) (root : ℕ) (gadag : GadagLists) (d : DirectedLists) (w : Directions) (v : ℕ) → IsAnswered g root gadag d w
    → v < length g.ids → (into : HasLinkInto g gadag v) → ComesFrom w v into.from
comes_from g root gadag d w v a within into =
    let e_within = link_within g into.link into.from v into.counted.to in
    let lies = a.facts.lies into.link e_within in
    by lies.block (same_Some lies.block into.in_block.block (sym lies.is ∙ into.in_block.of_link)) (lies.common into.from v into.counted.to)
  where
    u_within : into.from < length g.ids
    u_within = (leads_within g into.link into.from v a.facts.kept into.counted.to).0

    of_v : w.block v ≡ into.in_block.block
    of_v = same_Some (w.block v) into.in_block.block (sym (block_said g root gadag d w v a within) ∙ into.in_block.of_node)

    by : (k : ℕ) → k ≡ into.in_block.block → IsCommonBlock gadag.places into.from v k → ComesFrom w v into.from
    by k same (OfBoth one two) = FromMember (same_Some (w.block into.from) k (sym (block_said g root gadag d w into.from a u_within) ∙ one) ∙ same ∙ sym of_v)
    by k same (FirstIsHead block head) = FromHead (same_Some (w.head v) into.from (sym (head_said g root gadag d w v a within) ∙ head))
    by k same (SecondIsHead block head) = FromMember (same_Some (w.block into.from) k (sym (block_said g root gadag d w into.from a u_within) ∙ block) ∙ same ∙ sym of_v)

lower_by : (left : ℕ) (g : Topology) (root : ℕ) (gadag : GadagLists) (d : DirectedLists) (w : Directions) (v : ℕ) → IsAnswered g root gadag d w
    → v < length g.ids → v ≢ root → w.order v ≤ left → w.order (w.head v) < w.order v
lower_by zero g root gadag d w v a within other few =
    let into = a.facts.into v within other in absurd (omega (arith, few, counted_rises g root gadag d w into.link into.from v a into.counted))
lower_by (suc left) g root gadag d w v a within other few =
    let into = a.facts.into v within other in
    let rises = counted_rises g root gadag d w into.link into.from v a into.counted in
    let u_within = (leads_within g into.link into.from v a.facts.kept into.counted.to).0 in
    elim (comes_from g root gadag d w v a within into) [
      | FromHead is ↦ omega (arith, rises, ap (λ (u : ℕ). w.order u) is)
      | FromMember is ↦
          let rest = lower_by left g root gadag d w into.from a u_within (member_not_root g root gadag d w v into.from a within other is) (omega (arith, rises, few)) in
          omega (arith, rest, rises, ap (λ (u : ℕ). w.order u) (same_head g root gadag d w into.from v a u_within within is))
    ]

pub head_lower : (g : Topology) (root : ℕ) (gadag : GadagLists) (d : DirectedLists) (w : Directions) (v : ℕ) → IsAnswered g root gadag d w
    → v < length g.ids → v ≢ root → w.order (w.head v) < w.order v
head_lower g root gadag d w v a within other = lower_by (w.order v) g root gadag d w v a within other (omega arith)
