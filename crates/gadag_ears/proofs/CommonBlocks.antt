-- The common block of a link's two nodes.
use Rattle.std.proofs.Common.{◌≡◌, ◌≢◌, ◌<◌, ◌≤◌, ◌∙◌, ℕ, zero, suc, List, [], Option, Some, None, length, slice_get, inl, inr, refl, sym, ap, subst, arith}
use Rattle.std.specs.Option.{option_and_then, option_map}
use Rattle.std.specs.Prelude.{Contains}
use Rattle.std.proofs.lemmas.Bool.{cases_eq, cases_lt}
use Rattle.std.proofs.lemmas.Option.{same_Some}
use Rattle.mrt_graph.specs.declared.gadag.Place.{Place}
use Rattle.mrt_graph.specs.declared.link.Link.{Link}
use Rattle.mrt_graph.specs.declared.tree.TreeNode.{TreeNode}
use Rattle.mrt_graph.specs.GadagFields.{block_at, head_at}
use Rattle.mrt_graph.specs.GraphInvariant.{IsLink, IsTopology}
use Rattle.mrt_graph.specs.Leads.{far_node, leads}
use Rattle.mrt_graph.specs.Topology.{Topology}
use Rattle.mrt_graph.specs.TreeFields.{low_of, search_number}
use Rattle.mrt_graph.proofs.Hops.{far_ends, lead_back}
use Rattle.mrt_graph.proofs.ListTests.{all_at, there}
use Rattle.lowpoint_dfs.specs.Subtree.{IsInSubtree, Itself, parent_of}
use Rattle.gadag_ears.specs.Ear.{Ear}
use Rattle.gadag_ears.specs.EarOrder.{AreEars}
use Rattle.gadag_ears.specs.HeadAndBlock.{ArePlaces}
use Rattle.gadag_ears.specs.CommonBlock.{FirstIsHead, IsCommonBlock, OfBoth, SecondIsHead}
use Rattle.gadag_ears.proofs.Ended.{each_listed}
use Rattle.gadag_ears.proofs.HeadsByLowpoints.{IsPlacedByLow, below_head, heads_all}
use Rattle.gadag_ears.proofs.SearchFacts.{AreFacts}

-- all nodes are placed by their lowpoints
pub placed_by_low : (g : Topology) (root : ℕ) (tree : List TreeNode) (order : List ℕ) (ears : List Ear) (places : List Place) → AreFacts g root tree
    → AreEars g root tree order ears → ArePlaces root ears places → (v p : ℕ) → v < length g.ids → parent_of g tree v ≡ Some p → IsPlacedByLow g tree places v p
placed_by_low g root tree order ears places facts are placed v p within is =
    heads_all g root tree places ears are.before are.last [] ears facts placed are.ordered (λ ear c. c) v p
    (subst (λ (xs : List ℕ). Contains xs v) are.whole (each_listed g root tree order ears facts are v within)) is

-- a link leads to another node
pub leads_elsewhere : (g : Topology) (e u v : ℕ) → IsTopology g → leads g.links e u ≡ Some v → u ≢ v
leads_elsewhere g e u v kept onward = go (slice_get g.links e) refl onward
  where
    go : (o : Option Link) → slice_get g.links e ≡ o → option_and_then (far_node u) o ≡ Some v → u ≢ v
    go None is there = λ same. cc
    go (Some link) is there =
        let it : IsLink g.ids link = all_at (IsLink g.ids) g.links e link kept.links_kept is in
        elim (far_ends link u v there) [
          | inl up ↦ λ same. omega (arith, up.0, up.1, it.ascending, same)
          | inr down ↦ λ same. omega (arith, down.0, down.1, it.ascending, same)
        ]

-- a node's block
block_there : (places : List Place) (v : ℕ) → v < length places → (k : ℕ) × (block_at places v ≡ Some k)
block_there places v within =
    let it = there places v within in (it.0.block, ap (λ o. option_map (λ place. place.block) o) it.1)

-- where u is above v
common_below : (g : Topology) (root : ℕ) (tree : List TreeNode) (places : List Place) (e u v : ℕ) → AreFacts g root tree
    → ((v p : ℕ) → v < length g.ids → parent_of g tree v ≡ Some p → IsPlacedByLow g tree places v p) → length places ≡ length g.ids
    → leads g.links e u ≡ Some v → IsInSubtree g tree u v → (k : ℕ) × IsCommonBlock places u v k
common_below g root tree places e u v facts by_low one_each onward above =
    let both = facts.leads_within e u v onward in
    let back = lead_back g.links e u v onward in
    let block = block_there places v (omega (arith, both.1, one_each)) in
    elim (below_head g root tree places u v e v facts by_low back above Itself (λ same. leads_elsewhere g e u v facts.kept onward (sym same))) [
      | inl same ↦ (block.0, OfBoth (sym same ∙ block.1) block.1)
      | inr head ↦ (block.0, FirstIsHead block.1 head)
    ]

pub turned_round : (places : List Place) (u v k : ℕ) → IsCommonBlock places v u k → IsCommonBlock places u v k
turned_round places u v k (OfBoth one two) = OfBoth two one
turned_round places u v k (FirstIsHead block head) = SecondIsHead block head
turned_round places u v k (SecondIsHead block head) = FirstIsHead block head

-- the common block of a link's nodes, in either order
pub common_of : (g : Topology) (places : List Place) (e : ℕ) (link : Link) (k : ℕ) → slice_get g.links e ≡ Some link → IsCommonBlock places link.a link.b k
    → (u v : ℕ) → leads g.links e u ≡ Some v → IsCommonBlock places u v k
common_of g places e link k is common u v to =
    let far : far_node u link ≡ Some v = sym (ap (λ o. option_and_then (far_node u) o) is) ∙ to in
    elim (far_ends link u v far) [
      | inl up ↦ subst (λ (w : ℕ). IsCommonBlock places w v k) up.0 (subst (λ (w : ℕ). IsCommonBlock places link.a w k) up.1 common)
      | inr down ↦ turned_round places u v k
          (subst (λ (w : ℕ). IsCommonBlock places w u k) down.1 (subst (λ (w : ℕ). IsCommonBlock places link.a w k) down.0 common))
    ]

-- the two nodes of a link have a common block
pub common_block : (g : Topology) (root : ℕ) (tree : List TreeNode) (places : List Place) (e u v : ℕ) → AreFacts g root tree
    → ((v p : ℕ) → v < length g.ids → parent_of g tree v ≡ Some p → IsPlacedByLow g tree places v p) → length places ≡ length g.ids
    → leads g.links e u ≡ Some v → (k : ℕ) × IsCommonBlock places u v k
common_block g root tree places e u v facts by_low one_each onward = elim (facts.joins e u v onward) [
  | inl above ↦ common_below g root tree places e u v facts by_low one_each onward above
  | inr below ↦
      let it = common_below g root tree places e v u facts by_low one_each (lead_back g.links e u v onward) below in
      (it.0, turned_round places u v it.0 it.1)
]

-- a node's head has a lower number, and its block is not the root's
pub record IsHeaded (g : Topology) (root : ℕ) (tree : List TreeNode) (places : List Place) (v : ℕ) : Type 0 where
  pub head : ℕ
  pub has : head_at places v ≡ Some head
  pub lower : search_number tree head < search_number tree v
  pub block : ℕ
  pub block_has : block_at places v ≡ Some block
  pub not_root : block ≢ root

pub headed : (left : ℕ) (g : Topology) (root : ℕ) (tree : List TreeNode) (places : List Place) (v : ℕ) → AreFacts g root tree
    → ((v p : ℕ) → v < length g.ids → parent_of g tree v ≡ Some p → IsPlacedByLow g tree places v p)
    → v < length g.ids → v ≢ root → search_number tree v ≤ left → IsHeaded g root tree places v
headed zero g root tree places v facts by_low within other few =
    let has = facts.parent v within other in absurd (omega (arith, has.lower, few))
headed (suc left) g root tree places v facts by_low within other few =
    let has = facts.parent v within other in
    let place = by_low v has.parent within has.is in
    elim (cases_lt (low_of tree v) (search_number tree has.parent)) [
      | inr high ↦ record {
        head = has.parent;
        has = (place.heads high).0;
        lower = has.lower;
        block = v;
        block_has = (place.heads high).1;
        not_root = other;
      }
      | inl low ↦
          let further : has.parent ≢ root = λ same. omega (arith, low, facts.low_from_one v within, facts.root_first, ap (λ (w : ℕ). search_number tree w) same) in
          let rest = headed left g root tree places has.parent facts by_low (facts.parent_within v has.parent has.is).1 further (omega (arith, has.lower, few)) in
          record {
            head = rest.head;
            has = (place.joins low).0 ∙ rest.has;
            lower = omega (arith, rest.lower, has.lower);
            block = rest.block;
            block_has = (place.joins low).1 ∙ rest.block_has;
            not_root = rest.not_root;
          }
    ]

-- no other node is in the root's block
pub root_alone : (g : Topology) (root : ℕ) (tree : List TreeNode) (places : List Place) (v : ℕ) → AreFacts g root tree
    → ((v p : ℕ) → v < length g.ids → parent_of g tree v ≡ Some p → IsPlacedByLow g tree places v p)
    → v < length g.ids → block_at places v ≡ Some root → v ≡ root
root_alone g root tree places v facts by_low within is = elim (cases_eq v root) [
  | inl same ↦ same
  | inr other ↦
      let it = headed (search_number tree v) g root tree places v facts by_low within other (omega arith) in
      absurd (it.not_root (same_Some it.block root (sym it.block_has ∙ is)))
]

-- two nodes are not the heads of one another
not_both_heads : (g : Topology) (root : ℕ) (tree : List TreeNode) (places : List Place) (u v : ℕ) → AreFacts g root tree
    → ((v p : ℕ) → v < length g.ids → parent_of g tree v ≡ Some p → IsPlacedByLow g tree places v p) → head_at places root ≡ Some root
    → u < length g.ids → v < length g.ids → u ≢ v → head_at places v ≡ Some u → head_at places u ≡ Some v → ⊥
not_both_heads g root tree places u v facts by_low of_root u_within v_within other v_head u_head = elim (cases_eq v root) [
  | inl same ↦ other (sym (same_Some v u (ap (λ (w : ℕ). Some w) same ∙ sym of_root ∙ ap (λ (w : ℕ). head_at places w) (sym same) ∙ v_head)))
  | inr v_other ↦ elim (cases_eq u root) [
    | inl same ↦ other (same_Some u v (ap (λ (w : ℕ). Some w) same ∙ sym of_root ∙ ap (λ (w : ℕ). head_at places w) (sym same) ∙ u_head))
    | inr u_other ↦
        let one = headed (search_number tree v) g root tree places v facts by_low v_within v_other (omega arith) in
        let two = headed (search_number tree u) g root tree places u facts by_low u_within u_other (omega arith) in
        omega (
          arith,
          one.lower,
          two.lower,
          ap (λ (w : ℕ). search_number tree w) (same_Some one.head u (sym one.has ∙ v_head)),
          ap (λ (w : ℕ). search_number tree w) (same_Some two.head v (sym two.has ∙ u_head)),
        )
  ]
]

-- the common block is one
pub one_common_block : (g : Topology) (root : ℕ) (tree : List TreeNode) (places : List Place) (u v k l : ℕ) → AreFacts g root tree
    → ((v p : ℕ) → v < length g.ids → parent_of g tree v ≡ Some p → IsPlacedByLow g tree places v p) → head_at places root ≡ Some root
    → u < length g.ids → v < length g.ids → u ≢ v → IsCommonBlock places u v k → IsCommonBlock places u v l → k ≡ l
one_common_block g root tree places u v k l facts by_low of_root u_within v_within other (OfBoth one two) (OfBoth one' two') = same_Some k l (sym one ∙ one')
one_common_block g root tree places u v k l facts by_low of_root u_within v_within other (OfBoth one two) (FirstIsHead block head) = same_Some k l (sym two ∙ block)
one_common_block g root tree places u v k l facts by_low of_root u_within v_within other (OfBoth one two) (SecondIsHead block head) = same_Some k l (sym one ∙ block)
one_common_block g root tree places u v k l facts by_low of_root u_within v_within other (FirstIsHead block head) (OfBoth one two) = same_Some k l (sym block ∙ two)
one_common_block g root tree places u v k l facts by_low of_root u_within v_within other (FirstIsHead block head) (FirstIsHead block' head') = same_Some k l (sym block ∙ block')
one_common_block g root tree places u v k l facts by_low of_root u_within v_within other (FirstIsHead block head) (SecondIsHead block' head') =
    absurd (not_both_heads g root tree places u v facts by_low of_root u_within v_within other head head')
one_common_block g root tree places u v k l facts by_low of_root u_within v_within other (SecondIsHead block head) (OfBoth one two) = same_Some k l (sym block ∙ one)
one_common_block g root tree places u v k l facts by_low of_root u_within v_within other (SecondIsHead block head) (FirstIsHead block' head') =
    absurd (not_both_heads g root tree places u v facts by_low of_root u_within v_within other head' head)
one_common_block g root tree places u v k l facts by_low of_root u_within v_within other (SecondIsHead block head) (SecondIsHead block' head') = same_Some k l (sym block ∙ block')
