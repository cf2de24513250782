-- What is known of the GADAG that the ears give.
use Rattle.std.proofs.Common.{◌≡◌, ◌≢◌, ◌<◌, ◌≤◌, ◌⊎◌, ◌∙◌, ℕ, zero, suc, List, Some, length, slice_get, inl, inr, sym, ap, subst, arith}
use Rattle.std.specs.Prelude.{Contains}
use Rattle.std.proofs.lemmas.Bool.{cases_eq, cases_lt}
use Rattle.std.proofs.lemmas.Option.{same_Some}
use Rattle.mrt_graph.specs.declared.cert.Role.TheVariants.{Closing}
use Rattle.mrt_graph.specs.declared.gadag.Mark.{Mark}
use Rattle.mrt_graph.specs.declared.gadag.Place.{Place}
use Rattle.mrt_graph.specs.declared.tree.TreeNode.{TreeNode}
use Rattle.mrt_graph.specs.GadagLists.{GadagLists}
use Rattle.mrt_graph.specs.GadagFields.{block_at, head_at, role_at}
use Rattle.mrt_graph.specs.GraphInvariant.{IsTopology}
use Rattle.mrt_graph.specs.Topology.{Topology}
use Rattle.mrt_graph.specs.TreeFields.{low_of, search_number}
use Rattle.lowpoint_dfs.specs.Subtree.{parent_of}
use Rattle.gadag_ears.specs.BlockLinks.{IsOfClosingLink, IsOfSoleLink}
use Rattle.gadag_ears.specs.Counted.{IsCounted}
use Rattle.gadag_ears.specs.HeadAndBlock.{HasPlace}
use Rattle.gadag_ears.specs.LinkMarks.{LiesInBlock}
use Rattle.gadag_ears.specs.Members.{ClosesBlock, GoesOnFrom, HasLinkInto}
use Rattle.gadag_ears.proofs.CommonBlocks.{placed_by_low, root_alone}
use Rattle.gadag_ears.proofs.DirectedLinks.{counted_forward}
use Rattle.gadag_ears.proofs.Ended.{each_listed}
use Rattle.gadag_ears.proofs.FromSearch.{facts_of}
use Rattle.gadag_ears.proofs.HeadsByLowpoints.{IsPlacedByLow}
use Rattle.gadag_ears.proofs.MemberLinks.{closing_link, goes_on_from, link_into, none_into_root}
use Rattle.gadag_ears.proofs.SearchFacts.{AreFacts}
use Rattle.gadag_ears.proofs.SoleLinks.{block_links}
use Rattle.link_direction.specs.FromEars.{IsFromEars}

-- the node that names a node's block has its block and its head
pub record IsNamed (g : Topology) (places : List Place) (v : ℕ) : Type 0 where
  pub name : ℕ
  pub name_within : name < length g.ids
  pub head : ℕ
  pub head_within : head < length g.ids
  pub of_name : head_at places name ≡ Some head
  pub of_node : head_at places v ≡ Some head
  pub block : block_at places v ≡ Some name

-- the facts
pub record AreGadagFacts (g : Topology) (root : ℕ) (gadag : GadagLists) : Type 0 where
  pub kept : IsTopology g
  pub root_within : root < length g.ids
  pub one_place_each : length gadag.places ≡ length g.ids
  pub one_mark_each : length gadag.marks ≡ length g.links
  pub listed : (v : ℕ) → v < length g.ids → Contains gadag.order v
  pub forward : (e u v k l : ℕ) → IsCounted g gadag.marks e u v → slice_get gadag.order k ≡ Some u → slice_get gadag.order l ≡ Some v → k < l
  pub into : (v : ℕ) → v < length g.ids → v ≢ root → HasLinkInto g gadag v
  pub none_into_root : (e u : ℕ) → IsCounted g gadag.marks e u root → ⊥
  pub goes_on : (v : ℕ) → v < length g.ids → v ≢ root → GoesOnFrom g gadag v
  pub closing : (e : ℕ) → role_at gadag.marks e ≡ Some Closing → (v : ℕ) × ClosesBlock g gadag e v
  pub links : (v k : ℕ) → v < length g.ids → v ≢ root → block_at gadag.places v ≡ Some k
      → IsOfSoleLink gadag.places gadag.marks k ⊎ IsOfClosingLink gadag.marks k
  pub lies : (e : ℕ) → e < length g.links → LiesInBlock g gadag.places gadag.marks e
  pub of_root : HasPlace gadag.places root root root
  pub alone : (v : ℕ) → v < length g.ids → block_at gadag.places v ≡ Some root → v ≡ root
  pub named : (v : ℕ) → v < length g.ids → v ≢ root → IsNamed g gadag.places v

named : (left : ℕ) (g : Topology) (root : ℕ) (tree : List TreeNode) (places : List Place) (v : ℕ) → AreFacts g root tree
    → ((v p : ℕ) → v < length g.ids → parent_of g tree v ≡ Some p → IsPlacedByLow g tree places v p)
    → v < length g.ids → v ≢ root → search_number tree v ≤ left → IsNamed g places v
named zero g root tree places v facts by_low within other few =
    let has = facts.parent v within other in absurd (omega (arith, has.lower, few))
named (suc left) g root tree places v facts by_low within other few =
    let has = facts.parent v within other in
    let place = by_low v has.parent within has.is in
    let p_within = (facts.parent_within v has.parent has.is).1 in
    elim (cases_lt (low_of tree v) (search_number tree has.parent)) [
      | inr high ↦ record {
        name = v;
        name_within = within;
        head = has.parent;
        head_within = p_within;
        of_name = (place.heads high).0;
        of_node = (place.heads high).0;
        block = (place.heads high).1;
      }
      | inl low ↦
          let further : has.parent ≢ root = λ same. omega (arith, low, facts.low_from_one v within, facts.root_first, ap (λ (w : ℕ). search_number tree w) same) in
          let rest = named left g root tree places has.parent facts by_low p_within further (omega (arith, has.lower, few)) in
          record {
            name = rest.name;
            name_within = rest.name_within;
            head = rest.head;
            head_within = rest.head_within;
            of_name = rest.of_name;
            of_node = (place.joins low).0 ∙ rest.of_node;
            block = (place.joins low).1 ∙ rest.block;
          }
    ]

pub gadag_facts : (g : Topology) (root : ℕ) (gadag : GadagLists) → IsTopology g → root < length g.ids → IsFromEars g root gadag → AreGadagFacts g root gadag
gadag_facts g root gadag kept within from =
    let it = from.is_gadag in
    let facts = facts_of g root from.tree (record { kept = kept; within = within; search = from.search }) in
    let by_low = placed_by_low g root from.tree gadag.order it.ears gadag.places facts it.are_ears it.places in
    record {
      kept = kept;
      root_within = within;
      one_place_each = it.one_place_each;
      one_mark_each = it.marks.one_each;
      listed = each_listed g root from.tree gadag.order it.ears facts it.are_ears;
      forward = counted_forward g root from.tree gadag facts it;
      into = link_into g root from.tree gadag facts it;
      none_into_root = none_into_root g root from.tree gadag facts it;
      goes_on = goes_on_from g root from.tree gadag facts it;
      closing = closing_link g root from.tree gadag facts it;
      links = block_links g root from.tree gadag facts it;
      lies = it.marks.blocks;
      of_root = it.places.of_root;
      alone = λ v v_within is. root_alone g root from.tree gadag.places v facts by_low v_within is;
      named = λ v v_within other. named (search_number from.tree v) g root from.tree gadag.places v facts by_low v_within other (omega arith);
    }

-- no counted link enters the root
pub root_not_entered : (g : Topology) (root : ℕ) (gadag : GadagLists) (marks : List Mark) → IsTopology g → root < length g.ids
    → IsFromEars g root gadag → gadag.marks ≡ marks → (e u : ℕ) → IsCounted g marks e u root → ⊥
root_not_entered g root gadag marks kept within from same e u counted =
    (gadag_facts g root gadag kept within from).none_into_root e u (subst (λ (ms : List Mark). IsCounted g ms e u root) (sym same) counted)

-- nodes of one block have one head
pub one_head : (g : Topology) (root : ℕ) (gadag : GadagLists) (u v k h : ℕ) → AreGadagFacts g root gadag → u < length g.ids → v < length g.ids
    → block_at gadag.places u ≡ Some k → block_at gadag.places v ≡ Some k → head_at gadag.places u ≡ Some h → head_at gadag.places v ≡ Some h
one_head g root gadag u v k h facts u_within v_within of_u of_v head = elim (cases_eq u root) [
  | inl same ↦
      let roots : k ≡ root = same_Some k root (sym of_u ∙ ap (λ (w : ℕ). block_at gadag.places w) same ∙ facts.of_root.1) in
      let v_root : v ≡ root = facts.alone v v_within (of_v ∙ ap (λ (w : ℕ). Some w) roots) in
      ap (λ (w : ℕ). head_at gadag.places w) (v_root ∙ sym same) ∙ head
  | inr other ↦ elim (cases_eq v root) [
    | inl same ↦
        let roots : k ≡ root = same_Some k root (sym of_v ∙ ap (λ (w : ℕ). block_at gadag.places w) same ∙ facts.of_root.1) in
        absurd (other (facts.alone u u_within (of_u ∙ ap (λ (w : ℕ). Some w) roots)))
    | inr differs ↦
        let of_first = facts.named u u_within other in
        let of_second = facts.named v v_within differs in
        let name : of_first.name ≡ of_second.name = same_Some of_first.name of_second.name (sym of_first.block ∙ of_u ∙ sym of_v ∙ of_second.block) in
        of_second.of_node ∙ sym of_second.of_name ∙ ap (λ (w : ℕ). head_at gadag.places w) (sym name) ∙ of_first.of_name ∙ sym of_first.of_node ∙ head
  ]
]
