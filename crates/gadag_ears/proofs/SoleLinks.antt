-- A block with a sole link has no other link and no other node.
use Rattle.std.proofs.Common.{◌≡◌, ◌≢◌, ◌⊎◌, ◌<◌, ◌≤◌, ◌∙◌, ℕ, zero, suc, List, Option, Some, None, length, slice_get, inl, inr, refl, sym, ap, subst, arith}
use Rattle.std.specs.Option.{option_and_then, option_map}
use Rattle.std.specs.Prelude.{Contains}
use Rattle.std.proofs.lemmas.Bool.{cases_eq, cases_lt}
use Rattle.std.proofs.lemmas.Option.{same_Some, slice_get_within}
use Rattle.mrt_graph.specs.declared.gadag.Place.{Place}
use Rattle.mrt_graph.specs.declared.link.End.{End}
use Rattle.mrt_graph.specs.declared.tree.TreeNode.{TreeNode}
use Rattle.mrt_graph.specs.FirstEnd.{IsFirstEnd}
use Rattle.mrt_graph.specs.GadagLists.{GadagLists}
use Rattle.mrt_graph.specs.GadagFields.{block_at, head_at, link_block_at}
use Rattle.mrt_graph.specs.Leads.{leads}
use Rattle.mrt_graph.specs.Topology.{Topology}
use Rattle.mrt_graph.specs.TreeFields.{low_link, low_of, search_number, parent_link}
use Rattle.mrt_graph.proofs.Hops.{lead_back}
use Rattle.mrt_graph.proofs.ListTests.{there}
use Rattle.lowpoint_dfs.specs.Subtree.{HasParent, Itself, parent_of}
use Rattle.gadag_ears.specs.declared.kind.EarKind.{EarKind}
use Rattle.gadag_ears.specs.declared.kind.EarKind.TheVariants.{Child}
use Rattle.gadag_ears.specs.BlockLinks.{IsOfClosingLink, IsOfSoleLink}
use Rattle.gadag_ears.specs.CommonBlock.{FirstIsHead, IsCommonBlock, OfBoth, SecondIsHead}
use Rattle.gadag_ears.specs.Ear.{Ear, IsBegun, ToChild, ToNeighbour, last_node, onward_link}
use Rattle.gadag_ears.specs.Gadag.{IsGadag}
use Rattle.gadag_ears.specs.HeadAndBlock.{BeginsBlock}
use Rattle.gadag_ears.specs.LinkMarks.{IsLastOfBlock, IsOfOneLink}
use Rattle.gadag_ears.proofs.BlockLinks.{IsKnown, begun_block, block_there}
use Rattle.gadag_ears.proofs.CommonBlocks.{leads_elsewhere, one_common_block, placed_by_low}
use Rattle.gadag_ears.proofs.DirectedLinks.{one_new}
use Rattle.gadag_ears.proofs.HeadsByLowpoints.{IsPlacedByLow}
use Rattle.gadag_ears.proofs.LinkBlocks.{leads_over}
use Rattle.gadag_ears.proofs.MarkedAlong.{link_there}
use Rattle.gadag_ears.proofs.MarksGrown.{is_link_or_not}
use Rattle.gadag_ears.proofs.SearchFacts.{AreFacts}
use Rattle.mrt_graph.proofs.Members.{contains_first}

-- the link over which a child ear begins is its first node's parent link
begun_by_parent : (g : Topology) (root : ℕ) (tree : List TreeNode) (listed : List ℕ) (x : ℕ) (end : End) (kind : EarKind) → AreFacts g root tree
    → IsBegun g tree listed x end kind → kind ≡ Child → parent_link tree end.to ≡ Some end.link
begun_by_parent g root tree listed x end kind facts (ToNeighbour children first) is = cc
begun_by_parent g root tree listed x end kind facts (ToChild first) is =
    let within = (facts.parent_within end.to x first.asked.1).0 in
    let not_root : end.to ≢ root = λ same. facts.no_parent x (subst (λ (w : ℕ). parent_of g tree w ≡ Some x) same first.asked.1) in
    let has : HasParent g tree end.to = facts.parent end.to within not_root in
    let at_x : has.parent ≡ x = same_Some has.parent x (sym has.is ∙ first.asked.1) in
    let by_node : IsFirstEnd g (λ other. other.to ≡ end.to) x has.end = subst (λ (w : ℕ). IsFirstEnd g (λ other. other.to ≡ end.to) w has.end) at_x has.first in
    has.over ∙ ap (λ (other : End). Some other.link) (one_end by_node)
  where
    one_end : {other : End} → IsFirstEnd g (λ other. other.to ≡ end.to) x other → other ≡ end
    one_end {other} by_node =
        let lists : by_node.ends ≡ first.ends = same_Some by_node.ends first.ends (sym by_node.list ∙ first.list) in
        let there : slice_get first.ends by_node.place ≡ Some other = subst (λ (xs : List End). slice_get xs by_node.place ≡ Some other) lists by_node.there in
        elim (cases_lt by_node.place first.place) [
          | inl before ↦ absurd (first.none_before by_node.place other before there (
            (λ c. first.asked.0 (subst (λ (w : ℕ). Contains listed w) by_node.asked c)),
            ap (λ (w : ℕ). parent_of g tree w) by_node.asked ∙ first.asked.1,
          ))
          | inr late ↦ elim (cases_lt first.place by_node.place) [
            | inl before ↦ absurd (by_node.none_before first.place end before
                (subst (λ (xs : List End). slice_get xs first.place ≡ Some end) (sym lists) first.there) refl)
            | inr early ↦
                let place : by_node.place ≡ first.place = omega (arith, late, early) in
                same_Some other end (sym there ∙ ap (λ (k : ℕ). slice_get first.ends k) place ∙ first.there)
          ]
        ]

-- the ear of one link goes over the parent link of its one new node, whose lowpoint is its own number
pub record IsLoneEar (g : Topology) (tree : List TreeNode) (ear : Ear) : Type 0 where
  pub over : parent_link tree ear.first ≡ Some ear.link
  pub child : parent_of g tree ear.first ≡ Some ear.start
  pub own : low_of tree ear.first ≡ search_number tree ear.first

pub lone_ear : (g : Topology) (root : ℕ) (tree : List TreeNode) (ear : Ear) → AreFacts g root tree → IsKnown g root tree ear → IsOfOneLink tree ear → IsLoneEar g tree ear
lone_ear g root tree ear facts it one =
    let over : parent_link tree ear.first ≡ Some ear.link =
    ap (λ (w : ℕ). parent_link tree w) it.way.next.to ∙ begun_by_parent g root tree it.listed it.x it.way.next.end ear.kind facts it.way.next.begun one.begins.0
    ∙ ap (λ (e : ℕ). Some e) (sym it.way.next.over) in
    let child : parent_of g tree ear.first ≡ Some ear.start =
    ap (λ o. option_and_then (λ e. leads g.links e ear.first) o) over ∙ lead_back g.links ear.link ear.start ear.first it.way.brings.touches in
    let within = (facts.parent_within ear.first ear.start child).0 in
    let last : last_node ear.first ear.others ≡ ear.first = ap (λ us. last_node ear.first us) (one_new g root tree ear it one) in
    let back : low_link tree ear.first ≡ Some ear.link =
    subst (λ (kind : EarKind). onward_link kind tree ear.first ≡ Some ear.link) one.begins.0
    (ap (λ (w : ℕ). onward_link ear.kind tree w) (sym last) ∙ one.last) in
    record {
      over = over;
      child = child;
      own = elim (cases_lt (low_of tree ear.first) (search_number tree ear.first)) [
        | inl lower ↦ absurd (facts.low_free ear.first ear.link within lower back over)
        | inr high ↦ omega (arith, high, facts.own ear.first within)
      ];
    }

-- a node whose lowpoint is its own number is alone in the block that it names
lone_node : (left : ℕ) (g : Topology) (root : ℕ) (tree : List TreeNode) (places : List Place) (v p u : ℕ) → AreFacts g root tree
    → ((v p : ℕ) → v < length g.ids → parent_of g tree v ≡ Some p → IsPlacedByLow g tree places v p) → block_at places root ≡ Some root
    → parent_of g tree v ≡ Some p → low_of tree v ≡ search_number tree v → u < length g.ids → search_number tree u ≤ left → block_at places u ≡ Some v → u ≡ v
lone_node zero g root tree places v p u facts by_low of_root child own within few block =
    absurd (omega (arith, few, facts.own u within, facts.low_from_one u within))
lone_node (suc left) g root tree places v p u facts by_low of_root child own within few block = elim (cases_eq u root) [
  | inl same ↦
      let v_root : root ≡ v = same_Some root v (sym of_root ∙ ap (λ (w : ℕ). block_at places w) (sym same) ∙ block) in
      absurd (facts.no_parent p (subst (λ (w : ℕ). parent_of g tree w ≡ Some p) (sym v_root) child))
  | inr other ↦
      let has : HasParent g tree u = facts.parent u within other in
      let place = by_low u has.parent within has.is in
      elim (cases_lt (low_of tree u) (search_number tree has.parent)) [
        | inr high ↦ same_Some u v (sym (place.heads high).1 ∙ block)
        | inl low ↦
            let up : has.parent ≡ v = lone_node left g root tree places v p has.parent facts by_low of_root child own
            (facts.parent_within u has.parent has.is).1 (omega (arith, has.lower, few)) (sym (place.joins low).1 ∙ block) in
            absurd (omega (
              arith,
              low,
              own,
              facts.by_child u has.parent has.is,
              ap (λ (w : ℕ). search_number tree w) up,
              ap (λ (w : ℕ). low_of tree w) up,
            ))
      ]
]

-- its parent link is its one link to its parent
lone_link : (g : Topology) (root : ℕ) (tree : List TreeNode) (ear : Ear) (e : ℕ) → AreFacts g root tree → IsLoneEar g tree ear
    → leads g.links e ear.first ≡ Some ear.start → e ≡ ear.link
lone_link g root tree ear e facts lone to = elim (is_link_or_not (parent_link tree ear.first) e) [
  | inl over ↦ same_Some e ear.link (sym over ∙ lone.over)
  | inr other ↦ absurd (omega (
    arith,
    lone.own,
    facts.falls ear.first ear.start lone.child,
    facts.by_link ear.first ear.first e ear.start (facts.parent_within ear.first ear.start lone.child).0 Itself other to,
  ))
]

-- the links of its block
lone_in_block : (g : Topology) (root : ℕ) (tree : List TreeNode) (gadag : GadagLists) → AreFacts g root tree → (it : IsGadag g root tree gadag)
    → (ear : Ear) → Contains it.ears ear → IsOfOneLink tree ear → IsLoneEar g tree ear
    → ((u : ℕ) → u < length g.ids → block_at gadag.places u ≡ Some ear.first → u ≡ ear.first)
    → (e u v : ℕ) → leads g.links e u ≡ Some v → IsCommonBlock gadag.places u v ear.first → e ≡ ear.link
lone_in_block g root tree gadag facts it ear among one lone alone e u v to common = go common
  where
    place : head_at gadag.places ear.first ≡ Some ear.start
    place = (it.places.of_block ear ear.first among (contains_first ear.first ear.others) one.begins).0

    go : IsCommonBlock gadag.places u v ear.first → e ≡ ear.link
    go (OfBoth first second) = absurd (leads_elsewhere g e u v facts.kept to
        (alone u (facts.leads_within e u v to).0 first ∙ sym (alone v (facts.leads_within e u v to).1 second)))
    go (FirstIsHead block head) =
        let v_is = alone v (facts.leads_within e u v to).1 block in
        let u_is : u ≡ ear.start = same_Some u ear.start (sym head ∙ ap (λ (w : ℕ). head_at gadag.places w) v_is ∙ place) in
        lone_link g root tree ear e facts lone (ap (λ (w : ℕ). leads g.links e w) (sym v_is) ∙ lead_back g.links e u v to ∙ ap (λ (w : ℕ). Some w) u_is)
    go (SecondIsHead block head) =
        let u_is = alone u (facts.leads_within e u v to).0 block in
        let v_is : v ≡ ear.start = same_Some v ear.start (sym head ∙ ap (λ (w : ℕ). head_at gadag.places w) u_is ∙ place) in
        lone_link g root tree ear e facts lone (ap (λ (w : ℕ). leads g.links e w) (sym u_is) ∙ to ∙ ap (λ (w : ℕ). Some w) v_is)

-- a node that has a block is there
place_there : (places : List Place) (v k : ℕ) → block_at places v ≡ Some k → v < length places
place_there places v k is = go (slice_get places v) refl is
  where
    go : (o : Option Place) → slice_get places v ≡ o → option_map (λ place. place.block) o ≡ Some k → v < length places
    go None found is = cc
    go (Some place) found is = slice_get_within places v place found

pub one_link_block : (g : Topology) (root : ℕ) (tree : List TreeNode) (gadag : GadagLists) → AreFacts g root tree → (it : IsGadag g root tree gadag)
    → (ear : Ear) → Contains it.ears ear → IsKnown g root tree ear → IsOfOneLink tree ear → link_block_at gadag.marks ear.link ≡ Some ear.first
    → IsOfSoleLink gadag.places gadag.marks ear.first
one_link_block g root tree gadag facts it ear among way one in_block =
    let by_low = placed_by_low g root tree gadag.order it.ears gadag.places facts it.are_ears it.places in
    let lone = lone_ear g root tree ear facts way one in
    let alone : (u : ℕ) → u < length g.ids → block_at gadag.places u ≡ Some ear.first → u ≡ ear.first = λ u within block.
    lone_node (search_number tree u) g root tree gadag.places ear.first ear.start u facts by_low it.places.of_root.1 lone.child lone.own within (omega arith) block in
    record {
      link = ear.link;
      in_block = in_block;
      sole = it.marks.roles.sole ear among one;
      no_other_link = λ e of.
          let within : e < length g.links = omega (arith, block_there gadag.marks e ear.first of, it.marks.one_each) in
          let link = there g.links e within in
          let lies = it.marks.blocks e within in
          let to = leads_over g e link.0 link.1 in
          lone_in_block g root tree gadag facts it ear among one lone alone e link.0.a link.0.b to
          (subst (λ (k : ℕ). IsCommonBlock gadag.places link.0.a link.0.b k) (same_Some lies.block ear.first (sym lies.is ∙ of)) (lies.common link.0.a link.0.b to));
      no_other_node = λ u block. alone u (omega (arith, place_there gadag.places u ear.first block, it.one_place_each)) block;
    }

-- the first link of an ear that begins a block lies in the block
pub first_in_block : (g : Topology) (root : ℕ) (tree : List TreeNode) (gadag : GadagLists) → AreFacts g root tree → (it : IsGadag g root tree gadag)
    → (ear : Ear) → Contains it.ears ear → BeginsBlock ear → IsKnown g root tree ear → link_block_at gadag.marks ear.link ≡ Some ear.first
first_in_block g root tree gadag facts it ear among begins way =
    let to = way.way.brings.touches in
    let lies = it.marks.blocks ear.link (link_there g ear.link ear.start ear.first to).within in
    let has = it.places.of_block ear ear.first among (contains_first ear.first ear.others) begins in
    let both = facts.leads_within ear.link ear.start ear.first to in
    lies.is ∙ ap (λ (w : ℕ). Some w) (one_common_block g root tree gadag.places ear.start ear.first lies.block ear.first facts
    (placed_by_low g root tree gadag.order it.ears gadag.places facts it.are_ears it.places) it.places.of_root.0 both.0 both.1
    (leads_elsewhere g ear.link ear.start ear.first facts.kept to) (lies.common ear.start ear.first to) (FirstIsHead has.1 has.0))

-- the links of a block
pub block_links : (g : Topology) (root : ℕ) (tree : List TreeNode) (gadag : GadagLists) → AreFacts g root tree → IsGadag g root tree gadag
    → (v k : ℕ) → v < length g.ids → v ≢ root → block_at gadag.places v ≡ Some k → IsOfSoleLink gadag.places gadag.marks k ⊎ IsOfClosingLink gadag.marks k
block_links g root tree gadag facts it v k within other block =
    let begun = begun_block g root tree gadag facts it v k within other block in
    let first = first_in_block g root tree gadag facts it begun.ear begun.among begun.begins begun.way in
    elim (cases_eq begun.last.link begun.ear.link) [
      | inl same ↦ inl (subst (λ (n : ℕ). IsOfSoleLink gadag.places gadag.marks n) begun.names
          (one_link_block g root tree gadag facts it begun.ear begun.among begun.way (subst (λ (e : ℕ). IsLastOfBlock tree begun.ear e) same begun.last.last) first))
      | inr differs ↦ inr (record {
        link = begun.last.link;
        in_block = begun.last.block ∙ ap (λ (w : ℕ). Some w) begun.names;
        closing = it.marks.roles.closing begun.ear begun.last.link begun.among begun.last.last differs;
        others_plain = λ e of not_last. elim (begun.others e of) [ inl same ↦ absurd (not_last same) | inr plain ↦ plain ];
        another = begun.ear.link;
        another_in_block = first ∙ ap (λ (w : ℕ). Some w) begun.names;
        another_link = λ same. differs (sym same);
      })
    ]
