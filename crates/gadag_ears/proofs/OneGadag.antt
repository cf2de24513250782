-- A graph with its search tree has one GADAG.
use Rattle.std.proofs.Common.{◌≡◌, ◌≢◌, ◌<◌, ◌≤◌, ◌∙◌, ℕ, zero, suc, List, [], ◌∷◌, Some, length, slice_get, inl, inr, refl, sym, ap, subst, arith}
use Rattle.std.proofs.lemmas.Bool.{cases_eq, cases_lt}
use Rattle.std.proofs.lemmas.Option.{same_Some}
use Rattle.mrt_graph.specs.declared.cert.Role.{Role}
use Rattle.mrt_graph.specs.declared.cert.Role.TheVariants.{Closing, Plain, Sole}
use Rattle.mrt_graph.specs.declared.gadag.Mark.{Mark}
use Rattle.mrt_graph.specs.declared.gadag.Place.{Place}
use Rattle.mrt_graph.specs.declared.gadag.Way.{Way}
use Rattle.mrt_graph.specs.declared.gadag.Way.TheVariants.{AToB, BToA, Unset}
use Rattle.mrt_graph.specs.declared.link.Link.{Link}
use Rattle.mrt_graph.specs.declared.tree.TreeNode.{TreeNode}
use Rattle.mrt_graph.specs.GadagLists.{GadagLists, gadag_of}
use Rattle.mrt_graph.specs.GadagFields.{block_at, head_at, link_block_at, role_at, way_at}
use Rattle.mrt_graph.specs.Tails.{tail_at, tail_of}
use Rattle.mrt_graph.specs.Topology.{Topology}
use Rattle.mrt_graph.specs.TreeFields.{low_of, search_number}
use Rattle.mrt_graph.proofs.ListTests.{there}
use Rattle.lowpoint_dfs.specs.Subtree.{HasParent}
use Rattle.gadag_ears.specs.Ear.{Ear}
use Rattle.gadag_ears.specs.Gadag.{IsGadag}
use Rattle.gadag_ears.specs.HeadAndBlock.{HasPlace}
use Rattle.gadag_ears.specs.LinkMarks.{AreMarks, IsLastOfBlock, IsOfOneLink}
use Rattle.gadag_ears.proofs.BlockLinks.{last_or_not}
use Rattle.gadag_ears.proofs.CommonBlocks.{leads_elsewhere, one_common_block, placed_by_low}
use Rattle.gadag_ears.proofs.DirectedLinks.{ear_known, of_one_or_not, on_some_or_none, one_link}
use Rattle.gadag_ears.proofs.LinkBlocks.{leads_over}
use Rattle.gadag_ears.proofs.OneEarOrder.{one_ear_order}
use Rattle.gadag_ears.proofs.SearchFacts.{AreFacts}

same_elements : {X : Type 0} (xs ys : List X) → length xs ≡ length ys → ((k : ℕ) → k < length xs → slice_get xs k ≡ slice_get ys k) → xs ≡ ys
same_elements [] [] same each = refl
same_elements [] (y ∷ ys) same each = absurd (omega (arith, same))
same_elements (x ∷ xs) [] same each = absurd (omega (arith, same))
same_elements (x ∷ xs) (y ∷ ys) same each =
    ap (λ z. z ∷ xs) (same_Some x y (each 0 (omega arith)))
    ∙ ap (λ zs. y ∷ zs) (same_elements xs ys (omega (arith, same)) (λ k inside. each (suc k) (omega (arith, inside))))

-- the place of a node
record IsSamePlace (places others : List Place) (v : ℕ) : Type 0 where
  pub head : head_at places v ≡ head_at others v
  pub block : block_at places v ≡ block_at others v

both_have : (places others : List Place) (v h b : ℕ) → HasPlace places v h b → HasPlace others v h b → IsSamePlace places others v
both_have places others v h b one two = record { head = one.0 ∙ sym two.0; block = one.1 ∙ sym two.1 }

same_place : (left : ℕ) (g : Topology) (root : ℕ) (tree : List TreeNode) (gadag other : GadagLists) → AreFacts g root tree → IsGadag g root tree gadag
    → IsGadag g root tree other → (v : ℕ) → v < length g.ids → search_number tree v ≤ left → IsSamePlace gadag.places other.places v
same_place zero g root tree gadag other facts one two v within few = absurd (omega (arith, few, facts.own v within, facts.low_from_one v within))
same_place (suc left) g root tree gadag other facts one two v within few = elim (cases_eq v root) [
  | inl same ↦ subst (λ (w : ℕ). IsSamePlace gadag.places other.places w) (sym same) (both_have gadag.places other.places root root root one.places.of_root two.places.of_root)
  | inr away ↦
      let has : HasParent g tree v = facts.parent v within away in
      let place = placed_by_low g root tree gadag.order one.ears gadag.places facts one.are_ears one.places v has.parent within has.is in
      let place' = placed_by_low g root tree other.order two.ears other.places facts two.are_ears two.places v has.parent within has.is in
      elim (cases_lt (low_of tree v) (search_number tree has.parent)) [
        | inr high ↦ both_have gadag.places other.places v has.parent v (place.heads high) (place'.heads high)
        | inl low ↦
            let up = same_place left g root tree gadag other facts one two has.parent (facts.parent_within v has.parent has.is).1 (omega (arith, has.lower, few)) in
            record {
              head = (place.joins low).0 ∙ up.head ∙ sym (place'.joins low).0;
              block = (place.joins low).1 ∙ up.block ∙ sym (place'.joins low).1;
            }
      ]
]

abbrev place_of_parts : ℕ → ℕ → Place
place_of_parts head block = record { head = head; block = block }

same_entry : (places others : List Place) (v : ℕ) (x y : Place) → slice_get places v ≡ Some x → slice_get others v ≡ Some y → IsSamePlace places others v
    → slice_get places v ≡ slice_get others v
same_entry places others v x y at_x at_y same =
    let heads : Some x.head ≡ Some y.head = rw (at_x, at_y) at same.head in
    let blocks : Some x.block ≡ Some y.block = rw (at_x, at_y) at same.block in
    at_x ∙ ap (λ (h : ℕ). Some (place_of_parts h x.block)) (same_Some x.head y.head heads)
    ∙ ap (λ (b : ℕ). Some (place_of_parts y.head b)) (same_Some x.block y.block blocks) ∙ sym at_y

pub same_places : (g : Topology) (root : ℕ) (tree : List TreeNode) (gadag other : GadagLists) → AreFacts g root tree → IsGadag g root tree gadag
    → IsGadag g root tree other → gadag.places ≡ other.places
same_places g root tree gadag other facts one two =
    same_elements gadag.places other.places (omega (arith, one.one_place_each, two.one_place_each)) (λ v inside.
    let within : v < length g.ids = omega (arith, inside, one.one_place_each) in
    let x = there gadag.places v inside in
    let y = there other.places v (omega (arith, within, two.one_place_each)) in
    same_entry gadag.places other.places v x.0 y.0 x.1 y.1 (same_place (search_number tree v) g root tree gadag other facts one two v within (omega arith)))

-- the direction of a link with this tail
same_way : (link : Link) (u : ℕ) (way other : Way) → link.a ≢ link.b → tail_of link way ≡ Some u → tail_of link other ≡ Some u → way ≡ other
same_way link u Unset other differ one two = cc
same_way link u AToB Unset differ one two = cc
same_way link u AToB AToB differ one two = refl
same_way link u AToB BToA differ one two = absurd (differ (same_Some link.a link.b (one ∙ sym two)))
same_way link u BToA Unset differ one two = cc
same_way link u BToA AToB differ one two = absurd (differ (same_Some link.a link.b (two ∙ sym one)))
same_way link u BToA BToA differ one two = refl

ways_of_tail : (g : Topology) (marks others : List Mark) (e u : ℕ) (link : Link) (x y : Mark) → slice_get g.links e ≡ Some link → link.a ≢ link.b
    → slice_get marks e ≡ Some x → slice_get others e ≡ Some y → tail_at g.links marks e ≡ Some u → tail_at g.links others e ≡ Some u → x.way ≡ y.way
ways_of_tail g marks others e u link x y is differ at_x at_y one two =
    let first : tail_of link x.way ≡ Some u = rw (is, at_x) at one in
    let second : tail_of link y.way ≡ Some u = rw (is, at_y) at two in
    same_way link u x.way y.way differ first second

ways_are : (marks others : List Mark) (e : ℕ) (way : Way) (x y : Mark) → slice_get marks e ≡ Some x → slice_get others e ≡ Some y → way_at marks e ≡ Some way
    → way_at others e ≡ Some way → x.way ≡ y.way
ways_are marks others e way x y at_x at_y one two =
    let first : Some x.way ≡ Some way = rw at_x at one in
    let second : Some y.way ≡ Some way = rw at_y at two in
    same_Some x.way y.way (first ∙ sym second)

roles_are : (marks others : List Mark) (e : ℕ) (role : Role) (x y : Mark) → slice_get marks e ≡ Some x → slice_get others e ≡ Some y → role_at marks e ≡ Some role
    → role_at others e ≡ Some role → x.role ≡ y.role
roles_are marks others e role x y at_x at_y one two =
    let first : Some x.role ≡ Some role = rw at_x at one in
    let second : Some y.role ≡ Some role = rw at_y at two in
    same_Some x.role y.role (first ∙ sym second)

blocks_are : (marks others : List Mark) (e k l : ℕ) (x y : Mark) → slice_get marks e ≡ Some x → slice_get others e ≡ Some y → link_block_at marks e ≡ Some k
    → link_block_at others e ≡ Some l → k ≡ l → x.block ≡ y.block
blocks_are marks others e k l x y at_x at_y one two same =
    let first : Some x.block ≡ Some k = rw at_x at one in
    let second : Some y.block ≡ Some l = rw at_y at two in
    same_Some x.block y.block (first ∙ ap (λ (n : ℕ). Some n) same ∙ sym second)

abbrev mark_of : Way → Role → ℕ → Mark
mark_of way role block = record { way = way; role = role; block = block }

same_mark : (x y : Mark) → x.way ≡ y.way → x.role ≡ y.role → x.block ≡ y.block → x ≡ y
same_mark x y way role block =
    ap (λ (w : Way). mark_of w x.role x.block) way ∙ ap (λ (r : Role). mark_of y.way r x.block) role ∙ ap (λ (b : ℕ). mark_of y.way y.role b) block

-- the mark of a link
mark_alike : (g : Topology) (root : ℕ) (tree : List TreeNode) (gadag : GadagLists) (others : List Mark) → AreFacts g root tree
    → (it : IsGadag g root tree gadag) → AreMarks g tree it.ears gadag.places others → (e : ℕ) → e < length g.links
    → (x y : Mark) → slice_get gadag.marks e ≡ Some x → slice_get others e ≡ Some y → x ≡ y
mark_alike g root tree gadag others facts it two e within x y at_x at_y =
    let link = there g.links e within in
    same_mark x y (way link.0 link.1) role (block link.0 link.1)
  where
    way : (link : Link) → slice_get g.links e ≡ Some link → x.way ≡ y.way
    way link is = elim (on_some_or_none tree it.ears e) [
      | inr none ↦ ways_are gadag.marks others e Unset x y at_x at_y (it.marks.directed.others e within none) (two.directed.others e within none)
      | inl on ↦
          let differ = leads_elsewhere g e link.a link.b facts.kept (leads_over g e link is) in
          elim (of_one_or_not tree on.ear) [
            | inr more ↦ ways_of_tail g gadag.marks others e on.node link x y is differ at_x at_y
                (it.marks.directed.onward on.ear on.node e on.among more on.on) (two.directed.onward on.ear on.node e on.among more on.on)
            | inl lone ↦
                let same = one_link g root tree on.ear on.node e (ear_known g root tree gadag facts it on.ear on.among) lone on.on in
                ways_of_tail g gadag.marks others e on.ear.start link x y is differ at_x at_y
                (ap (λ (d : ℕ). tail_at g.links gadag.marks d) same ∙ it.marks.directed.out on.ear on.among)
                (ap (λ (d : ℕ). tail_at g.links others d) same ∙ two.directed.out on.ear on.among)
          ]
    ]

    role : x.role ≡ y.role
    role = elim (last_or_not tree it.ears e) [
      | inr none ↦ roles_are gadag.marks others e Plain x y at_x at_y (it.marks.roles.others e within none) (two.roles.others e within none)
      | inl some ↦ elim (cases_eq e some.ear.link) [
        | inr differs ↦ roles_are gadag.marks others e Closing x y at_x at_y
            (it.marks.roles.closing some.ear e some.among some.last differs) (two.roles.closing some.ear e some.among some.last differs)
        | inl same ↦
            let one : IsOfOneLink tree some.ear = subst (λ (l : ℕ). IsLastOfBlock tree some.ear l) same some.last in
            roles_are gadag.marks others e Sole x y at_x at_y
            (ap (λ (d : ℕ). role_at gadag.marks d) same ∙ it.marks.roles.sole some.ear some.among one)
            (ap (λ (d : ℕ). role_at others d) same ∙ two.roles.sole some.ear some.among one)
      ]
    ]

    block : (link : Link) → slice_get g.links e ≡ Some link → x.block ≡ y.block
    block link is =
        let to = leads_over g e link is in
        let mine = it.marks.blocks e within in
        let its = two.blocks e within in
        let both = facts.leads_within e link.a link.b to in
        blocks_are gadag.marks others e mine.block its.block x y at_x at_y mine.is its.is
        (one_common_block g root tree gadag.places link.a link.b mine.block its.block facts
        (placed_by_low g root tree gadag.order it.ears gadag.places facts it.are_ears it.places) it.places.of_root.0 both.0 both.1
        (leads_elsewhere g e link.a link.b facts.kept to) (mine.common link.a link.b to) (its.common link.a link.b to))

same_marks : (g : Topology) (root : ℕ) (tree : List TreeNode) (gadag : GadagLists) (others : List Mark) → AreFacts g root tree
    → (it : IsGadag g root tree gadag) → AreMarks g tree it.ears gadag.places others → gadag.marks ≡ others
same_marks g root tree gadag others facts it two =
    same_elements gadag.marks others (omega (arith, it.marks.one_each, two.one_each)) (λ e inside.
    let within : e < length g.links = omega (arith, inside, it.marks.one_each) in
    let x = there gadag.marks e inside in
    let y = there others e (omega (arith, within, two.one_each)) in
    x.1 ∙ ap (λ (m : Mark). Some m) (mark_alike g root tree gadag others facts it two e within x.0 y.0 x.1 y.1) ∙ sym y.1)

pub one_gadag : (g : Topology) (root : ℕ) (tree : List TreeNode) (gadag other : GadagLists) → AreFacts g root tree → IsGadag g root tree gadag
    → IsGadag g root tree other → gadag ≡ other
one_gadag g root tree gadag other facts one two =
    let both = one_ear_order g root tree gadag.order other.order one.ears two.ears one.are_ears two.are_ears in
    let places = same_places g root tree gadag other facts one two in
    let marks = same_marks g root tree gadag other.marks facts one
    (subst (λ (ears : List Ear). AreMarks g tree ears gadag.places other.marks) (sym both.1)
    (subst (λ (ps : List Place). AreMarks g tree two.ears ps other.marks) (sym places) two.marks)) in
    ap (λ (xs : List ℕ). gadag_of xs gadag.places gadag.marks) both.0 ∙ ap (λ (ps : List Place). gadag_of other.order ps gadag.marks) places
    ∙ ap (λ (ms : List Mark). gadag_of other.order other.places ms) marks
