-- Each search tree has a GADAG: its ear order, the places, and the marks one by one.
use Rattle.std.proofs.Common.{◌≡◌, ◌≢◌, ◌<◌, ◌++◌, ◌∙◌, ℕ, zero, suc, List, [], ◌∷◌, Some, length, set, replicate, slice_get, inl, inr, refl, sym, ap, subst, arith, length-append}
use Rattle.std.specs.Option.{option_and_then, option_map}
use Rattle.std.specs.Prelude.{Contains}
use Rattle.std.proofs.lemmas.Bool.{cases_eq}
use Rattle.std.proofs.lemmas.List.{length-replicate, length-set}
use Rattle.mrt_graph.specs.declared.cert.Role.{Role}
use Rattle.mrt_graph.specs.declared.cert.Role.TheVariants.{Closing, Plain, Sole}
use Rattle.mrt_graph.specs.declared.gadag.Mark.{Mark}
use Rattle.mrt_graph.specs.declared.gadag.Place.{Place}
use Rattle.mrt_graph.specs.declared.gadag.Way.{Way}
use Rattle.mrt_graph.specs.declared.gadag.Way.TheVariants.{Unset}
use Rattle.mrt_graph.specs.declared.tree.TreeNode.{TreeNode}
use Rattle.mrt_graph.specs.GadagLists.{GadagLists, gadag_of}
use Rattle.mrt_graph.specs.Leads.{far_node, leads}
use Rattle.mrt_graph.specs.Tails.{tail_at, tail_of}
use Rattle.mrt_graph.specs.Topology.{Topology}
use Rattle.mrt_graph.proofs.ListPlaces.{pushed_at, set_elsewhere, set_there}
use Rattle.mrt_graph.proofs.ListTests.{there}
use Rattle.mrt_graph.proofs.Members.{contains_cases, contains_first, contains_later, contains_none}
use Rattle.gadag_ears.specs.CommonBlock.{IsCommonBlock}
use Rattle.gadag_ears.specs.Ear.{Ear, last_node, new_nodes}
use Rattle.gadag_ears.specs.EarOrder.{AreEars, Begun, Grown, IsEarOrder, Turned}
use Rattle.gadag_ears.specs.Gadag.{IsGadag}
use Rattle.gadag_ears.specs.HeadAndBlock.{ArePlaces, BeginsBlock}
use Rattle.gadag_ears.specs.LinkMarks.{AreMarks, IsLastOfBlock, IsOfOneLink, IsOnEar, Onward, Out}
use Rattle.gadag_ears.specs.steps.Marking.{way_along}
use Rattle.gadag_ears.proofs.BlockLinks.{IsKnown, known, last_or_not, way_of}
use Rattle.gadag_ears.proofs.CommonBlocks.{common_block, common_of, placed_by_low}
use Rattle.gadag_ears.proofs.DirectedLinks.{of_one_or_not, on_some_or_none, one_link}
use Rattle.gadag_ears.proofs.EarLinks.{first_again, goes_over, link_touches, links_differ}
use Rattle.gadag_ears.proofs.EarBrought.{places_grown}
use Rattle.gadag_ears.proofs.Ended.{ears_in}
use Rattle.gadag_ears.proofs.EndsPassed.{place_of_root}
use Rattle.gadag_ears.proofs.HeadsByLowpoints.{begins_or_not}
use Rattle.gadag_ears.proofs.LinkBlocks.{leads_over}
use Rattle.gadag_ears.proofs.MarkedAlong.{link_there}
use Rattle.gadag_ears.proofs.MarksGrown.{last_on, tail_along}
use Rattle.gadag_ears.proofs.OneEar.{one_ear}
use Rattle.gadag_ears.proofs.OrderExists.{some_order}
use Rattle.gadag_ears.proofs.SearchFacts.{AreFacts}
use Rattle.gadag_ears.proofs.TurnsKept.{all_kept}

-- nodes that get one place
abbrev set_all : List Place → List ℕ → Place → List Place
set_all places [] place = places
set_all places (v ∷ vs) place = set (set_all places vs place) v place

length_all : (places : List Place) (vs : List ℕ) (place : Place) → length (set_all places vs place) ≡ length places
length_all places [] place = refl
length_all places (v ∷ vs) place = length-set (set_all places vs place) v place ∙ length_all places vs place

all_placed : (places : List Place) (vs : List ℕ) (place : Place) (u : ℕ) → Contains vs u → u < length places → slice_get (set_all places vs place) u ≡ Some place
all_placed places [] place u c within = absurd (contains_none u c)
all_placed places (v ∷ vs) place u c within = elim (cases_eq u v) [
  | inl same ↦ subst (λ (w : ℕ). slice_get (set (set_all places vs place) v place) w ≡ Some place) (sym same)
      (set_there (set_all places vs place) v place (omega (arith, within, same, length_all places vs place)))
  | inr other ↦ elim (contains_cases v u vs c) [
    | inl same ↦ absurd (other same)
    | inr later ↦ set_elsewhere (set_all places vs place) v u place other ∙ all_placed places vs place u later within
  ]
]

not_placed : (places : List Place) (vs : List ℕ) (place : Place) (u : ℕ) → ¬ Contains vs u → slice_get (set_all places vs place) u ≡ slice_get places u
not_placed places [] place u out = refl
not_placed places (v ∷ vs) place u out =
    set_elsewhere (set_all places vs place) v u place (λ same. out (subst (λ (w : ℕ). Contains (v ∷ vs) w) (sym same) (contains_first v vs)))
    ∙ not_placed places vs place u (λ later. out (contains_later v u vs later))

-- the places of the ears so far
record HavePlaces (g : Topology) (root : ℕ) (ears : List Ear) : Type 0 where
  pub places : List Place
  pub one_each : length places ≡ length g.ids
  pub are : ArePlaces root ears places

place_of_ear : (ear : Ear) (places : List Place) → ear.stop < length places
    → (place : Place) × (BeginsBlock ear → (place.head ≡ ear.start) × (place.block ≡ ear.first)) × (¬ BeginsBlock ear → slice_get places ear.stop ≡ Some place)
place_of_ear ear places within = elim (begins_or_not ear) [
  | inl begins ↦ (record { head = ear.start; block = ear.first }, (λ _. (refl, refl)), (λ joins. absurd (joins begins)))
  | inr joins ↦ let it = there places ear.stop within in (it.0, (λ begins. absurd (joins begins)), (λ _. it.1))
]

abbrev place_at : ℕ → ℕ → Place
place_at head block = record { head = head; block = block }

some_places : (g : Topology) (root : ℕ) (tree : List TreeNode) (over : List ℕ) (x : ℕ) (later : List ℕ) (ears : List Ear) → AreFacts g root tree
    → IsEarOrder g root tree over x later ears → HavePlaces g root ears
some_places g root tree over x later ears facts Begun =
    let here = place_of_root (length g.ids) root (place_at root root) facts.root_within in
    record {
      places = replicate (length g.ids) (place_at root root);
      one_each = length-replicate (length g.ids) (place_at root root);
      are = record {
        of_root = (ap (λ o. option_map (λ place. place.head) o) here, ap (λ o. option_map (λ place. place.block) o) here);
        of_block = λ ear v none. absurd (contains_none ear none);
        of_stop = λ ear v none. absurd (contains_none ear none);
      };
    }
some_places g root tree over x later ears facts (Grown over' x' later' ears' ear before next) =
    let old = some_places g root tree over' x' later' ears' facts before in
    let way = way_of g root tree over' x' later' ears' ear facts before next in
    let kept = all_kept g root tree over' x' later' ears' facts before in
    let place = place_of_ear ear old.places (omega (arith, kept.within ear.stop way.brings.stop_in, old.one_each)) in
    record {
      places = set_all old.places (new_nodes ear) place.0;
      one_each = length_all old.places (new_nodes ear) place.0 ∙ old.one_each;
      are = places_grown root (over' ++ x' ∷ later') ears' ear old.places (set_all old.places (new_nodes ear) place.0) place.0.head place.0.block
          (ears_in g root tree over' x' later' ears' facts before) old.are way.brings.stop_in way.brings.outside
          (λ v new.
          let over = goes_over g root tree (over' ++ x' ∷ later') x' ear v way new in
          all_placed old.places (new_nodes ear) place.0 v new (omega (arith, (facts.leads_within over.link v over.to over.onward).0, old.one_each)))
          (λ v out. not_placed old.places (new_nodes ear) place.0 v out)
          place.1 place.2;
    }
some_places g root tree over x later ears facts (Turned over' x' y later' ears' before done) = some_places g root tree over' x' (y ∷ later') ears' facts before

-- a list with one element for each number
list_of : {X : Type 0} (n : ℕ) (Is : ℕ → X → Type 0) → ((e : ℕ) → e < n → (x : X) × Is e x)
    → (xs : List X) × (length xs ≡ n) × ((e : ℕ) (x : X) → slice_get xs e ≡ Some x → Is e x)
list_of zero Is each = ([], refl, (λ e x at. cc))
list_of {X} (suc n) Is each =
    let front = list_of n Is (λ e within. each e (omega (arith, within))) in
    let last = each n (omega arith) in (
      front.0 ++ last.0 ∷ [],
      omega (arith, front.1, length-append front.0 (last.0 ∷ [])),
      (λ e x at. elim (pushed_at front.0 last.0 x e at) [
        | inl early ↦ front.2 e x early
        | inr here ↦ subst (λ (y : X). Is e y) here.1 (subst (λ (k : ℕ). Is k last.0) (sym (here.0 ∙ front.1)) last.1)
      ]),
    )

-- the node that a link with this direction leads away from
abbrev IsTail : Topology → ℕ → Way → ℕ → Type 0
IsTail g e way u = option_and_then (λ link. tail_of link way) (slice_get g.links e) ≡ Some u

-- the direction, the role and the block of a link
record IsWayOf (g : Topology) (tree : List TreeNode) (ears : List Ear) (e : ℕ) (way : Way) : Type 0 where
  pub out : (ear : Ear) → Contains ears ear → e ≡ ear.link → IsTail g e way ear.start
  pub onward : (ear : Ear) (v : ℕ) → Contains ears ear → ¬ IsOfOneLink tree ear → IsOnEar tree ear v e → IsTail g e way v
  pub others : ((ear : Ear) (v : ℕ) → Contains ears ear → ¬ IsOnEar tree ear v e) → way ≡ Unset

record IsRoleOf (tree : List TreeNode) (ears : List Ear) (e : ℕ) (role : Role) : Type 0 where
  pub sole : (ear : Ear) → Contains ears ear → IsOfOneLink tree ear → e ≡ ear.link → role ≡ Sole
  pub closing : (ear : Ear) → Contains ears ear → IsLastOfBlock tree ear e → e ≢ ear.link → role ≡ Closing
  pub others : ((ear : Ear) → Contains ears ear → ¬ IsLastOfBlock tree ear e) → role ≡ Plain

record IsMarkOf (g : Topology) (tree : List TreeNode) (ears : List Ear) (places : List Place) (e : ℕ) (mark : Mark) : Type 0 where
  pub way : IsWayOf g tree ears e mark.way
  pub role : IsRoleOf tree ears e mark.role
  pub common : (u v : ℕ) → leads g.links e u ≡ Some v → IsCommonBlock places u v mark.block

-- the ears of an ear order
record AreSomeEars (g : Topology) (root : ℕ) (tree : List TreeNode) (ears : List Ear) : Type 0 where
  pub facts : AreFacts g root tree
  pub known : (ear : Ear) → Contains ears ear → IsKnown g root tree ear
  pub one : (d f : Ear) (v w e : ℕ) → Contains ears d → Contains ears f → IsOnEar tree d v e → IsOnEar tree f w e → d ≡ f

-- an ear of more links leaves one node over each of them
same_from : (g : Topology) (root : ℕ) (tree : List TreeNode) (ear : Ear) (v w d e : ℕ) → IsKnown g root tree ear → ¬ IsOfOneLink tree ear
    → IsOnEar tree ear v d → IsOnEar tree ear w e → d ≡ e → v ≡ w
same_from g root tree ear v w d e it more Out Out same = refl
same_from g root tree ear v w d e it more Out (Onward u f new over) same =
    absurd (more (first_again g root tree it.listed it.x ear u it.way new (over ∙ ap (λ (l : ℕ). Some l) (sym same))).one)
same_from g root tree ear v w d e it more (Onward u f new over) Out same =
    absurd (more (first_again g root tree it.listed it.x ear u it.way new (over ∙ ap (λ (l : ℕ). Some l) same)).one)
same_from g root tree ear v w d e it more (Onward u f new over) (Onward t c new' over') same =
    links_differ g root tree it.listed it.x ear u t f it.way new new' over (over' ∙ ap (λ (l : ℕ). Some l) (sym same))

tail_there : (g : Topology) (e u w : ℕ) → leads g.links e u ≡ Some w → (way : Way) × IsTail g e way u
tail_there g e u w to =
    let it = link_there g e u w to in
    let far : far_node u it.link ≡ Some w = sym (ap (λ o. option_and_then (far_node u) o) it.is) ∙ to in
    (way_along u it.link, ap (λ o. option_and_then (λ link. tail_of link (way_along u it.link)) o) it.is ∙ tail_along u w it.link far)

some_way : (g : Topology) (root : ℕ) (tree : List TreeNode) (ears : List Ear) → AreSomeEars g root tree ears → (e : ℕ) → (way : Way) × IsWayOf g tree ears e way
some_way g root tree ears are e = elim (on_some_or_none tree ears e) [
  | inr none ↦ (
    Unset,
    record {
      out = λ ear c same. absurd (none ear ear.start c (subst (λ (d : ℕ). IsOnEar tree ear ear.start d) (sym same) Out));
      onward = λ ear v c more on. absurd (none ear v c on);
      others = λ _. refl;
    },
  )
  | inl on ↦
      let way = are.known on.ear on.among in
      elim (of_one_or_not tree on.ear) [
        | inl lone ↦
            let link : e ≡ on.ear.link = one_link g root tree on.ear on.node e way lone on.on in
            let to : leads g.links e on.ear.start ≡ Some on.ear.first = ap (λ (d : ℕ). leads g.links d on.ear.start) link ∙ way.way.brings.touches in
            let it = tail_there g e on.ear.start on.ear.first to in (
              it.0,
              record {
                out = λ ear c same.
                    let alike = are.one on.ear ear on.node ear.start e on.among c on.on (subst (λ (d : ℕ). IsOnEar tree ear ear.start d) (sym same) Out) in
                    subst (λ (d : Ear). IsTail g e it.0 d.start) alike it.1;
                onward = λ ear v c more on_it. absurd (more (subst (λ (d : Ear). IsOfOneLink tree d) (are.one on.ear ear on.node v e on.among c on.on on_it) lone));
                others = λ none. absurd (none on.ear on.node on.among on.on);
              },
            )
        | inr several ↦
            let to = link_touches g root tree way.listed way.x on.ear on.node e way.way on.on in
            let it = tail_there g e on.node to.0 to.1 in
            let same_node : (ear : Ear) (v : ℕ) → Contains ears ear → IsOnEar tree ear v e → on.node ≡ v = λ ear v c on_it.
            same_from g root tree on.ear on.node v e e way several on.on
            (subst (λ (d : Ear). IsOnEar tree d v e) (sym (are.one on.ear ear on.node v e on.among c on.on on_it)) on_it) refl in (
              it.0,
              record {
                out = λ ear c same.
                    subst (λ (w : ℕ). IsTail g e it.0 w) (same_node ear ear.start c (subst (λ (d : ℕ). IsOnEar tree ear ear.start d) (sym same) Out)) it.1;
                onward = λ ear v c more on_it. subst (λ (w : ℕ). IsTail g e it.0 w) (same_node ear v c on_it) it.1;
                others = λ none. absurd (none on.ear on.node on.among on.on);
              },
            )
      ]
]

some_role : (g : Topology) (root : ℕ) (tree : List TreeNode) (ears : List Ear) → AreSomeEars g root tree ears → (e : ℕ) → (role : Role) × IsRoleOf tree ears e role
some_role g root tree ears are e = elim (last_or_not tree ears e) [
  | inr none ↦ (
    Plain,
    record {
      sole = λ ear c lone same. absurd (none ear c (subst (λ (l : ℕ). IsLastOfBlock tree ear l) (sym same) lone));
      closing = λ ear c last differs. absurd (none ear c last);
      others = λ _. refl;
    },
  )
  | inl some ↦
      let same_ear : (ear : Ear) → Contains ears ear → IsLastOfBlock tree ear e → some.ear ≡ ear = λ ear c last.
      are.one some.ear ear (last_node some.ear.first some.ear.others) (last_node ear.first ear.others) e some.among c (last_on tree some.ear e some.last) (last_on tree ear e last) in
      elim (cases_eq e some.ear.link) [
        | inl first ↦ (
          Sole,
          record {
            sole = λ ear c lone same. refl;
            closing = λ ear c last differs. absurd (differs (first ∙ ap (λ (d : Ear). d.link) (same_ear ear c last)));
            others = λ none. absurd (none some.ear some.among some.last);
          },
        )
        | inr differs ↦ (
          Closing,
          record {
            sole = λ ear c lone same.
                absurd (differs (same ∙ ap (λ (d : Ear). d.link) (sym (same_ear ear c (subst (λ (l : ℕ). IsLastOfBlock tree ear l) (sym same) lone)))));
            closing = λ ear c last other. refl;
            others = λ none. absurd (none some.ear some.among some.last);
          },
        )
      ]
]

some_block : (g : Topology) (root : ℕ) (tree : List TreeNode) (order : List ℕ) (ears : List Ear) (places : List Place) → AreFacts g root tree
    → AreEars g root tree order ears → ArePlaces root ears places → length places ≡ length g.ids → (e : ℕ) → e < length g.links
    → (k : ℕ) × ((u v : ℕ) → leads g.links e u ≡ Some v → IsCommonBlock places u v k)
some_block g root tree order ears places facts are placed one_each e within =
    let link = there g.links e within in
    let it = common_block g root tree places e link.0.a link.0.b facts (placed_by_low g root tree order ears places facts are placed) one_each
    (leads_over g e link.0 link.1) in
    (it.0, common_of g places e link.0 it.0 link.1 it.1)

some_mark : (g : Topology) (root : ℕ) (tree : List TreeNode) (order : List ℕ) (ears : List Ear) (places : List Place) → AreSomeEars g root tree ears
    → AreEars g root tree order ears → ArePlaces root ears places → length places ≡ length g.ids → (e : ℕ) → e < length g.links
    → (mark : Mark) × IsMarkOf g tree ears places e mark
some_mark g root tree order ears places some are placed one_each e within =
    let way = some_way g root tree ears some e in
    let role = some_role g root tree ears some e in
    let block = some_block g root tree order ears places some.facts are placed one_each e within in
    (record { way = way.0; role = role.0; block = block.0 }, record { way = way.1; role = role.1; common = block.1 })

-- a list of such marks is the marks
tail_in : (g : Topology) (marks : List Mark) (e u : ℕ) (mark : Mark) → slice_get marks e ≡ Some mark → IsTail g e mark.way u → tail_at g.links marks e ≡ Some u
tail_in g marks e u mark at tail =
    ap (λ o. option_and_then (λ link. option_and_then (tail_of link) (option_map (λ mark. mark.way) o)) (slice_get g.links e)) at ∙ tail

link_in : (g : Topology) (root : ℕ) (tree : List TreeNode) (ear : Ear) (v e : ℕ) → IsKnown g root tree ear → IsOnEar tree ear v e → e < length g.links
link_in g root tree ear v e it on =
    let to = link_touches g root tree it.listed it.x ear v e it.way on in (link_there g e v to.0 to.1).within

are_marks : (g : Topology) (root : ℕ) (tree : List TreeNode) (ears : List Ear) (places : List Place) (marks : List Mark) → AreSomeEars g root tree ears
    → length marks ≡ length g.links → ((e : ℕ) (mark : Mark) → slice_get marks e ≡ Some mark → IsMarkOf g tree ears places e mark)
    → AreMarks g tree ears places marks
are_marks g root tree ears places marks some one_each each = record {
  one_each = one_each;
  directed = record {
    out = λ ear c. let it = at ear.link (link_in g root tree ear ear.start ear.link (some.known ear c) Out) in
        tail_in g marks ear.link ear.start it.0 it.1 (it.2.way.out ear c refl);
    onward = λ ear v e c more on. let it = at e (link_in g root tree ear v e (some.known ear c) on) in
        tail_in g marks e v it.0 it.1 (it.2.way.onward ear v c more on);
    others = λ e within none. let it = at e within in ap (λ o. option_map (λ mark. mark.way) o) it.1 ∙ ap (λ (w : Way). Some w) (it.2.way.others none);
  };
  roles = record {
    sole = λ ear c lone. let it = at ear.link (link_in g root tree ear ear.start ear.link (some.known ear c) Out) in
        ap (λ o. option_map (λ mark. mark.role) o) it.1 ∙ ap (λ (r : Role). Some r) (it.2.role.sole ear c lone refl);
    closing = λ ear e c last differs.
        let it = at e (link_in g root tree ear (last_node ear.first ear.others) e (some.known ear c) (last_on tree ear e last)) in
        ap (λ o. option_map (λ mark. mark.role) o) it.1 ∙ ap (λ (r : Role). Some r) (it.2.role.closing ear c last differs);
    others = λ e within none. let it = at e within in ap (λ o. option_map (λ mark. mark.role) o) it.1 ∙ ap (λ (r : Role). Some r) (it.2.role.others none);
  };
  blocks = λ e within.
      let it = at e within in
      record { block = it.0.block; is = ap (λ o. option_map (λ mark. mark.block) o) it.1; common = it.2.common };
}
  where
    at : (e : ℕ) → e < length g.links → (mark : Mark) × (slice_get marks e ≡ Some mark) × IsMarkOf g tree ears places e mark
    at e within = let it = there marks e (omega (arith, within, one_each)) in (it.0, it.1, each e it.0 it.1)

pub some_gadag : (g : Topology) (root : ℕ) (tree : List TreeNode) → AreFacts g root tree → (gadag : GadagLists) × IsGadag g root tree gadag
some_gadag g root tree facts =
    let order = some_order g root tree facts in
    let are = order.2 in
    let ordered = order.2.ordered in
    let have = some_places g root tree are.before are.last [] order.1 facts ordered in
    let some : AreSomeEars g root tree order.1 = record {
      facts = facts;
      known = known g root tree are.before are.last [] order.1 facts ordered;
      one = one_ear g root tree are.before are.last [] order.1 facts ordered;
    } in
    let marks = list_of (length g.links) (IsMarkOf g tree order.1 have.places)
    (λ e within. some_mark g root tree order.0 order.1 have.places some are have.are have.one_each e within) in (
      gadag_of order.0 have.places marks.0,
      record {
        ears = order.1;
        are_ears = are;
        one_place_each = have.one_each;
        places = have.are;
        marks = are_marks g root tree order.1 have.places marks.0 some marks.1 marks.2;
      },
    )
