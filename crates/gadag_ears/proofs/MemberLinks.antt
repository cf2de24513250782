-- How links of its block come to a node and lead on from it.
use Rattle.std.proofs.Common.{◌≡◌, ◌≢◌, ◌<◌, ◌∙◌, ℕ, List, [], ◌∷◌, Option, Some, None, length, slice_get, inl, inr, refl, sym, ap, subst, arith}
use Rattle.std.specs.Option.{option_and_then, option_map}
use Rattle.std.specs.Prelude.{Contains}
use Rattle.std.proofs.lemmas.Bool.{cases_eq}
use Rattle.std.proofs.lemmas.Option.{same_Some, slice_get_within}
use Rattle.mrt_graph.specs.declared.cert.Role.TheVariants.{Closing, Plain, Sole}
use Rattle.mrt_graph.specs.declared.gadag.Mark.{Mark}
use Rattle.mrt_graph.specs.declared.gadag.Place.{Place}
use Rattle.mrt_graph.specs.declared.tree.TreeNode.{TreeNode}
use Rattle.mrt_graph.specs.GadagLists.{GadagLists}
use Rattle.mrt_graph.specs.GadagFields.{block_at, head_at, role_at}
use Rattle.mrt_graph.specs.Leads.{leads}
use Rattle.mrt_graph.specs.Topology.{Topology}
use Rattle.mrt_graph.specs.TreeFields.{search_number}
use Rattle.mrt_graph.proofs.ListPlaces.{place_of}
use Rattle.mrt_graph.proofs.Members.{contains_cases, contains_first, contains_later, contains_none}
use Rattle.gadag_ears.specs.declared.kind.EarKind.{EarKind}
use Rattle.gadag_ears.specs.CommonBlock.{FirstIsHead, IsCommonBlock, OfBoth, SecondIsHead}
use Rattle.gadag_ears.specs.Counted.{IsCounted}
use Rattle.gadag_ears.specs.Ear.{Ear, GoesOn, last_node, new_nodes, next_node, onward_link}
use Rattle.gadag_ears.specs.Gadag.{IsGadag}
use Rattle.gadag_ears.specs.HeadAndBlock.{IsPlacedAs}
use Rattle.gadag_ears.specs.LinkMarks.{IsLastOfBlock, IsOfOneLink, IsOnEar, Onward, Out}
use Rattle.gadag_ears.specs.Members.{Alone, ClosesBlock, GoesOnFrom, HasLinkInto, IsInBlockOf, ToHead, ToMember}
use Rattle.gadag_ears.proofs.BlockLinks.{IsKnown, last_link, last_next, last_or_not}
use Rattle.gadag_ears.proofs.CommonBlocks.{headed, leads_elsewhere, placed_by_low}
use Rattle.gadag_ears.proofs.DirectedLinks.{counted_forward, ear_known, one_link, one_new, only_first}
use Rattle.gadag_ears.proofs.EarLast.{last_in}
use Rattle.gadag_ears.proofs.EarLinks.{goes_over, links_differ}
use Rattle.gadag_ears.proofs.EarWalk.{Climbs, GoesDown, IsGoing}
use Rattle.gadag_ears.proofs.Ended.{each_listed}
use Rattle.gadag_ears.proofs.Forward.{before_contains, next_stands, root_first}
use Rattle.gadag_ears.proofs.HeadsByLowpoints.{begins_or_not, new_alike}
use Rattle.gadag_ears.proofs.MarkedAlong.{link_there}
use Rattle.gadag_ears.proofs.NeighbourEars.{strictly}
use Rattle.gadag_ears.proofs.OneEar.{ear_of_node, not_closing}
use Rattle.gadag_ears.proofs.SearchFacts.{AreFacts}
use Rattle.gadag_ears.proofs.SoleLinks.{first_in_block, one_link_block}
use Rattle.gadag_ears.proofs.TurnsKept.{link_of_next}

-- a link between two nodes of one place lies in their block
alike_block : (places : List Place) (u v k : ℕ) → IsPlacedAs places u v → IsCommonBlock places u v k → (block_at places u ≡ Some k) × (block_at places v ≡ Some k)
alike_block places u v k same (OfBoth first second) = (first, second)
alike_block places u v k same (FirstIsHead block head) = (same.1 ∙ block, block)
alike_block places u v k same (SecondIsHead block head) = (block, sym same.1 ∙ block)

record AreInBlock (gadag : GadagLists) (e u v : ℕ) : Type 0 where
  pub one : IsInBlockOf gadag e u
  pub other : IsInBlockOf gadag e v

in_block_of_both : (g : Topology) (root : ℕ) (tree : List TreeNode) (gadag : GadagLists) → IsGadag g root tree gadag → (e u v : ℕ) → leads g.links e u ≡ Some v
    → IsPlacedAs gadag.places u v → AreInBlock gadag e u v
in_block_of_both g root tree gadag it e u v to same =
    let lies = it.marks.blocks e (link_there g e u v to).within in
    let both = alike_block gadag.places u v lies.block same (lies.common u v to) in
    record {
      one = record { block = lies.block; of_link = lies.is; of_node = both.0 };
      other = record { block = lies.block; of_link = lies.is; of_node = both.1 };
    }

-- an ear's start has a lower number than its first node
start_lower : (g : Topology) (root : ℕ) (tree : List TreeNode) (nodes : List ℕ) (x first link : ℕ) (kind : EarKind) → AreFacts g root tree
    → IsGoing g tree nodes x first link first 0 kind → search_number tree x < search_number tree first
start_lower g root tree nodes x first link kind facts (GoesDown start way count) = facts.falls first x start.child
start_lower g root tree nodes x first link kind facts (Climbs start way count) =
    strictly g root tree x first facts way.below (λ same. way.outside (subst (λ (w : ℕ). Contains nodes w) (sym same) start.in_list))

-- so the first node is not the head of the start
not_head : (g : Topology) (root : ℕ) (tree : List TreeNode) (gadag : GadagLists) → AreFacts g root tree → IsGadag g root tree gadag → (u v : ℕ)
    → u < length g.ids → search_number tree u < search_number tree v → head_at gadag.places u ≡ Some v → ⊥
not_head g root tree gadag facts it u v within lower head = elim (cases_eq u root) [
  | inl same ↦
      let v_root : root ≡ v = same_Some root v (sym it.places.of_root.0 ∙ ap (λ (w : ℕ). head_at gadag.places w) (sym same) ∙ head) in
      omega (arith, lower, ap (λ (w : ℕ). search_number tree w) v_root, ap (λ (w : ℕ). search_number tree w) same)
  | inr other ↦
      let its = headed (search_number tree u) g root tree gadag.places u facts (placed_by_low g root tree gadag.order it.ears gadag.places facts it.are_ears it.places)
      within other (omega arith) in
      omega (arith, its.lower, lower, ap (λ (w : ℕ). search_number tree w) (same_Some its.head v (sym its.has ∙ head)))
]

-- the first link of an ear lies in the block of its first node
first_link : (g : Topology) (root : ℕ) (tree : List TreeNode) (gadag : GadagLists) → AreFacts g root tree → (it : IsGadag g root tree gadag)
    → (ear : Ear) → Contains it.ears ear → IsKnown g root tree ear → IsInBlockOf gadag ear.link ear.first
first_link g root tree gadag facts it ear among way =
    let to = way.way.brings.touches in
    let lies = it.marks.blocks ear.link (link_there g ear.link ear.start ear.first to).within in
    record { block = lies.block; of_link = lies.is; of_node = go lies.block (lies.common ear.start ear.first to) }
  where
    lower : search_number tree ear.start < search_number tree ear.first
    lower = subst (λ (w : ℕ). search_number tree w < search_number tree ear.first) (sym way.way.next.from)
        (start_lower g root tree way.listed way.x ear.first way.way.next.end.link ear.kind facts way.way.going)

    go : (k : ℕ) → IsCommonBlock gadag.places ear.start ear.first k → block_at gadag.places ear.first ≡ Some k
    go k (OfBoth first second) = second
    go k (FirstIsHead block head) = block
    go k (SecondIsHead block head) =
        absurd (not_head g root tree gadag facts it ear.start ear.first (facts.leads_within ear.link ear.start ear.first way.way.brings.touches).0 lower head)

-- the new node before another one on an ear
comes : (g : Topology) (tree : List TreeNode) (kind : EarKind) (listed : List ℕ) (v : ℕ) (us : List ℕ) (stop w : ℕ) → GoesOn g tree kind listed v us stop
    → Contains us w → (u : ℕ) × (Contains (v ∷ us) u) × (next_node g tree kind u ≡ Some w)
comes g tree kind listed v [] stop w goes none = absurd (contains_none w none)
comes g tree kind listed v (y ∷ ys) stop w goes inside = elim (contains_cases y w ys inside) [
  | inl same ↦ (v, contains_first v (y ∷ ys), goes.0 ∙ ap (λ (z : ℕ). Some z) (sym same))
  | inr later ↦ let it = comes g tree kind listed y ys stop w goes.2 later in (it.0, contains_later v it.0 (y ∷ ys) it.1, it.2)
]

-- the step of an ear from one new node to another is counted, and lies in their block
inner_step : (g : Topology) (root : ℕ) (tree : List TreeNode) (gadag : GadagLists) → AreFacts g root tree → (it : IsGadag g root tree gadag)
    → (ear : Ear) (e u v : ℕ) → Contains it.ears ear → IsKnown g root tree ear → Contains (new_nodes ear) u → Contains (new_nodes ear) v
    → onward_link ear.kind tree u ≡ Some e → leads g.links e u ≡ Some v → IsCounted g gadag.marks e u v
inner_step g root tree gadag facts it ear e u v among way u_new v_new over to = record {
  away = it.marks.directed.onward ear u e among more (Onward u e u_new over);
  to = to;
  not_closing = not_closing g root tree gadag facts it ear u e among (Onward u e u_new over) (λ last. absurd (not_last last));
}
  where
    more : ¬ IsOfOneLink tree ear
    more one =
        let none = one_new g root tree ear way one in
        leads_elsewhere g e u v facts.kept to (only_first ear u none u_new ∙ sym (only_first ear v none v_new))

    not_last : IsLastOfBlock tree ear e → ⊥
    not_last last =
        let goes = way.way.next.onward in
        let at_last : u ≡ last_node ear.first ear.others =
        links_differ g root tree way.listed way.x ear u (last_node ear.first ear.others) e way.way u_new (last_in ear.first ear.others) over last.last in
        let to_stop : next_node g tree ear.kind u ≡ Some ear.stop =
        ap (λ (w : ℕ). next_node g tree ear.kind w) at_last ∙ last_next g tree ear.kind way.listed ear.first ear.others ear.stop goes in
        let v_is : v ≡ ear.stop = same_Some v ear.stop (sym to ∙ sym (ap (λ o. option_and_then (λ d. leads g.links d u) o) over) ∙ to_stop) in
        way.way.brings.outside v v_new (subst (λ (w : ℕ). Contains way.listed w) (sym v_is) way.way.brings.stop_in)

-- each node but the root is entered
pub link_into : (g : Topology) (root : ℕ) (tree : List TreeNode) (gadag : GadagLists) → AreFacts g root tree → IsGadag g root tree gadag → (v : ℕ)
    → v < length g.ids → v ≢ root → HasLinkInto g gadag v
link_into g root tree gadag facts it v within other =
    let by = ear_of_node g root tree gadag facts it v within other in
    let way = ear_known g root tree gadag facts it by.ear by.among in
    elim (contains_cases by.ear.first v by.ear.others by.new) [
      | inl same ↦ subst (λ (w : ℕ). HasLinkInto g gadag w) (sym same) (record {
        link = by.ear.link;
        from = by.ear.start;
        counted = record {
          away = it.marks.directed.out by.ear by.among;
          to = way.way.brings.touches;
          not_closing = not_closing g root tree gadag facts it by.ear by.ear.start by.ear.link by.among Out (λ last. refl);
        };
        in_block = first_link g root tree gadag facts it by.ear by.among way;
      })
      | inr later ↦
          let before = comes g tree by.ear.kind way.listed by.ear.first by.ear.others by.ear.stop v way.way.next.onward later in
          let over = link_of_next g tree by.ear.kind before.0 v before.2 in
          let alike = new_alike root it.ears gadag.places by.ear before.0 v it.places by.among before.1 by.new (begins_or_not by.ear) in
          record {
            link = over.0;
            from = before.0;
            counted = inner_step g root tree gadag facts it by.ear over.0 before.0 v by.among way before.1 by.new over.1 over.2;
            in_block = (in_block_of_both g root tree gadag it over.0 before.0 v over.2 alike).other;
          }
    ]

pub none_into_root : (g : Topology) (root : ℕ) (tree : List TreeNode) (gadag : GadagLists) → AreFacts g root tree → (it : IsGadag g root tree gadag) → (e u : ℕ)
    → ¬ IsCounted g gadag.marks e u root
none_into_root g root tree gadag facts it e u counted =
    let within = (facts.leads_within e u root counted.to).0 in
    let at = place_of gadag.order u (each_listed g root tree gadag.order it.ears facts it.are_ears u within) in
    let early = counted_forward g root tree gadag facts it e u root at.0 0 counted at.1 (root_first g root tree gadag.order it.ears it.are_ears) in
    omega (arith, early)

-- the last link of an ear that begins a block closes it
closes : (g : Topology) (root : ℕ) (tree : List TreeNode) (gadag : GadagLists) → AreFacts g root tree → (it : IsGadag g root tree gadag)
    → (ear : Ear) (e : ℕ) → Contains it.ears ear → IsKnown g root tree ear → IsLastOfBlock tree ear e → e ≢ ear.link
    → ClosesBlock g gadag e (last_node ear.first ear.others)
closes g root tree gadag facts it ear e among way last differs =
    let new = last_in ear.first ear.others in
    let on : IsOnEar tree ear (last_node ear.first ear.others) e = Onward (last_node ear.first ear.others) e new last.last in
    let has = it.places.of_block ear (last_node ear.first ear.others) among new last.begins in
    let its = last_link g root tree it.ears ear gadag.places gadag.marks facts
    (placed_by_low g root tree gadag.order it.ears gadag.places facts it.are_ears it.places) it.places it.marks.blocks among last.begins way in
    let same : its.link ≡ e = same_Some its.link e (sym its.last.last ∙ last.last) in
    let to_stop = last_next g tree ear.kind way.listed ear.first ear.others ear.stop way.way.next.onward in
    record {
      closing = it.marks.roles.closing ear e among last differs;
      in_block = subst (λ (l : ℕ). IsInBlockOf gadag l (last_node ear.first ear.others)) same (record { block = ear.first; of_link = its.block; of_node = has.1 });
      away = it.marks.directed.onward ear (last_node ear.first ear.others) e among
          (λ one. differs (one_link g root tree ear (last_node ear.first ear.others) e way one on)) on;
      head = ear.start;
      to = sym (ap (λ o. option_and_then (λ d. leads g.links d (last_node ear.first ear.others)) o) last.last) ∙ to_stop ∙ ap (λ (w : ℕ). Some w) last.begins.1;
      is_head = has.0;
    }

-- how the block goes on from each node but the root
last_goes_on : (g : Topology) (root : ℕ) (tree : List TreeNode) (gadag : GadagLists) → AreFacts g root tree → (it : IsGadag g root tree gadag)
    → (ear : Ear) (e : ℕ) → Contains it.ears ear → IsKnown g root tree ear → onward_link ear.kind tree (last_node ear.first ear.others) ≡ Some e
    → leads g.links e (last_node ear.first ear.others) ≡ Some ear.stop → GoesOnFrom g gadag (last_node ear.first ear.others)
last_goes_on g root tree gadag facts it ear e among way over to = elim (begins_or_not ear) [
  | inr joins ↦
      let on : IsOnEar tree ear (last_node ear.first ear.others) e = Onward (last_node ear.first ear.others) e (last_in ear.first ear.others) over in
      let both = in_block_of_both g root tree gadag it e (last_node ear.first ear.others) ear.stop to
      (it.places.of_stop ear (last_node ear.first ear.others) among (last_in ear.first ear.others) joins) in
      ToMember e ear.stop (record {
        away = it.marks.directed.onward ear (last_node ear.first ear.others) e among (λ one. joins one.begins) on;
        to = to;
        not_closing = not_closing g root tree gadag facts it ear (last_node ear.first ear.others) e among on (λ last. absurd (joins last.begins));
      }) both.one both.other
  | inl begins ↦
      let last : IsLastOfBlock tree ear e = record { begins = begins; last = over } in
      elim (cases_eq e ear.link) [
        | inr differs ↦ ToHead e (closes g root tree gadag facts it ear e among way last differs)
        | inl same ↦
            let one : IsOfOneLink tree ear = subst (λ (l : ℕ). IsLastOfBlock tree ear l) same last in
            let is_first = only_first ear (last_node ear.first ear.others) (one_new g root tree ear way one) (last_in ear.first ear.others) in
            let block = first_in_block g root tree gadag facts it ear among begins way in
            subst (λ (w : ℕ). GoesOnFrom g gadag w) (sym is_first)
            (Alone (it.places.of_block ear ear.first among (contains_first ear.first ear.others) begins).1
            (one_link_block g root tree gadag facts it ear among way one block))
      ]
]

pub goes_on_from : (g : Topology) (root : ℕ) (tree : List TreeNode) (gadag : GadagLists) → AreFacts g root tree → IsGadag g root tree gadag → (v : ℕ)
    → v < length g.ids → v ≢ root → GoesOnFrom g gadag v
goes_on_from g root tree gadag facts it v within other =
    let by = ear_of_node g root tree gadag facts it v within other in
    let way = ear_known g root tree gadag facts it by.ear by.among in
    let over = goes_over g root tree way.listed way.x by.ear v way.way by.new in
    let next : next_node g tree by.ear.kind v ≡ Some over.to = ap (λ o. option_and_then (λ d. leads g.links d v) o) over.over ∙ over.onward in
    elim (next_stands g tree by.ear.kind way.listed by.ear.first by.ear.others by.ear.stop v over.to way.way.next.onward by.new next) [
      | inl before ↦
          let to_new = before_contains (new_nodes by.ear) v over.to before in
          let both = in_block_of_both g root tree gadag it over.link v over.to over.onward
          (new_alike root it.ears gadag.places by.ear v over.to it.places by.among by.new to_new (begins_or_not by.ear)) in
          ToMember over.link over.to (inner_step g root tree gadag facts it by.ear over.link v over.to by.among way by.new to_new over.over over.onward) both.one both.other
      | inr at_stop ↦ subst (λ (w : ℕ). GoesOnFrom g gadag w) (sym at_stop.0)
          (last_goes_on g root tree gadag facts it by.ear over.link by.among way
          (ap (λ (w : ℕ). onward_link by.ear.kind tree w) (sym at_stop.0) ∙ over.over)
          (ap (λ (w : ℕ). leads g.links over.link w) (sym at_stop.0) ∙ over.onward ∙ ap (λ (w : ℕ). Some w) at_stop.1))
    ]

-- each closing link closes its block
role_there : (g : Topology) (marks : List Mark) (e : ℕ) → role_at marks e ≡ Some Closing → e < length marks
role_there g marks e is = go (slice_get marks e) refl is
  where
    go : (o : Option Mark) → slice_get marks e ≡ o → option_map (λ mark. mark.role) o ≡ Some Closing → e < length marks
    go None found is = cc
    go (Some mark) found is = slice_get_within marks e mark found

pub closing_link : (g : Topology) (root : ℕ) (tree : List TreeNode) (gadag : GadagLists) → AreFacts g root tree → (it : IsGadag g root tree gadag) → (e : ℕ)
    → role_at gadag.marks e ≡ Some Closing → (v : ℕ) × ClosesBlock g gadag e v
closing_link g root tree gadag facts it e closing = elim (last_or_not tree it.ears e) [
  | inr none ↦ absurd (plain_or_closing (sym (it.marks.roles.others e (omega (arith, role_there g gadag.marks e closing, it.marks.one_each)) none) ∙ closing))
  | inl some ↦ (
    last_node some.ear.first some.ear.others,
    closes g root tree gadag facts it some.ear e some.among (ear_known g root tree gadag facts it some.ear some.among) some.last (λ same.
        sole_or_closing (sym (it.marks.roles.sole some.ear some.among (subst (λ (l : ℕ). IsLastOfBlock tree some.ear l) same some.last))
        ∙ sym (ap (λ (l : ℕ). role_at gadag.marks l) same) ∙ closing)),
  )
]
  where
    plain_or_closing : Some Plain ≡ Some Closing → ⊥
    plain_or_closing same = cc

    sole_or_closing : Some Sole ≡ Some Closing → ⊥
    sole_or_closing same = cc
