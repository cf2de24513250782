-- The links that ears have directed.
use Rattle.std.proofs.Common.{◌≡◌, ◌⊎◌, ◌<◌, ◌∙◌, ℕ, List, [], ◌∷◌, Option, Some, None, length, slice_get, inl, inr, refl, sym, ap, subst, arith}
use Rattle.std.specs.Option.{option_and_then, option_map}
use Rattle.std.specs.Prelude.{Contains}
use Rattle.std.proofs.lemmas.Bool.{eq-eqb}
use Rattle.std.proofs.lemmas.Bool.Decides.{eqb_tells}
use Rattle.std.proofs.lemmas.Option.{same_Some, slice_get_within}
use Rattle.mrt_graph.specs.declared.cert.Role.TheVariants.{Closing, Plain}
use Rattle.mrt_graph.specs.declared.gadag.Mark.{Mark}
use Rattle.mrt_graph.specs.declared.gadag.Way.{Way}
use Rattle.mrt_graph.specs.declared.gadag.Way.TheVariants.{AToB, BToA, Unset}
use Rattle.mrt_graph.specs.declared.link.Link.{Link}
use Rattle.mrt_graph.specs.declared.tree.TreeNode.{TreeNode}
use Rattle.mrt_graph.specs.GadagLists.{GadagLists}
use Rattle.mrt_graph.specs.GadagFields.{role_at, way_at}
use Rattle.mrt_graph.specs.Leads.{far_node, leads}
use Rattle.mrt_graph.specs.Tails.{tail_at, tail_of}
use Rattle.mrt_graph.specs.Topology.{Topology}
use Rattle.mrt_graph.proofs.Members.{contains_cases, contains_first, contains_later, contains_none}
use Rattle.gadag_ears.specs.Counted.{IsCounted}
use Rattle.gadag_ears.specs.Ear.{Ear, last_node, new_nodes, onward_link}
use Rattle.gadag_ears.specs.Gadag.{IsGadag}
use Rattle.gadag_ears.specs.LinkMarks.{IsLastOfBlock, IsOfOneLink, IsOnEar, Onward, Out}
use Rattle.gadag_ears.proofs.BlockLinks.{IsKnown, known, last_or_not}
use Rattle.gadag_ears.proofs.EarLast.{last_in}
use Rattle.gadag_ears.proofs.EarLinks.{first_again}
use Rattle.gadag_ears.proofs.Ended.{all_done}
use Rattle.gadag_ears.proofs.Forward.{IsForward, StandsBefore, all_forward, by_places}
use Rattle.gadag_ears.proofs.HeadsByLowpoints.{begins_or_not}
use Rattle.gadag_ears.proofs.MarkedAlong.{link_there}
use Rattle.gadag_ears.proofs.MarksGrown.{is_link_or_not, last_on, on_or_not}
use Rattle.gadag_ears.proofs.Once.{one_place}
use Rattle.gadag_ears.proofs.SearchFacts.{AreFacts}

-- the ears of a GADAG are known
pub ear_known : (g : Topology) (root : ℕ) (tree : List TreeNode) (gadag : GadagLists) → AreFacts g root tree → (it : IsGadag g root tree gadag) → (ear : Ear)
    → Contains it.ears ear → IsKnown g root tree ear
ear_known g root tree gadag facts it ear among = known g root tree it.are_ears.before it.are_ears.last [] it.ears facts it.are_ears.ordered ear among

-- whether an ear has one link
pub of_one_or_not : (tree : List TreeNode) (ear : Ear) → IsOfOneLink tree ear ⊎ (¬ IsOfOneLink tree ear)
of_one_or_not tree ear = elim (begins_or_not ear) [
  | inr joins ↦ inr (λ one. joins one.begins)
  | inl begins ↦ elim (is_link_or_not (onward_link ear.kind tree (last_node ear.first ear.others)) ear.link) [
    | inl is ↦ inl (record { begins = begins; last = is })
    | inr other ↦ inr (λ one. other one.last)
  ]
]

-- such an ear has one new node
pub one_new : (g : Topology) (root : ℕ) (tree : List TreeNode) (ear : Ear) → IsKnown g root tree ear → IsOfOneLink tree ear → ear.others ≡ []
one_new g root tree ear it one =
    (first_again g root tree it.listed it.x ear (last_node ear.first ear.others) it.way (last_in ear.first ear.others) one.last).alone

pub only_first : (ear : Ear) (v : ℕ) → ear.others ≡ [] → Contains (new_nodes ear) v → v ≡ ear.first
only_first ear v none c = elim (contains_cases ear.first v ear.others c) [
  | inl same ↦ same
  | inr later ↦ absurd (contains_none v (subst (λ (xs : List ℕ). Contains xs v) none later))
]

-- and all its links are that one
pub one_link : (g : Topology) (root : ℕ) (tree : List TreeNode) (ear : Ear) (v e : ℕ) → IsKnown g root tree ear → IsOfOneLink tree ear → IsOnEar tree ear v e → e ≡ ear.link
one_link g root tree ear v e it one Out = refl
one_link g root tree ear v e it one (Onward u d new over) =
    let none = one_new g root tree ear it one in
    let last : last_node ear.first ear.others ≡ ear.first = ap (λ (us : List ℕ). last_node ear.first us) none in
    same_Some d ear.link (sym over ∙ ap (λ (w : ℕ). onward_link ear.kind tree w) (only_first ear u none new ∙ sym last) ∙ one.last)

-- a link on some ear
pub record IsOnSome (tree : List TreeNode) (ears : List Ear) (e : ℕ) : Type 0 where
  pub ear : Ear
  pub among : Contains ears ear
  pub node : ℕ
  pub on : IsOnEar tree ear node e

pub on_some_or_none : (tree : List TreeNode) (ears : List Ear) (e : ℕ)
    → IsOnSome tree ears e ⊎ ((ear : Ear) (v : ℕ) → Contains ears ear → ¬ IsOnEar tree ear v e)
on_some_or_none tree [] e = inr (λ ear v none. absurd (contains_none ear none))
on_some_or_none tree (d ∷ ds) e = elim (on_or_not tree d e) [
  | inl it ↦ inl (record { ear = d; among = contains_first d ds; node = it.node; on = it.on })
  | inr not_here ↦ elim (on_some_or_none tree ds e) [
    | inl it ↦ inl (record { ear = it.ear; among = contains_later d it.ear ds it.among; node = it.node; on = it.on })
    | inr nowhere ↦ inr (λ ear v c. elim (contains_cases d ear ds c) [
      | inl same ↦ subst (λ (f : Ear). ¬ IsOnEar tree f v e) (sym same) (not_here v)
      | inr old ↦ nowhere ear v old
    ])
  ]
]

-- a link without direction has no tail
unset_tail : (g : Topology) (marks : List Mark) (e u : ℕ) → way_at marks e ≡ Some Unset → tail_at g.links marks e ≡ Some u → ⊥
unset_tail g marks e u unset is = go (slice_get g.links e)
    (sym (ap (λ o. option_and_then (λ link. option_and_then (tail_of link) o) (slice_get g.links e)) unset) ∙ is)
  where
    go : (o : Option Link) → option_and_then (λ link. option_and_then (tail_of link) (Some Unset)) o ≡ Some u → ⊥
    go None none = cc
    go (Some link) none = cc

-- a link that has a direction leads away from one of its nodes to the other
pub tail_leads : (g : Topology) (marks : List Mark) (e u : ℕ) → tail_at g.links marks e ≡ Some u → (v : ℕ) × (leads g.links e u ≡ Some v)
tail_leads g marks e u is = go (slice_get g.links e) (way_at marks e) is
  where
    of_link : (link : Link) (way : Way) → tail_of link way ≡ Some u → (v : ℕ) × (far_node u link ≡ Some v)
    of_link link Unset none = cc
    of_link link AToB at = (link.b, rw (eq-eqb link.a u (same_Some link.a u at)) refl)
    of_link link BToA at = elim (eqb_tells link.a u) [
      | inl up ↦ (link.b, rw up.0 refl)
      | inr other ↦ (link.a, rw other.0 (rw (eq-eqb link.b u (same_Some link.b u at)) refl))
    ]

    go : (o : Option Link) (w : Option Way) → option_and_then (λ link. option_and_then (tail_of link) w) o ≡ Some u
        → (v : ℕ) × (option_and_then (far_node u) o ≡ Some v)
    go None w none = cc
    go (Some link) None none = cc
    go (Some link) (Some way) at = of_link link way at

-- the tail of a directed link, on its ear
pub record IsTailOn (tree : List TreeNode) (ears : List Ear) (u e : ℕ) : Type 0 where
  pub ear : Ear
  pub among : Contains ears ear
  pub on : IsOnEar tree ear u e
  pub at_start : IsOfOneLink tree ear → (u ≡ ear.start) × (e ≡ ear.link)

pub tail_on : (g : Topology) (root : ℕ) (tree : List TreeNode) (gadag : GadagLists) → AreFacts g root tree → (it : IsGadag g root tree gadag) → (e u : ℕ)
    → e < length g.links → tail_at g.links gadag.marks e ≡ Some u → IsTailOn tree it.ears u e
tail_on g root tree gadag facts it e u within is = elim (on_some_or_none tree it.ears e) [
  | inr none ↦ absurd (unset_tail g gadag.marks e u (it.marks.directed.others e within none) is)
  | inl on ↦ elim (of_one_or_not tree on.ear) [
    | inl one ↦
        let link : e ≡ on.ear.link = one_link g root tree on.ear on.node e (ear_known g root tree gadag facts it on.ear on.among) one on.on in
        let tail : u ≡ on.ear.start = same_Some u on.ear.start (sym is ∙ ap (λ (d : ℕ). tail_at g.links gadag.marks d) link ∙ it.marks.directed.out on.ear on.among) in
        record {
          ear = on.ear;
          among = on.among;
          on = subst (λ (d : ℕ). IsOnEar tree on.ear u d) (sym link) (subst (λ (w : ℕ). IsOnEar tree on.ear w on.ear.link) (sym tail) Out);
          at_start = λ _. (tail, link);
        }
    | inr more ↦
        let tail : on.node ≡ u = same_Some on.node u (sym (it.marks.directed.onward on.ear on.node e on.among more on.on) ∙ is) in
        record {
          ear = on.ear;
          among = on.among;
          on = subst (λ (w : ℕ). IsOnEar tree on.ear w e) tail on.on;
          at_start = λ one. absurd (more one);
        }
  ]
]

-- a counted link leads forward
on_forward : (g : Topology) (root : ℕ) (tree : List TreeNode) (gadag : GadagLists) (ear : Ear) → AreFacts g root tree → (it : IsGadag g root tree gadag)
    → Contains it.ears ear → IsKnown g root tree ear → IsForward g tree gadag.order ear → (u e v : ℕ) → IsOnEar tree ear u e
    → (IsOfOneLink tree ear → (u ≡ ear.start) × (e ≡ ear.link)) → leads g.links e u ≡ Some v → ¬ (role_at gadag.marks e ≡ Some Closing) → StandsBefore gadag.order u v
on_forward g root tree gadag ear facts it among way forward u e v Out at_start to free =
    subst (λ (w : ℕ). StandsBefore gadag.order ear.start w) (same_Some ear.first v (sym way.way.brings.touches ∙ to)) forward.out
on_forward g root tree gadag ear facts it among way forward u e v (Onward w d new over) at_start to free =
    forward.onward w v new (ap (λ o. option_and_then (λ f. leads g.links f w) o) over ∙ to) (λ last.
    let is_last : IsLastOfBlock tree ear d = record { begins = last.0; last = ap (λ (y : ℕ). onward_link ear.kind tree y) (sym last.1) ∙ over } in
    free (it.marks.roles.closing ear d among is_last (λ same.
    let one : IsOfOneLink tree ear = subst (λ (f : ℕ). IsLastOfBlock tree ear f) same is_last in
    way.way.brings.outside w new (subst (λ (y : ℕ). Contains way.listed y) (sym ((at_start one).0 ∙ way.way.next.from)) way.way.in_list))))

pub counted_before : (g : Topology) (root : ℕ) (tree : List TreeNode) (gadag : GadagLists) → AreFacts g root tree → IsGadag g root tree gadag → (e u v : ℕ)
    → IsCounted g gadag.marks e u v → StandsBefore gadag.order u v
counted_before g root tree gadag facts it e u v counted =
    let within = (link_there g e u v counted.to).within in
    let on = tail_on g root tree gadag facts it e u within counted.away in
    let forward = subst (λ (xs : List ℕ). IsForward g tree xs on.ear) (sym it.are_ears.whole)
    (all_forward g root tree it.are_ears.before it.are_ears.last [] it.ears facts it.are_ears.ordered on.ear on.among) in
    on_forward g root tree gadag on.ear facts it on.among (ear_known g root tree gadag facts it on.ear on.among) forward u e v on.on on.at_start counted.to counted.not_closing

pub counted_forward : (g : Topology) (root : ℕ) (tree : List TreeNode) (gadag : GadagLists) → AreFacts g root tree → IsGadag g root tree gadag → (e u v k l : ℕ)
    → IsCounted g gadag.marks e u v → slice_get gadag.order k ≡ Some u → slice_get gadag.order l ≡ Some v → k < l
counted_forward g root tree gadag facts it e u v k l counted u_at v_at =
    let once = (all_done g root tree gadag.order it.ears facts it.are_ears).once in
    by_places gadag.order u v k l (one_place gadag.order u (once u)) (one_place gadag.order v (once v)) (counted_before g root tree gadag facts it e u v counted) u_at v_at

-- a link without direction is plain
way_there : (marks : List Mark) (e : ℕ) → way_at marks e ≡ Some Unset → e < length marks
way_there marks e is = go (slice_get marks e) refl is
  where
    go : (o : Option Mark) → slice_get marks e ≡ o → option_map (λ mark. mark.way) o ≡ Some Unset → e < length marks
    go None found is = cc
    go (Some mark) found is = slice_get_within marks e mark found

pub unset_plain : (g : Topology) (root : ℕ) (tree : List TreeNode) (gadag : GadagLists) → AreFacts g root tree → (it : IsGadag g root tree gadag) → (e : ℕ)
    → way_at gadag.marks e ≡ Some Unset → role_at gadag.marks e ≡ Some Plain
unset_plain g root tree gadag facts it e unset = elim (last_or_not tree it.ears e) [
  | inr none ↦ it.marks.roles.others e (omega (arith, way_there gadag.marks e unset, it.marks.one_each)) none
  | inl some ↦
      absurd (elim (of_one_or_not tree some.ear) [
        | inr more ↦ unset_tail g gadag.marks e (last_node some.ear.first some.ear.others) unset
            (it.marks.directed.onward some.ear (last_node some.ear.first some.ear.others) e some.among more (last_on tree some.ear e some.last))
        | inl one ↦
            let same : some.ear.link ≡ e = same_Some some.ear.link e (sym one.last ∙ some.last.last) in
            unset_tail g gadag.marks e some.ear.start unset
            (ap (λ (d : ℕ). tail_at g.links gadag.marks d) (sym same) ∙ it.marks.directed.out some.ear some.among)
      ])
]
