-- The ear that begins a block, and the links of the block.
use Rattle.std.proofs.Common.{◌≡◌, ◌≢◌, ◌⊎◌, ◌<◌, ◌++◌, ◌∙◌, ℕ, List, [], ◌∷◌, Option, Some, None, length, slice_get, inl, inr, refl, sym, ap, subst, arith}
use Rattle.std.specs.Option.{option_map}
use Rattle.std.specs.Prelude.{Contains}
use Rattle.std.proofs.lemmas.Option.{same_Some, slice_get_within}
use Rattle.mrt_graph.specs.declared.cert.Role.TheVariants.{Plain}
use Rattle.mrt_graph.specs.declared.gadag.Mark.{Mark}
use Rattle.mrt_graph.specs.declared.gadag.Place.{Place}
use Rattle.mrt_graph.specs.declared.tree.TreeNode.{TreeNode}
use Rattle.mrt_graph.specs.GadagLists.{GadagLists}
use Rattle.mrt_graph.specs.GadagFields.{block_at, head_at, link_block_at, role_at}
use Rattle.mrt_graph.specs.Leads.{leads}
use Rattle.mrt_graph.specs.Topology.{Topology}
use Rattle.mrt_graph.proofs.Members.{contains_cases, contains_first, contains_later, contains_none}
use Rattle.lowpoint_dfs.specs.Subtree.{parent_of}
use Rattle.gadag_ears.specs.declared.kind.EarKind.{EarKind}
use Rattle.gadag_ears.specs.CommonBlock.{FirstIsHead, IsCommonBlock, OfBoth, SecondIsHead}
use Rattle.gadag_ears.specs.Ear.{Ear, GoesOn, IsNextEar, last_node, new_nodes, next_node, onward_link}
use Rattle.gadag_ears.specs.EarOrder.{Begun, Grown, IsEarOrder, Turned}
use Rattle.gadag_ears.specs.Gadag.{IsGadag}
use Rattle.gadag_ears.specs.HeadAndBlock.{ArePlaces, BeginsBlock}
use Rattle.gadag_ears.specs.LinkMarks.{IsLastOfBlock, LiesInBlock}
use Rattle.gadag_ears.proofs.CommonBlocks.{leads_elsewhere, one_common_block, placed_by_low, root_alone}
use Rattle.gadag_ears.proofs.CutLists.{put_cases, turned}
use Rattle.gadag_ears.proofs.EarLast.{last_in}
use Rattle.gadag_ears.proofs.EarLinks.{IsUnderWay, under_way}
use Rattle.gadag_ears.proofs.Ended.{each_listed, ears_in}
use Rattle.gadag_ears.proofs.HeadsByLowpoints.{IsPlacedByLow, begins_or_not}
use Rattle.gadag_ears.proofs.MarkedAlong.{link_there}
use Rattle.gadag_ears.proofs.MarksGrown.{is_link_or_not}
use Rattle.gadag_ears.proofs.SearchFacts.{AreFacts}
use Rattle.gadag_ears.proofs.TurnsKept.{all_kept, link_of_next, ready}

-- an ear, with the way that it takes
pub record IsKnown (g : Topology) (root : ℕ) (tree : List TreeNode) (ear : Ear) : Type 0 where
  pub listed : List ℕ
  pub x : ℕ
  pub way : IsUnderWay g root tree listed x ear

pub way_of : (g : Topology) (root : ℕ) (tree : List TreeNode) (over : List ℕ) (x : ℕ) (later : List ℕ) (ears : List Ear) (ear : Ear) → AreFacts g root tree
    → IsEarOrder g root tree over x later ears → IsNextEar g tree (over ++ x ∷ later) x ear → IsUnderWay g root tree (over ++ x ∷ later) x ear
way_of g root tree over x later ears ear facts ordered next =
    under_way g root tree (over ++ x ∷ later) x ear facts (ready g tree over x later (all_kept g root tree over x later ears facts ordered)) next

pub known : (g : Topology) (root : ℕ) (tree : List TreeNode) (over : List ℕ) (x : ℕ) (later : List ℕ) (ears : List Ear) → AreFacts g root tree
    → IsEarOrder g root tree over x later ears → (ear : Ear) → Contains ears ear → IsKnown g root tree ear
known g root tree over x later ears facts Begun ear c = absurd (contains_none ear c)
known g root tree over x later ears facts (Grown over' x' later' ears' ear' before next) ear c = elim (contains_cases ear' ear ears' c) [
  | inl same ↦ subst (λ (d : Ear). IsKnown g root tree d) (sym same)
      (record { listed = over' ++ x' ∷ later'; x = x'; way = way_of g root tree over' x' later' ears' ear' facts before next })
  | inr old ↦ known g root tree over' x' later' ears' facts before ear old
]
known g root tree over x later ears facts (Turned over' x' y later' ears' before done) ear c = known g root tree over' x' (y ∷ later') ears' facts before ear c

-- an ear that begins the block of a node
pub record IsBegunBy (ears : List Ear) (places : List Place) (v : ℕ) : Type 0 where
  pub ear : Ear
  pub among : Contains ears ear
  pub begins : BeginsBlock ear
  pub block : block_at places v ≡ Some ear.first

pub begun_by : (g : Topology) (root : ℕ) (tree : List TreeNode) (places : List Place) (all : List Ear) (over : List ℕ) (x : ℕ) (later : List ℕ) (ears : List Ear)
    → AreFacts g root tree → ArePlaces root all places → ((v : ℕ) → v < length g.ids → block_at places v ≡ Some root → v ≡ root)
    → ((v : ℕ) → Contains (over ++ x ∷ later) v → v < length g.ids)
    → ((ear : Ear) → Contains ears ear → Contains all ear) → IsEarOrder g root tree over x later ears
    → (v : ℕ) → Contains (over ++ x ∷ later) v → v ≢ root → IsBegunBy all places v
begun_by g root tree places all over x later ears facts placed alone within sub Begun v c other = elim (contains_cases root v [] c) [
  | inl same ↦ absurd (other same)
  | inr none ↦ absurd (contains_none v none)
]
begun_by g root tree places all over x later ears facts placed alone within sub (Grown over' x' later' ears' ear' before next) v c other =
    let way = way_of g root tree over' x' later' ears' ear' facts before next in
    let among : Contains all ear' = sub ear' (contains_first ear' ears') in
    let kept = all_kept g root tree over' x' later' ears' facts before in
    let sub' : (ear : Ear) → Contains ears' ear → Contains all ear = λ ear old. sub ear (contains_later ear' ear ears' old) in
    elim (put_cases over' x' later' (new_nodes ear') v c) [
      | inr old ↦ begun_by g root tree places all over' x' later' ears' facts placed alone kept.within sub' before v old other
      | inl new ↦ elim (begins_or_not ear') [
        | inl begins ↦ record { ear = ear'; among = among; begins = begins; block = (placed.of_block ear' v among new begins).1 }
        | inr joins ↦
            let joined = placed.of_stop ear' v among new joins in
            let not_root : ear'.stop ≢ root = λ same. other (alone v (within v c) (joined.1 ∙ ap (λ (w : ℕ). block_at places w) same ∙ placed.of_root.1)) in
            let it = begun_by g root tree places all over' x' later' ears' facts placed alone kept.within sub' before ear'.stop way.brings.stop_in not_root in
            record { ear = it.ear; among = it.among; begins = it.begins; block = joined.1 ∙ it.block }
      ]
    ]
begun_by g root tree places all over x later ears facts placed alone within sub (Turned over' x' y later' ears' before done) v c other =
    let kept = all_kept g root tree over' x' (y ∷ later') ears' facts before in
    begun_by g root tree places all over' x' (y ∷ later') ears' facts placed alone kept.within sub before v
    (subst (λ (xs : List ℕ). Contains xs v) (turned over' x' y later') c) other

-- ears with the same first node are one
pub one_first : (g : Topology) (root : ℕ) (tree : List TreeNode) (over : List ℕ) (x : ℕ) (later : List ℕ) (ears : List Ear) → AreFacts g root tree
    → IsEarOrder g root tree over x later ears → (d e : Ear) → Contains ears d → Contains ears e → d.first ≡ e.first → d ≡ e
one_first g root tree over x later ears facts Begun d e d_in e_in same = absurd (contains_none d d_in)
one_first g root tree over x later ears facts (Grown over' x' later' ears' ear' before next) d e d_in e_in same =
    let in_list = ears_in g root tree over' x' later' ears' facts before in
    let way = way_of g root tree over' x' later' ears' ear' facts before next in
    let apart : (f : Ear) → Contains ears' f → f.first ≡ ear'.first → ⊥ = λ f old alike.
    way.brings.outside ear'.first (contains_first ear'.first ear'.others)
    (subst (λ (v : ℕ). Contains (over' ++ x' ∷ later') v) alike (in_list.new_in f f.first old (contains_first f.first f.others))) in
    elim (contains_cases ear' d ears' d_in) [
      | inl d_is ↦ elim (contains_cases ear' e ears' e_in) [
        | inl e_is ↦ d_is ∙ sym e_is
        | inr e_old ↦ absurd (apart e e_old (sym same ∙ ap (λ (f : Ear). f.first) d_is))
      ]
      | inr d_old ↦ elim (contains_cases ear' e ears' e_in) [
        | inl e_is ↦ absurd (apart d d_old (same ∙ ap (λ (f : Ear). f.first) e_is))
        | inr e_old ↦ one_first g root tree over' x' later' ears' facts before d e d_old e_old same
      ]
    ]
one_first g root tree over x later ears facts (Turned over' x' y later' ears' before done) d e d_in e_in same =
    one_first g root tree over' x' (y ∷ later') ears' facts before d e d_in e_in same

-- from its last new node an ear goes on to where it stops
pub last_next : (g : Topology) (tree : List TreeNode) (kind : EarKind) (listed : List ℕ) (v : ℕ) (us : List ℕ) (stop : ℕ) → GoesOn g tree kind listed v us stop
    → next_node g tree kind (last_node v us) ≡ Some stop
last_next g tree kind listed v [] stop goes = goes.0
last_next g tree kind listed v (u ∷ us) stop goes = last_next g tree kind listed u us stop goes.2

-- the last link of an ear that begins a block lies in that block
pub record IsLastLink (g : Topology) (tree : List TreeNode) (marks : List Mark) (ear : Ear) : Type 0 where
  pub link : ℕ
  pub last : IsLastOfBlock tree ear link
  pub block : link_block_at marks link ≡ Some ear.first

pub last_link : (g : Topology) (root : ℕ) (tree : List TreeNode) (ears : List Ear) (ear : Ear) (places : List Place) (marks : List Mark) → AreFacts g root tree
    → ((v p : ℕ) → v < length g.ids → parent_of g tree v ≡ Some p → IsPlacedByLow g tree places v p) → ArePlaces root ears places
    → ((e : ℕ) → e < length g.links → LiesInBlock g places marks e) → Contains ears ear → BeginsBlock ear → IsKnown g root tree ear → IsLastLink g tree marks ear
last_link g root tree ears ear places marks facts by_low placed blocks among begins it =
    let last = last_node ear.first ear.others in
    let over = link_of_next g tree ear.kind last ear.stop (last_next g tree ear.kind it.listed ear.first ear.others ear.stop it.way.next.onward) in
    let to : leads g.links over.0 last ≡ Some ear.start = over.2 ∙ ap (λ (w : ℕ). Some w) begins.1 in
    let there = link_there g over.0 last ear.start to in
    let lies = blocks over.0 there.within in
    let has = placed.of_block ear last among (last_in ear.first ear.others) begins in
    let both = facts.leads_within over.0 last ear.start to in
    let same : lies.block ≡ ear.first = one_common_block g root tree places last ear.start lies.block ear.first facts by_low placed.of_root.0 both.0 both.1
    (leads_elsewhere g over.0 last ear.start facts.kept to) (lies.common last ear.start to) (SecondIsHead has.1 has.0) in
    record { link = over.0; last = record { begins = begins; last = over.1 }; block = lies.is ∙ ap (λ (w : ℕ). Some w) same }

-- whether a link is the last one of an ear that begins a block
pub record IsOfSome (tree : List TreeNode) (ears : List Ear) (e : ℕ) : Type 0 where
  pub ear : Ear
  pub among : Contains ears ear
  pub last : IsLastOfBlock tree ear e

pub last_or_not : (tree : List TreeNode) (ears : List Ear) (e : ℕ) → IsOfSome tree ears e ⊎ ((ear : Ear) → Contains ears ear → ¬ IsLastOfBlock tree ear e)
last_or_not tree [] e = inr (λ ear none. absurd (contains_none ear none))
last_or_not tree (d ∷ ds) e = elim (last_or_not tree ds e) [
  | inl it ↦ inl (record { ear = it.ear; among = contains_later d it.ear ds it.among; last = it.last })
  | inr nowhere ↦ elim (begins_or_not d) [
    | inr joins ↦ inr (λ ear c last. elim (contains_cases d ear ds c) [
      | inl same ↦ joins (subst (λ (f : Ear). BeginsBlock f) same last.begins)
      | inr old ↦ nowhere ear old last
    ])
    | inl begins ↦ elim (is_link_or_not (onward_link d.kind tree (last_node d.first d.others)) e) [
      | inl is ↦ inl (record { ear = d; among = contains_first d ds; last = record { begins = begins; last = is } })
      | inr differs ↦ inr (λ ear c last. elim (contains_cases d ear ds c) [
        | inl same ↦ differs (subst (λ (f : Ear). onward_link f.kind tree (last_node f.first f.others) ≡ Some e) same last.last)
        | inr old ↦ nowhere ear old last
      ])
    ]
  ]
]

-- a link that has a block is there
pub block_there : (marks : List Mark) (e k : ℕ) → link_block_at marks e ≡ Some k → e < length marks
block_there marks e k is = go (slice_get marks e) refl is
  where
    go : (o : Option Mark) → slice_get marks e ≡ o → option_map (λ mark. mark.block) o ≡ Some k → e < length marks
    go None found is = cc
    go (Some mark) found is = slice_get_within marks e mark found

-- the ear that begins block k, with its last link; all other links of the block are plain
pub record IsBegunBlock (g : Topology) (root : ℕ) (tree : List TreeNode) (ears : List Ear) (marks : List Mark) (k : ℕ) : Type 0 where
  pub ear : Ear
  pub among : Contains ears ear
  pub begins : BeginsBlock ear
  pub names : ear.first ≡ k
  pub way : IsKnown g root tree ear
  pub last : IsLastLink g tree marks ear
  pub others : (e : ℕ) → link_block_at marks e ≡ Some k → (e ≡ last.link) ⊎ (role_at marks e ≡ Some Plain)

pub begun_block : (g : Topology) (root : ℕ) (tree : List TreeNode) (gadag : GadagLists) → AreFacts g root tree → (it : IsGadag g root tree gadag)
    → (v k : ℕ) → v < length g.ids → v ≢ root → block_at gadag.places v ≡ Some k → IsBegunBlock g root tree it.ears gadag.marks k
begun_block g root tree gadag facts it v k within other block =
    let by_low = placed_by_low g root tree gadag.order it.ears gadag.places facts it.are_ears it.places in
    let alone : (w : ℕ) → w < length g.ids → block_at gadag.places w ≡ Some root → w ≡ root = λ w in_graph is. root_alone g root tree gadag.places w facts by_low in_graph is in
    let kept = all_kept g root tree it.are_ears.before it.are_ears.last [] it.ears facts it.are_ears.ordered in
    let here = begun_by g root tree gadag.places it.ears it.are_ears.before it.are_ears.last [] it.ears facts it.places alone kept.within (λ ear c. c)
    it.are_ears.ordered v (subst (λ (xs : List ℕ). Contains xs v) it.are_ears.whole (each_listed g root tree gadag.order it.ears facts it.are_ears v within)) other in
    let is_k : here.ear.first ≡ k = same_Some here.ear.first k (sym here.block ∙ block) in
    let way : (ear : Ear) → Contains it.ears ear → IsKnown g root tree ear = λ ear among.
    known g root tree it.are_ears.before it.are_ears.last [] it.ears facts it.are_ears.ordered ear among in
    let last = last_link g root tree it.ears here.ear gadag.places gadag.marks facts by_low it.places it.marks.blocks here.among here.begins (way here.ear here.among) in
    record {
      ear = here.ear;
      among = here.among;
      begins = here.begins;
      names = is_k;
      way = way here.ear here.among;
      last = last;
      others = λ d of. elim (last_or_not tree it.ears d) [
        | inr none ↦ inr (it.marks.roles.others d (omega (arith, block_there gadag.marks d k of, it.marks.one_each)) none)
        | inl some ↦
            let its = last_link g root tree it.ears some.ear gadag.places gadag.marks facts by_low it.places it.marks.blocks some.among some.last.begins (way some.ear some.among) in
            let d_is : its.link ≡ d = same_Some its.link d (sym its.last.last ∙ some.last.last) in
            let first : some.ear.first ≡ k = same_Some some.ear.first k (sym its.block ∙ ap (λ (e : ℕ). link_block_at gadag.marks e) d_is ∙ of) in
            let same = one_first g root tree it.are_ears.before it.are_ears.last [] it.ears facts it.are_ears.ordered some.ear here.ear some.among here.among
            (first ∙ sym is_k) in
            inl (same_Some d last.link (sym (subst (λ (f : Ear). onward_link f.kind tree (last_node f.first f.others) ≡ Some d) same some.last.last) ∙ last.last.last))
      ];
    }

-- no link lies in the root's block
pub none_in_root : (g : Topology) (root : ℕ) (tree : List TreeNode) (gadag : GadagLists) → AreFacts g root tree → IsGadag g root tree gadag
    → (e u v : ℕ) → leads g.links e u ≡ Some v → link_block_at gadag.marks e ≢ Some root
none_in_root g root tree gadag facts it e u v to is =
    let by_low = placed_by_low g root tree gadag.order it.ears gadag.places facts it.are_ears it.places in
    let alone : (w : ℕ) → w < length g.ids → block_at gadag.places w ≡ Some root → w ≡ root = λ w in_graph is. root_alone g root tree gadag.places w facts by_low in_graph is in
    let lies = it.marks.blocks e (link_there g e u v to).within in
    let both = facts.leads_within e u v to in
    let differ = leads_elsewhere g e u v facts.kept to in
    let common : IsCommonBlock gadag.places u v root = subst (λ (k : ℕ). IsCommonBlock gadag.places u v k) (same_Some lies.block root (sym lies.is ∙ is)) (lies.common u v to) in
    go both.0 both.1 differ alone common
  where
    headed : (w h : ℕ) → w ≡ root → head_at gadag.places w ≡ Some h → h ≡ root
    headed w h same head = same_Some h root (sym head ∙ ap (λ (x : ℕ). head_at gadag.places x) same ∙ it.places.of_root.0)

    go : u < length g.ids → v < length g.ids → u ≢ v → ((w : ℕ) → w < length g.ids → block_at gadag.places w ≡ Some root → w ≡ root)
        → IsCommonBlock gadag.places u v root → ⊥
    go u_in v_in differ alone (OfBoth one two) = differ (alone u u_in one ∙ sym (alone v v_in two))
    go u_in v_in differ alone (FirstIsHead block head) = let v_is = alone v v_in block in differ (headed v u v_is head ∙ sym v_is)
    go u_in v_in differ alone (SecondIsHead block head) = let u_is = alone u u_in block in differ (u_is ∙ sym (headed u v u_is head))
