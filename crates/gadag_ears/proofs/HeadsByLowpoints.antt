-- Heads and blocks as lowpoints tell them.
use Rattle.std.proofs.Common.{◌≡◌, ◌≢◌, ◌⊎◌, ◌<◌, ◌≤◌, ◌++◌, ◌∙◌, ℕ, List, [], ◌∷◌, Some, length, inl, inr, refl, sym, ap, subst, arith}
use Rattle.std.specs.Prelude.{Contains}
use Rattle.std.proofs.lemmas.Bool.{cases_eq, cases_lt}
use Rattle.mrt_graph.specs.declared.gadag.Place.{Place}
use Rattle.mrt_graph.specs.declared.tree.TreeNode.{TreeNode}
use Rattle.mrt_graph.specs.GadagFields.{block_at, head_at}
use Rattle.mrt_graph.specs.Leads.{leads}
use Rattle.mrt_graph.specs.Topology.{Topology}
use Rattle.mrt_graph.specs.TreeFields.{search_number, low_of, parent_link}
use Rattle.mrt_graph.proofs.Hops.{lead_back, same_ends}
use Rattle.mrt_graph.proofs.Members.{contains_cases, contains_first, contains_later, contains_none}
use Rattle.lowpoint_dfs.specs.Subtree.{Below, IsInSubtree, Itself, parent_of}
use Rattle.gadag_ears.specs.declared.kind.EarKind.{EarKind}
use Rattle.gadag_ears.specs.declared.kind.EarKind.TheVariants.{Child, Neighbour}
use Rattle.gadag_ears.specs.Ear.{Ear, new_nodes}
use Rattle.gadag_ears.specs.EarOrder.{Begun, Grown, IsEarOrder, Turned}
use Rattle.gadag_ears.specs.HeadAndBlock.{ArePlaces, BeginsBlock, HasPlace, IsPlacedAs}
use Rattle.gadag_ears.proofs.CutLists.{in_turn, put_cases, turned}
use Rattle.gadag_ears.proofs.NextEar.{FromNew, FromStart, FromStop, Heads, IsHung}
use Rattle.gadag_ears.proofs.SearchFacts.{AreFacts, hangs_below, one_parent, parent_above, rises}
use Rattle.gadag_ears.proofs.TurnsKept.{AreKept, all_kept, brought_at, ends_ahead}

-- where a node's lowpoint is at least its parent's number, the parent is its head, and the block is named by the node; else
-- head and block are those of the parent
pub record IsPlacedByLow (g : Topology) (tree : List TreeNode) (places : List Place) (v p : ℕ) : Type 0 where
  pub heads : search_number tree p ≤ low_of tree v → HasPlace places v p v
  pub joins : low_of tree v < search_number tree p → IsPlacedAs places v p

pub placed_on : (places : List Place) (u v w : ℕ) → IsPlacedAs places u v → IsPlacedAs places v w → IsPlacedAs places u w
placed_on places u v w first second = (first.0 ∙ second.0, first.1 ∙ second.1)

pub placed_back : (places : List Place) (u v : ℕ) → IsPlacedAs places u v → IsPlacedAs places v u
placed_back places u v same = (sym same.0, sym same.1)

has_placed : (places : List Place) (u v h b : ℕ) → HasPlace places u h b → HasPlace places v h b → IsPlacedAs places u v
has_placed places u v h b one other = (one.0 ∙ sym other.0, one.1 ∙ sym other.1)

-- the nodes of a list that are placed by lowpoints
abbrev pub ArePlacedByLow : Topology → List TreeNode → List Place → (ℕ → Type 0) → Type 0
ArePlacedByLow g tree places Listed = (v p : ℕ) → Listed v → parent_of g tree v ≡ Some p → IsPlacedByLow g tree places v p

-- a node below a, whose turn is to come, with a lowpoint of at most a's number is placed as a
pub placed_as_above : (g : Topology) (root : ℕ) (tree : List TreeNode) (places : List Place) (over : List ℕ) (x : ℕ) (later : List ℕ) (a v : ℕ)
    → AreFacts g root tree → AreKept g tree over x later → ArePlacedByLow g tree places (Contains (over ++ x ∷ later))
    → Contains later a → Contains (over ++ x ∷ later) v → IsInSubtree g tree a v → low_of tree v ≤ search_number tree a → IsPlacedAs places v a
placed_as_above g root tree places over x later a v facts kept by_low to_come inside Itself low = (refl, refl)
placed_as_above g root tree places over x later a v facts kept by_low to_come inside (Below w p is rest) low =
    let p_in = kept.closed w p inside is in
    let lower : low_of tree w < search_number tree p = elim (hangs_below g tree a p rest) [
      | inl same ↦ kept.waits w p inside is (subst (λ (y : ℕ). Contains later y) same to_come)
      | inr it ↦ omega (arith, low, facts.falls p it.parent it.is, rises g root tree a it.parent facts it.below)
    ] in
    placed_on places w p a ((by_low w p inside is).joins lower)
    (placed_as_above g root tree places over x later a p facts kept by_low to_come p_in rest (omega (arith, low, facts.by_child w p is)))

-- the new nodes of one ear have one place
pub new_alike : (root : ℕ) (ears : List Ear) (places : List Place) (ear : Ear) (u v : ℕ) → ArePlaces root ears places → Contains ears ear
    → Contains (new_nodes ear) u → Contains (new_nodes ear) v → (BeginsBlock ear ⊎ (¬ BeginsBlock ear)) → IsPlacedAs places u v
new_alike root ears places ear u v are there u_new v_new cases = elim cases [
  | inl begins ↦ has_placed places u v ear.start ear.first (are.of_block ear u there u_new begins) (are.of_block ear v there v_new begins)
  | inr joins ↦ placed_on places u ear.stop v (are.of_stop ear u there u_new joins) (placed_back places v ear.stop (are.of_stop ear v there v_new joins))
]

child_or_not : (kind : EarKind) → (kind ≡ Child) ⊎ (kind ≡ Child → ⊥)
child_or_not Child = inl refl
child_or_not Neighbour = inr (λ same. cc)

pub begins_or_not : (ear : Ear) → BeginsBlock ear ⊎ (¬ BeginsBlock ear)
begins_or_not ear = elim (cases_eq ear.stop ear.start) [
  | inr other ↦ inr (λ begins. other begins.1)
  | inl same ↦ elim (child_or_not ear.kind) [ inl child ↦ inl (child, same) | inr neighbour ↦ inr (λ begins. neighbour begins.0) ]
]

-- a new node is placed by its lowpoint
hung_placed : (g : Topology) (root : ℕ) (tree : List TreeNode) (places : List Place) (all : List Ear) (over : List ℕ) (later : List ℕ) (ear : Ear) (v p : ℕ)
    → AreFacts g root tree → AreKept g tree over ear.start later → ArePlaces root all places → Contains all ear
    → ArePlacedByLow g tree places (Contains (over ++ ear.start ∷ later)) → ((ear.stop ≡ ear.start) ⊎ Contains later ear.stop)
    → Contains (new_nodes ear) v → parent_of g tree v ≡ Some p → IsHung g tree ear v → IsPlacedByLow g tree places v p
hung_placed g root tree places all over later ear v p facts kept are there by_low ahead new is (FromNew q so inside low) =
    let same : q ≡ p = one_parent g tree v q p so is in
    let lower : low_of tree v < search_number tree p = subst (λ (w : ℕ). low_of tree v < search_number tree w) same low in
    record {
      heads = λ high. absurd (omega (arith, high, lower));
      joins = λ _. new_alike root all places ear v p are there new (subst (λ (w : ℕ). Contains (new_nodes ear) w) same inside) (begins_or_not ear);
    }
hung_placed g root tree places all over later ear v p facts kept are there by_low ahead new is (FromStop so other low) =
    let same : ear.stop ≡ p = one_parent g tree v ear.stop p so is in
    let lower : low_of tree v < search_number tree p = subst (λ (w : ℕ). low_of tree v < search_number tree w) same low in
    record {
      heads = λ high. absurd (omega (arith, high, lower));
      joins = λ _. subst (λ (w : ℕ). IsPlacedAs places v w) same (are.of_stop ear v there new (λ begins. other begins.1));
    }
hung_placed g root tree places all over later ear v p facts kept are there by_low ahead new is (FromStart so other low above) =
    let same : ear.start ≡ p = one_parent g tree v ear.start p so is in
    let further : search_number tree ear.stop < search_number tree ear.start = elim (hangs_below g tree ear.stop ear.start above) [
      | inl it ↦ absurd (other it)
      | inr it ↦ omega (arith, facts.falls ear.start it.parent it.is, rises g root tree ear.stop it.parent facts it.below)
    ] in
    let to_come : Contains later ear.stop = elim ahead [ inl it ↦ absurd (other it) | inr it ↦ it ] in
    let low_start : low_of tree ear.start ≤ search_number tree ear.stop = omega (arith, facts.by_child v ear.start so, low) in
    record {
      heads = λ high. absurd (omega (arith, high, low, further, ap (λ (w : ℕ). search_number tree w) same));
      joins = λ _. subst (λ (w : ℕ). IsPlacedAs places v w) same
          (placed_on places v ear.stop ear.start (are.of_stop ear v there new (λ begins. other begins.1))
          (placed_back places ear.start ear.stop
          (placed_as_above g root tree places over ear.start later ear.stop ear.start facts kept by_low to_come (in_turn over ear.start later) above low_start)));
    }
hung_placed g root tree places all over later ear v p facts kept are there by_low ahead new is (Heads first so kind same_stop high) =
    let same : ear.start ≡ p = one_parent g tree v ear.start p so is in
    let place : HasPlace places v ear.start ear.first = are.of_block ear v there new (kind, same_stop) in
    record {
      heads = λ _. (place.0 ∙ ap (λ (w : ℕ). Some w) same, place.1 ∙ ap (λ (w : ℕ). Some w) (sym first));
      joins = λ low. absurd (omega (arith, low, high, ap (λ (w : ℕ). search_number tree w) same));
    }

-- all listed nodes are placed by their lowpoints
pub heads_all : (g : Topology) (root : ℕ) (tree : List TreeNode) (places : List Place) (all : List Ear) (over : List ℕ) (x : ℕ) (later : List ℕ) (ears : List Ear)
    → AreFacts g root tree → ArePlaces root all places → IsEarOrder g root tree over x later ears → ((ear : Ear) → Contains ears ear → Contains all ear)
    → ArePlacedByLow g tree places (Contains (over ++ x ∷ later))
heads_all g root tree places all over x later ears facts are Begun some v p inside is = elim (contains_cases root v [] inside) [
  | inl same ↦ absurd (facts.no_parent p (subst (λ (w : ℕ). parent_of g tree w ≡ Some p) same is))
  | inr none ↦ absurd (contains_none v none)
]
heads_all g root tree places all over x later ears facts are (Grown over' x' later' ears' ear before next) some v p inside is =
    let kept = all_kept g root tree over' x' later' ears' facts before in
    let by_low = heads_all g root tree places all over' x' later' ears' facts are before (λ e c. some e (contains_later ear e ears' c)) in
    let there = some ear (contains_first ear ears') in
    let brings = brought_at g root tree over' x' later' ear facts kept next in
    let ahead = ends_ahead g root tree over' x' later' ear facts kept next in
    elim (put_cases over' x' later' (new_nodes ear) v inside) [
      | inr old ↦ by_low v p old is
      | inl new ↦ hung_placed g root tree places all over' later' ear v p facts
          (subst (λ (w : ℕ). AreKept g tree over' w later') (sym next.from) kept) are there
          (subst (λ (w : ℕ). ArePlacedByLow g tree places (Contains (over' ++ w ∷ later'))) (sym next.from) by_low)
          (elim ahead [ inl same ↦ inl (same ∙ sym next.from) | inr to_come ↦ inr to_come ]) new is (brings.hung v new)
    ]
heads_all g root tree places all over x later ears facts are (Turned over' x' y later' ears' before done) some v p inside is =
    heads_all g root tree places all over' x' (y ∷ later') ears' facts are before some v p
    (subst (λ (xs : List ℕ). Contains xs v) (turned over' x' y later') inside) is

-- a node below u on the way to a node with a link to u is in u's block, or u is its head
pub below_head : (g : Topology) (root : ℕ) (tree : List TreeNode) (places : List Place) (u w e d : ℕ) → AreFacts g root tree
    → ((v p : ℕ) → v < length g.ids → parent_of g tree v ≡ Some p → IsPlacedByLow g tree places v p)
    → leads g.links e w ≡ Some u → IsInSubtree g tree u d → IsInSubtree g tree d w → d ≢ u
    → (block_at places d ≡ block_at places u) ⊎ (head_at places d ≡ Some u)
below_head g root tree places u w e d facts by_low onward Itself under other = absurd (other refl)
below_head g root tree places u w e d facts by_low onward (Below x p is above) under other =
    let place = by_low x p (facts.parent_within x p is).0 is in
    elim (cases_eq p u) [
      | inl same ↦ elim (cases_lt (low_of tree x) (search_number tree p)) [
        | inl low ↦ inl ((place.joins low).1 ∙ ap (λ (y : ℕ). block_at places y) same)
        | inr high ↦ inr ((place.heads high).0 ∙ ap (λ (y : ℕ). Some y) same)
      ]
      | inr further ↦
          let not_over : parent_link tree x ≢ Some e = λ over.
          let up : leads g.links e x ≡ Some p = rw over at is in
          elim (same_ends g.links e x p u w up (lead_back g.links e w u onward)) [ inl at_x ↦ other (sym at_x) | inr at_p ↦ further (sym at_p) ] in
          let strictly : search_number tree u < search_number tree p = elim (hangs_below g tree u p above) [
            | inl it ↦ absurd (further (sym it))
            | inr it ↦ omega (arith, facts.falls p it.parent it.is, rises g root tree u it.parent facts it.below)
          ] in
          let low : low_of tree x < search_number tree p = omega (arith, facts.by_link x w e u (facts.parent_within x p is).0 under not_over onward, strictly) in
          let same_place = place.joins low in
          elim (below_head g root tree places u w e p facts by_low onward above (parent_above g tree x p w is under) further) [
            | inl same ↦ inl (same_place.1 ∙ same)
            | inr head ↦ inr (same_place.0 ∙ head)
          ]
    ]
