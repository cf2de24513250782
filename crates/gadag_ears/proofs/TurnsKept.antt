-- What holds at each turn of the ear order.
use Rattle.std.proofs.Common.{◌≡◌, ◌⊎◌, ◌<◌, ◌≤◌, ◌++◌, ℕ, List, [], ◌∷◌, Option, Some, None, length, inl, inr, refl, sym, ap, subst, arith}
use Rattle.std.specs.Option.{option_and_then}
use Rattle.std.specs.Prelude.{Contains}
use Rattle.std.proofs.lemmas.List.Elements.{Contains-append_cases}
use Rattle.mrt_graph.specs.declared.tree.TreeNode.{TreeNode}
use Rattle.mrt_graph.specs.Leads.{leads}
use Rattle.mrt_graph.specs.Topology.{Topology}
use Rattle.mrt_graph.specs.TreeFields.{search_number, low_of}
use Rattle.mrt_graph.proofs.EndsAt.{IsEndOver, leads_end}
use Rattle.mrt_graph.proofs.Hops.{lead_back}
use Rattle.mrt_graph.proofs.Members.{contains_cases, contains_first, contains_later, contains_none, listed_or_not}
use Rattle.lowpoint_dfs.specs.SearchOrder.{IsDone}
use Rattle.lowpoint_dfs.specs.Subtree.{parent_of}
use Rattle.gadag_ears.specs.declared.kind.EarKind.{EarKind}
use Rattle.gadag_ears.specs.Ear.{Ear, GoesOn, IsNextEar, last_node, new_nodes, next_node, onward_link}
use Rattle.gadag_ears.specs.EarOrder.{Begun, Grown, IsEarOrder, Turned}
use Rattle.gadag_ears.proofs.CutLists.{After, Before, Here, StandsIn, in_turn, kept_in, not_after, put_cases, put_in, stands_in, times_put, turned}
use Rattle.gadag_ears.proofs.NextEar.{FromNew, FromStart, FromStop, Heads, IsBrought, IsHung, IsClosedUp, brought}
use Rattle.gadag_ears.proofs.Once.{none_of, one_alone, times}
use Rattle.gadag_ears.proofs.SearchFacts.{AreFacts, one_parent}

-- of the list cut at x: it is closed under parents; the nodes whose turn is over have all neighbours in it; and a node whose
-- parent's turn is to come has a lowpoint above that parent
pub record AreKept (g : Topology) (tree : List TreeNode) (over : List ℕ) (x : ℕ) (later : List ℕ) : Type 0 where
  pub within : (v : ℕ) → Contains (over ++ x ∷ later) v → v < length g.ids
  pub once : (v : ℕ) → times v (over ++ x ∷ later) ≤ 1
  pub closed : (v p : ℕ) → Contains (over ++ x ∷ later) v → parent_of g tree v ≡ Some p → Contains (over ++ x ∷ later) p
  pub neighbours : (u e v : ℕ) → Contains over u → leads g.links e u ≡ Some v → Contains (over ++ x ∷ later) v
  pub waits : (v p : ℕ) → Contains (over ++ x ∷ later) v → parent_of g tree v ≡ Some p → Contains later p → low_of tree v < search_number tree p

pub ready : (g : Topology) (tree : List TreeNode) (over : List ℕ) (x : ℕ) (later : List ℕ) → AreKept g tree over x later → IsClosedUp g tree (over ++ x ∷ later) x
ready g tree over x later kept = record { in_list = in_turn over x later; closed = kept.closed }

kept_begun : (g : Topology) (root : ℕ) (tree : List TreeNode) → AreFacts g root tree → AreKept g tree [] root []
kept_begun g root tree facts = record {
  within = λ v c. elim (contains_cases root v [] c) [
    | inl same ↦ subst (λ (w : ℕ). w < length g.ids) (sym same) facts.root_within
    | inr none ↦ absurd (contains_none v none)
  ];
  once = one_alone root;
  closed = λ v p c parent. elim (contains_cases root v [] c) [
    | inl same ↦ absurd (facts.no_parent p (subst (λ (w : ℕ). parent_of g tree w ≡ Some p) same parent))
    | inr none ↦ absurd (contains_none v none)
  ];
  neighbours = λ u e v none onward. absurd (contains_none u none);
  waits = λ v p c parent none. absurd (contains_none p none);
}

-- the parent of a new node is in the list with the new nodes
hung_closed : (g : Topology) (tree : List TreeNode) (over : List ℕ) (later : List ℕ) (ear : Ear) (v p : ℕ)
    → IsBrought g tree (over ++ ear.start ∷ later) ear → IsHung g tree ear v → parent_of g tree v ≡ Some p
    → Contains (over ++ ear.start ∷ (new_nodes ear ++ later)) p
hung_closed g tree over later ear v p brings hung is = by hung
  where
    start_in : Contains (over ++ ear.start ∷ (new_nodes ear ++ later)) ear.start
    start_in = in_turn over ear.start (new_nodes ear ++ later)

    by : IsHung g tree ear v → Contains (over ++ ear.start ∷ (new_nodes ear ++ later)) p
    by (FromNew q so new low) = put_in over ear.start later (new_nodes ear) p (subst (λ (w : ℕ). Contains (new_nodes ear) w) (one_parent g tree v q p so is) new)
    by (FromStop so other low) = kept_in over ear.start later (new_nodes ear) p (subst (λ (w : ℕ). Contains (over ++ ear.start ∷ later) w) (one_parent g tree v ear.stop p so is) brings.stop_in)
    by (FromStart so other low above) = subst (λ (w : ℕ). Contains (over ++ ear.start ∷ (new_nodes ear ++ later)) w) (one_parent g tree v ear.start p so is) start_in
    by (Heads first so kind same low) = subst (λ (w : ℕ). Contains (over ++ ear.start ∷ (new_nodes ear ++ later)) w) (one_parent g tree v ear.start p so is) start_in

-- a new node whose parent's turn is to come has a lowpoint above that parent
hung_waits : (g : Topology) (tree : List TreeNode) (over : List ℕ) (later : List ℕ) (ear : Ear) (v p : ℕ)
    → (Contains (new_nodes ear ++ later) ear.start → ⊥) → IsHung g tree ear v → parent_of g tree v ≡ Some p
    → Contains (new_nodes ear ++ later) p → low_of tree v < search_number tree p
hung_waits g tree over later ear v p not_start hung is inside = by hung
  where
    at_start : parent_of g tree v ≡ Some ear.start → ⊥
    at_start so = not_start (subst (λ (w : ℕ). Contains (new_nodes ear ++ later) w) (one_parent g tree v p ear.start is so) inside)

    by : IsHung g tree ear v → low_of tree v < search_number tree p
    by (FromNew q so new low) = omega (arith, low, ap (λ (w : ℕ). search_number tree w) (one_parent g tree v q p so is))
    by (FromStop so other low) = omega (arith, low, ap (λ (w : ℕ). search_number tree w) (one_parent g tree v ear.stop p so is))
    by (FromStart so other low above) = absurd (at_start so)
    by (Heads first so kind same low) = absurd (at_start so)

kept_grown : (g : Topology) (root : ℕ) (tree : List TreeNode) (over : List ℕ) (later : List ℕ) (ear : Ear) → AreFacts g root tree
    → AreKept g tree over ear.start later → IsBrought g tree (over ++ ear.start ∷ later) ear → AreKept g tree over ear.start (new_nodes ear ++ later)
kept_grown g root tree over later ear facts kept brings = record {
  within = λ v c. elim (put_cases over ear.start later (new_nodes ear) v c) [
    | inl added ↦ hung_within v (brings.hung v added)
    | inr old ↦ kept.within v old
  ];
  once = once;
  closed = λ v p c parent. elim (put_cases over ear.start later (new_nodes ear) v c) [
    | inl added ↦ hung_closed g tree over later ear v p brings (brings.hung v added) parent
    | inr old ↦ kept_in over ear.start later (new_nodes ear) p (kept.closed v p old parent)
  ];
  neighbours = λ u e v c onward. kept_in over ear.start later (new_nodes ear) v (kept.neighbours u e v c onward);
  waits = λ v p c parent after. elim (put_cases over ear.start later (new_nodes ear) v c) [
    | inl added ↦ hung_waits g tree over later ear v p (not_after over ear.start (new_nodes ear ++ later) once) (brings.hung v added) parent after
    | inr old ↦ elim (Contains-append_cases (new_nodes ear) later p after) [
      | inl added ↦ absurd (brings.outside p added (kept.closed v p old parent))
      | inr still ↦ kept.waits v p old parent still
    ]
  ];
}
  where
    once : (v : ℕ) → times v (over ++ ear.start ∷ (new_nodes ear ++ later)) ≤ 1
    once v = elim (listed_or_not (new_nodes ear) v) [
      | inl added ↦ omega (arith, times_put over ear.start later (new_nodes ear) v, brings.once v, none_of v (over ++ ear.start ∷ later) (brings.outside v added))
      | inr other ↦ omega (arith, times_put over ear.start later (new_nodes ear) v, kept.once v, none_of v (new_nodes ear) other)
    ]

    hung_within : (v : ℕ) → IsHung g tree ear v → v < length g.ids
    hung_within v (FromNew p so inside low) = (facts.parent_within v p so).0
    hung_within v (FromStop so other low) = (facts.parent_within v ear.stop so).0
    hung_within v (FromStart so other low above) = (facts.parent_within v ear.start so).0
    hung_within v (Heads first so kind same low) = (facts.parent_within v ear.start so).0

-- no link of a node that is done leads outside
pub done_leads : (g : Topology) (root : ℕ) (tree : List TreeNode) (listed : List ℕ) (e u v : ℕ) → AreFacts g root tree → IsDone g listed u
    → leads g.links e u ≡ Some v → Contains listed v
done_leads g root tree listed e u v facts done touches =
    let it : IsEndOver done.ends e v = leads_end g u e v done.ends facts.kept done.list touches in
    subst (λ (w : ℕ). Contains listed w) it.to (done.all_inside it.place it.end it.at)

kept_turned : (g : Topology) (root : ℕ) (tree : List TreeNode) (over : List ℕ) (x y : ℕ) (later : List ℕ) → AreFacts g root tree
    → AreKept g tree over x (y ∷ later) → IsDone g (over ++ x ∷ y ∷ later) x → AreKept g tree (over ++ x ∷ []) y later
kept_turned g root tree over x y later facts kept done = record {
  within = λ v c. kept.within v (back v c);
  once = λ v. subst (λ (xs : List ℕ). times v xs ≤ 1) (sym (turned over x y later)) (kept.once v);
  closed = λ v p c parent. on p (kept.closed v p (back v c) parent);
  neighbours = λ u e v c onward. on v (elim (Contains-append_cases over (x ∷ []) u c) [
    | inl before ↦ kept.neighbours u e v before onward
    | inr last ↦ elim (contains_cases x u [] last) [
      | inl same ↦ done_leads g root tree (over ++ x ∷ y ∷ later) e x v facts done (subst (λ (w : ℕ). leads g.links e w ≡ Some v) same onward)
      | inr none ↦ absurd (contains_none u none)
    ]
  ]);
  waits = λ v p c parent after. kept.waits v p (back v c) parent (contains_later y p later after);
}
  where
    back : (v : ℕ) → Contains ((over ++ x ∷ []) ++ y ∷ later) v → Contains (over ++ x ∷ y ∷ later) v
    back v c = subst (λ (xs : List ℕ). Contains xs v) (turned over x y later) c

    on : (v : ℕ) → Contains (over ++ x ∷ y ∷ later) v → Contains ((over ++ x ∷ []) ++ y ∷ later) v
    on v c = subst (λ (xs : List ℕ). Contains xs v) (sym (turned over x y later)) c

-- an ear in the turn of x
pub brought_at : (g : Topology) (root : ℕ) (tree : List TreeNode) (over : List ℕ) (x : ℕ) (later : List ℕ) (ear : Ear) → AreFacts g root tree
    → AreKept g tree over x later → IsNextEar g tree (over ++ x ∷ later) x ear → IsBrought g tree (over ++ x ∷ later) ear
brought_at g root tree over x later ear facts kept next =
    brought g root tree (over ++ x ∷ later) x ear facts (ready g tree over x later kept) next

pub kept_next : (g : Topology) (root : ℕ) (tree : List TreeNode) (over : List ℕ) (x : ℕ) (later : List ℕ) (ear : Ear) → AreFacts g root tree
    → AreKept g tree over x later → IsNextEar g tree (over ++ x ∷ later) x ear → AreKept g tree over x (new_nodes ear ++ later)
kept_next g root tree over x later ear facts kept next =
    subst (λ (w : ℕ). AreKept g tree over w (new_nodes ear ++ later)) next.from
    (kept_grown g root tree over later ear facts (subst (λ (w : ℕ). AreKept g tree over w later) (sym next.from) kept)
    (subst (λ (w : ℕ). IsBrought g tree (over ++ w ∷ later) ear) (sym next.from) (brought_at g root tree over x later ear facts kept next)))

pub all_kept : (g : Topology) (root : ℕ) (tree : List TreeNode) (over : List ℕ) (x : ℕ) (later : List ℕ) (ears : List Ear) → AreFacts g root tree
    → IsEarOrder g root tree over x later ears → AreKept g tree over x later
all_kept g root tree over x later ears facts Begun = kept_begun g root tree facts
all_kept g root tree over x later ears facts (Grown over' x' later' ears' ear before next) =
    kept_next g root tree over' x' later' ear facts (all_kept g root tree over' x' later' ears' facts before) next
all_kept g root tree over x later ears facts (Turned over' x' y later' ears' before done) =
    kept_turned g root tree over' x' y later' facts (all_kept g root tree over' x' (y ∷ later') ears' facts before) done

-- an ear's last link
pub record IsLastLink (g : Topology) (tree : List TreeNode) (kind : EarKind) (v : ℕ) (us : List ℕ) (stop : ℕ) : Type 0 where
  pub link : ℕ
  pub is : onward_link kind tree (last_node v us) ≡ Some link
  pub onward : leads g.links link (last_node v us) ≡ Some stop
  pub new : Contains (v ∷ us) (last_node v us)

pub link_of_next : (g : Topology) (tree : List TreeNode) (kind : EarKind) (v w : ℕ) → next_node g tree kind v ≡ Some w
    → (e : ℕ) × (onward_link kind tree v ≡ Some e) × (leads g.links e v ≡ Some w)
link_of_next g tree kind v w is = go (onward_link kind tree v) refl is
  where
    go : (o : Option ℕ) → onward_link kind tree v ≡ o → option_and_then (λ e. leads g.links e v) o ≡ Some w
        → (e : ℕ) × (onward_link kind tree v ≡ Some e) × (leads g.links e v ≡ Some w)
    go None same is = cc
    go (Some e) same is = (e, same, is)

pub last_link : (g : Topology) (tree : List TreeNode) (kind : EarKind) (listed : List ℕ) (v : ℕ) (us : List ℕ) (stop : ℕ)
    → GoesOn g tree kind listed v us stop → IsLastLink g tree kind v us stop
last_link g tree kind listed v [] stop goes =
    let it = link_of_next g tree kind v stop goes.0 in record { link = it.0; is = it.1; onward = it.2; new = contains_first v [] }
last_link g tree kind listed v (w ∷ ws) stop goes =
    let it = last_link g tree kind listed w ws stop goes.2 in
    record { link = it.link; is = it.is; onward = it.onward; new = contains_later v (last_node w ws) (w ∷ ws) it.new }

-- an ear stops at x, or at a node whose turn is to come
pub ends_ahead : (g : Topology) (root : ℕ) (tree : List TreeNode) (over : List ℕ) (x : ℕ) (later : List ℕ) (ear : Ear) → AreFacts g root tree
    → AreKept g tree over x later → IsNextEar g tree (over ++ x ∷ later) x ear → (ear.stop ≡ x) ⊎ Contains later ear.stop
ends_ahead g root tree over x later ear facts kept next =
    by (brought_at g root tree over x later ear facts kept next)
    (last_link g tree ear.kind (over ++ x ∷ later) ear.first ear.others ear.stop next.onward)
    (stands_in over x later ear.stop (brought_at g root tree over x later ear facts kept next).stop_in)
  where
    by : IsBrought g tree (over ++ x ∷ later) ear → IsLastLink g tree ear.kind ear.first ear.others ear.stop → StandsIn over x later ear.stop → (ear.stop ≡ x) ⊎ Contains later ear.stop
    by brings last (Here same) = inl same
    by brings last (After to_come) = inr to_come
    by brings last (Before past) = absurd (brings.outside (last_node ear.first ear.others) last.new
        (kept.neighbours ear.stop last.link (last_node ear.first ear.others) past (lead_back g.links last.link (last_node ear.first ear.others) ear.stop last.onward)))
