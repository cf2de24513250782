-- The links of ears: no link is in two ears, and none is twice in one but the one link of a block.
use Rattle.std.proofs.Common.{◌≡◌, ◌⊎◌, ◌<◌, ◌+◌, ◌++◌, ◌∙◌, ◌↔◌, ℕ, Bool, List, [], ◌∷◌, Some, inl, inr, refl, sym, ap, subst, arith}
use Rattle.std.specs.Prelude.{Contains, IsTrue}
use Rattle.std.proofs.lemmas.Option.{same_Some}
use Rattle.mrt_graph.specs.declared.tree.TreeNode.{TreeNode}
use Rattle.mrt_graph.specs.Leads.{leads}
use Rattle.mrt_graph.specs.Topology.{Topology}
use Rattle.mrt_graph.specs.TreeFields.{search_number}
use Rattle.mrt_graph.proofs.Hops.{lead_back, same_ends}
use Rattle.mrt_graph.proofs.Members.{contains_cases, contains_first, contains_later, contains_none}
use Rattle.gadag_ears.specs.declared.kind.EarKind.{EarKind}
use Rattle.gadag_ears.specs.declared.kind.EarKind.TheVariants.{Child}
use Rattle.gadag_ears.specs.Ear.{Ear, GoesOn, IsNextEar, last_node, new_nodes, next_node, onward_link}
use Rattle.gadag_ears.specs.EarOrder.{Begun, Grown, IsEarOrder, Turned}
use Rattle.gadag_ears.specs.HeadAndBlock.{BeginsBlock}
use Rattle.gadag_ears.specs.LinkMarks.{IsOfOneLink, IsOnEar, Onward, Out}
use Rattle.gadag_ears.specs.steps.Marking.{GoesOver, IsMarkable}
use Rattle.gadag_ears.proofs.CutLists.{in_turn, kept_in, put_in, turned}
use Rattle.gadag_ears.proofs.EarWalk.{GoesNearer, IsGoing, begins, goes_nearer, next_there, next_within, rank}
use Rattle.gadag_ears.proofs.NextEar.{FromNew, FromStart, FromStop, Heads, IsBrought, IsHung, IsClosedUp, brought}
use Rattle.gadag_ears.proofs.SearchFacts.{AreFacts}
use Rattle.gadag_ears.proofs.TurnsKept.{all_kept, link_of_next, ready}

-- each node on the way of an ear is one where it goes on
record IsGoingAt (g : Topology) (tree : List TreeNode) (nodes : List ℕ) (x first link : ℕ) (kind : EarKind) (v : ℕ) : Type 0 where
  pub before : ℕ
  pub going : IsGoing g tree nodes x first link v before kind

going_at : (g : Topology) (root : ℕ) (tree : List TreeNode) (nodes : List ℕ) (x first link here k : ℕ) (kind : EarKind) (us : List ℕ) (stop : ℕ) → AreFacts g root tree
    → IsGoing g tree nodes x first link here k kind → GoesOn g tree kind nodes here us stop → (v : ℕ) → Contains (here ∷ us) v
    → IsGoingAt g tree nodes x first link kind v
going_at g root tree nodes x first link here k kind [] stop facts going goes v inside = elim (contains_cases here v [] inside) [
  | inl same ↦ record { before = k; going = subst (λ (w : ℕ). IsGoing g tree nodes x first link w k kind) (sym same) going }
  | inr none ↦ absurd (contains_none v none)
]
going_at g root tree nodes x first link here k kind (u ∷ us) stop facts going goes v inside = elim (contains_cases here v (u ∷ us) inside) [
  | inl same ↦ record { before = k; going = subst (λ (w : ℕ). IsGoing g tree nodes x first link w k kind) (sym same) going }
  | inr later ↦
      let on : GoesNearer g tree nodes x first link here k u kind =
      goes_nearer g root tree nodes x first link here k u kind facts going goes.0 (next_within g root tree kind here u facts goes.0) goes.1 in
      going_at g root tree nodes x first link u (k + 1) kind us stop facts on.going goes.2 v later
]

-- an ear, as it goes
pub record IsUnderWay (g : Topology) (root : ℕ) (tree : List TreeNode) (listed : List ℕ) (x : ℕ) (ear : Ear) : Type 0 where
  pub facts : AreFacts g root tree
  pub in_list : Contains listed x
  pub brings : IsBrought g tree listed ear
  pub next : IsNextEar g tree listed x ear
  pub going : IsGoing g tree listed x ear.first next.end.link ear.first 0 ear.kind

pub under_way : (g : Topology) (root : ℕ) (tree : List TreeNode) (listed : List ℕ) (x : ℕ) (ear : Ear) → AreFacts g root tree → IsClosedUp g tree listed x
    → IsNextEar g tree listed x ear → IsUnderWay g root tree listed x ear
under_way g root tree listed x ear facts ready next = record {
  facts = facts;
  in_list = ready.in_list;
  brings = brought g root tree listed x ear facts ready next;
  next = next;
  going = begins g root tree ear.kind listed x ear.first next.end facts ready.in_list ready.closed next.begun next.to;
}

-- the step over a new node's link
record IsStep (g : Topology) (root : ℕ) (tree : List TreeNode) (listed : List ℕ) (ear : Ear) (v e : ℕ) : Type 0 where
  pub to : ℕ
  pub onward : leads g.links e v ≡ Some to
  pub next : next_node g tree ear.kind v ≡ Some to
  pub nearer : ¬ Contains listed to → rank g tree ear.kind to < rank g tree ear.kind v

step_of : (g : Topology) (root : ℕ) (tree : List TreeNode) (listed : List ℕ) (x : ℕ) (ear : Ear) (v e : ℕ) → IsUnderWay g root tree listed x ear
    → Contains (new_nodes ear) v → onward_link ear.kind tree v ≡ Some e → IsStep g root tree listed ear v e
step_of g root tree listed x ear v e way new over =
    let at = going_at g root tree listed x ear.first way.next.end.link ear.first 0 ear.kind ear.others ear.stop way.facts way.going way.next.onward v new in
    let next = next_there g root tree listed x ear.first way.next.end.link v at.before ear.kind way.facts at.going in
    let link = link_of_next g tree ear.kind v next.0 next.1 in
    record {
      to = next.0;
      onward = subst (λ (d : ℕ). leads g.links d v ≡ Some next.0) (same_Some link.0 e (sym link.1 ∙ over)) link.2;
      next = next.1;
      nearer = λ outside. (goes_nearer g root tree listed x ear.first way.next.end.link v at.before next.0 ear.kind way.facts at.going next.1
          (next_within g root tree ear.kind v next.0 way.facts next.1) outside).nearer;
    }

-- two new nodes with one link are one
pub links_differ : (g : Topology) (root : ℕ) (tree : List TreeNode) (listed : List ℕ) (x : ℕ) (ear : Ear) (v w e : ℕ) → IsUnderWay g root tree listed x ear
    → Contains (new_nodes ear) v → Contains (new_nodes ear) w → onward_link ear.kind tree v ≡ Some e → onward_link ear.kind tree w ≡ Some e → v ≡ w
links_differ g root tree listed x ear v w e way v_new w_new v_over w_over =
    let one = step_of g root tree listed x ear v e way v_new v_over in
    let two = step_of g root tree listed x ear w e way w_new w_over in
    elim (same_ends g.links e v one.to w two.to one.onward two.onward) [
      | inl same ↦ sym same
      | inr w_next ↦ elim (same_ends g.links e w two.to v one.to two.onward one.onward) [
        | inl same ↦ same
        | inr v_next ↦
            let down = one.nearer (λ c. way.brings.outside w w_new (subst (λ (y : ℕ). Contains listed y) (sym w_next) c)) in
            let up = two.nearer (λ c. way.brings.outside v v_new (subst (λ (y : ℕ). Contains listed y) (sym v_next) c)) in
            absurd (omega (arith, down, up, ap (λ (y : ℕ). rank g tree ear.kind y) w_next, ap (λ (y : ℕ). rank g tree ear.kind y) v_next))
      ]
    ]

-- an ear that steps to a listed node stops there
stops_there : (g : Topology) (tree : List TreeNode) (kind : EarKind) (listed : List ℕ) (v : ℕ) (us : List ℕ) (stop a : ℕ) → GoesOn g tree kind listed v us stop
    → next_node g tree kind v ≡ Some a → Contains listed a → (us ≡ []) × (stop ≡ a)
stops_there g tree kind listed v [] stop a goes is inside = (refl, same_Some stop a (sym goes.0 ∙ is))
stops_there g tree kind listed v (u ∷ us) stop a goes is inside =
    absurd (goes.1 (subst (λ (w : ℕ). Contains listed w) (sym (same_Some u a (sym goes.0 ∙ is))) inside))

-- an ear of one new node that stops where it starts is a child ear
back_is_child : (g : Topology) (root : ℕ) (tree : List TreeNode) (ear : Ear) → AreFacts g root tree → ear.others ≡ [] → ear.stop ≡ ear.start
    → IsHung g tree ear ear.first → ear.kind ≡ Child
back_is_child g root tree ear facts none back (FromNew p is new low) = elim (contains_cases ear.first p ear.others new) [
  | inl same ↦ absurd (omega (arith, facts.falls ear.first p is, ap (λ (w : ℕ). search_number tree w) same))
  | inr later ↦ absurd (contains_none p (subst (λ (xs : List ℕ). Contains xs p) none later))
]
back_is_child g root tree ear facts none back (FromStop is other low) = absurd (other back)
back_is_child g root tree ear facts none back (FromStart is other low above) = absurd (other back)
back_is_child g root tree ear facts none back (Heads same is kind stop high) = kind

-- an ear whose only new node goes back over the ear's first link
pub record IsBackAtOnce (tree : List TreeNode) (ear : Ear) (v : ℕ) : Type 0 where
  pub is_first : v ≡ ear.first
  pub alone : ear.others ≡ []
  pub one : IsOfOneLink tree ear

-- a new node goes on over the ear's first link in the ear of a block's one link alone
pub first_again : (g : Topology) (root : ℕ) (tree : List TreeNode) (listed : List ℕ) (x : ℕ) (ear : Ear) (v : ℕ) → IsUnderWay g root tree listed x ear
    → Contains (new_nodes ear) v → onward_link ear.kind tree v ≡ Some ear.link → IsBackAtOnce tree ear v
first_again g root tree listed x ear v way new over =
    let step = step_of g root tree listed x ear v ear.link way new over in
    let start_in : Contains listed ear.start = subst (λ (w : ℕ). Contains listed w) (sym way.next.from) way.in_list in
    elim (same_ends g.links ear.link ear.start ear.first v step.to way.brings.touches step.onward) [
      | inl at_start ↦ absurd (way.brings.outside v new (subst (λ (w : ℕ). Contains listed w) (sym at_start) start_in))
      | inr at_first ↦
          let back : leads g.links ear.link v ≡ Some ear.start =
          subst (λ (w : ℕ). leads g.links ear.link w ≡ Some ear.start) (sym at_first) (lead_back g.links ear.link ear.start ear.first way.brings.touches) in
          let to : step.to ≡ ear.start = same_Some step.to ear.start (sym step.onward ∙ back) in
          let next : next_node g tree ear.kind ear.first ≡ Some ear.start =
          subst (λ (w : ℕ). next_node g tree ear.kind w ≡ Some ear.start) at_first (step.next ∙ ap (λ (w : ℕ). Some w) to) in
          let both = stops_there g tree ear.kind listed ear.first ear.others ear.stop ear.start way.next.onward next start_in in
          record {
            is_first = at_first;
            alone = both.0;
            one = record {
              begins = (back_is_child g root tree ear way.facts both.0 both.1 (way.brings.hung ear.first (contains_first ear.first ear.others)), both.1);
              last = subst (λ (us : List ℕ). onward_link ear.kind tree (last_node ear.first us) ≡ Some ear.link) (sym both.0)
                  (subst (λ (w : ℕ). onward_link ear.kind tree w ≡ Some ear.link) at_first over);
            };
          }
    ]

pub goes_over : (g : Topology) (root : ℕ) (tree : List TreeNode) (listed : List ℕ) (x : ℕ) (ear : Ear) (v : ℕ) → IsUnderWay g root tree listed x ear
    → Contains (new_nodes ear) v → GoesOver g tree ear.kind v
goes_over g root tree listed x ear v way new =
    let at = going_at g root tree listed x ear.first way.next.end.link ear.first 0 ear.kind ear.others ear.stop way.facts way.going way.next.onward v new in
    let next = next_there g root tree listed x ear.first way.next.end.link v at.before ear.kind way.facts at.going in
    let link = link_of_next g tree ear.kind v next.0 next.1 in
    record {
      within = omega (arith, (way.facts.leads_within link.0 v next.0 link.2).0, way.facts.one_each);
      link = link.0;
      over = link.1;
      to = next.0;
      onward = link.2;
    }

-- the links of the ear can be marked one by one
pub markable : (g : Topology) (root : ℕ) (tree : List TreeNode) (listed : List ℕ) (x : ℕ) (ear : Ear) (begins : Bool) → IsUnderWay g root tree listed x ear
    → IsTrue begins ↔ BeginsBlock ear → IsMarkable g tree ear.kind x ear.link (new_nodes ear) begins
markable g root tree listed x ear begins way block = record {
  some_node = omega arith;
  to = ear.first;
  touches = subst (λ (w : ℕ). leads g.links ear.link w ≡ Some ear.first) way.next.from way.brings.touches;
  each = λ v new. goes_over g root tree listed x ear v way new;
  differ = λ v w e v_new w_new v_over w_over. links_differ g root tree listed x ear v w e way v_new w_new v_over w_over;
  once = λ v new over.
      let back = first_again g root tree listed x ear v way new over in
      (block.1 back.one.begins, ap (λ (us : List ℕ). ear.first ∷ us) back.alone ∙ ap (λ (w : ℕ). w ∷ []) (sym back.is_first));
}

-- each link of an ear touches the node that the ear leaves over it
pub link_touches : (g : Topology) (root : ℕ) (tree : List TreeNode) (listed : List ℕ) (x : ℕ) (ear : Ear) (v e : ℕ) → IsUnderWay g root tree listed x ear
    → IsOnEar tree ear v e → (w : ℕ) × (leads g.links e v ≡ Some w)
link_touches g root tree listed x ear v e way Out = (ear.first, way.brings.touches)
link_touches g root tree listed x ear v e way (Onward u d new link) = let step = step_of g root tree listed x ear u d way new link in (step.to, step.onward)

-- where an ear goes on to
next_in : (g : Topology) (tree : List TreeNode) (kind : EarKind) (listed : List ℕ) (v : ℕ) (us : List ℕ) (stop u w : ℕ) → GoesOn g tree kind listed v us stop
    → Contains (v ∷ us) u → next_node g tree kind u ≡ Some w → Contains us w ⊎ (w ≡ stop)
next_in g tree kind listed v [] stop u w goes inside is = elim (contains_cases v u [] inside) [
  | inl same ↦ inr (same_Some w stop (sym is ∙ ap (λ (y : ℕ). next_node g tree kind y) same ∙ goes.0))
  | inr none ↦ absurd (contains_none u none)
]
next_in g tree kind listed v (y ∷ ys) stop u w goes inside is = elim (contains_cases v u (y ∷ ys) inside) [
  | inl same ↦ inl (subst (λ (z : ℕ). Contains (y ∷ ys) z)
      (same_Some y w (sym goes.0 ∙ sym (ap (λ (z : ℕ). next_node g tree kind z) same) ∙ is)) (contains_first y ys))
  | inr later ↦ elim (next_in g tree kind listed y ys stop u w goes.2 later is) [
    | inl new ↦ inl (contains_later y w ys new)
    | inr at_stop ↦ inr at_stop
  ]
]

-- a link of an ear, with both its nodes in the list
pub record IsLinkIn (g : Topology) (listed : List ℕ) (v e : ℕ) : Type 0 where
  pub to : ℕ
  pub onward : leads g.links e v ≡ Some to
  pub from_in : Contains listed v
  pub to_in : Contains listed to

abbrev pub AreLinksIn : Topology → List TreeNode → List ℕ → List Ear → Type 0
AreLinksIn g tree listed ears = (ear : Ear) (v e : ℕ) → Contains ears ear → IsOnEar tree ear v e → IsLinkIn g listed v e

new_link_in : (g : Topology) (root : ℕ) (tree : List TreeNode) (over : List ℕ) (x : ℕ) (later : List ℕ) (ear : Ear) (v e : ℕ)
    → IsUnderWay g root tree (over ++ x ∷ later) x ear → IsOnEar tree ear v e → IsLinkIn g (over ++ x ∷ (new_nodes ear ++ later)) v e
new_link_in g root tree over x later ear v e way Out = record {
  to = ear.first;
  onward = way.brings.touches;
  from_in = subst (λ (w : ℕ). Contains (over ++ x ∷ (new_nodes ear ++ later)) w) (sym way.next.from) (in_turn over x (new_nodes ear ++ later));
  to_in = put_in over x later (new_nodes ear) ear.first (contains_first ear.first ear.others);
}
new_link_in g root tree over x later ear v e way (Onward u d new link) =
    let step = step_of g root tree (over ++ x ∷ later) x ear u d way new link in
    record {
      to = step.to;
      onward = step.onward;
      from_in = put_in over x later (new_nodes ear) u new;
      to_in = elim (next_in g tree ear.kind (over ++ x ∷ later) ear.first ear.others ear.stop u step.to way.next.onward new step.next) [
        | inl inside ↦ put_in over x later (new_nodes ear) step.to (contains_later ear.first step.to ear.others inside)
        | inr at_stop ↦ kept_in over x later (new_nodes ear) step.to
            (subst (λ (w : ℕ). Contains (over ++ x ∷ later) w) (sym at_stop) way.brings.stop_in)
      ];
    }

still_in : (g : Topology) (listed listed' : List ℕ) (v e : ℕ) → ((w : ℕ) → Contains listed w → Contains listed' w) → IsLinkIn g listed v e → IsLinkIn g listed' v e
still_in g listed listed' v e on it = record { to = it.to; onward = it.onward; from_in = on v it.from_in; to_in = on it.to it.to_in }

pub links_in : (g : Topology) (root : ℕ) (tree : List TreeNode) (over : List ℕ) (x : ℕ) (later : List ℕ) (ears : List Ear) → AreFacts g root tree
    → IsEarOrder g root tree over x later ears → AreLinksIn g tree (over ++ x ∷ later) ears
links_in g root tree over x later ears facts Begun ear v e none on = absurd (contains_none ear none)
links_in g root tree over x later ears facts (Grown over' x' later' ears' ear' before next) ear v e c on =
    let kept = all_kept g root tree over' x' later' ears' facts before in
    let way = under_way g root tree (over' ++ x' ∷ later') x' ear' facts (ready g tree over' x' later' kept) next in
    elim (contains_cases ear' ear ears' c) [
      | inl same ↦ new_link_in g root tree over' x' later' ear' v e way (subst (λ (d : Ear). IsOnEar tree d v e) same on)
      | inr old ↦ still_in g (over' ++ x' ∷ later') (over' ++ x' ∷ (new_nodes ear' ++ later')) v e (λ w inside. kept_in over' x' later' (new_nodes ear') w inside)
          (links_in g root tree over' x' later' ears' facts before ear v e old on)
    ]
links_in g root tree over x later ears facts (Turned over' x' y later' ears' before done) ear v e c on =
    subst (λ (xs : List ℕ). IsLinkIn g xs v e) (sym (turned over' x' y later')) (links_in g root tree over' x' (y ∷ later') ears' facts before ear v e c on)

-- a link of a new ear touches a node outside, so that no earlier ear has it
pub apart : (g : Topology) (root : ℕ) (tree : List TreeNode) (listed : List ℕ) (x : ℕ) (ear : Ear) (ears : List Ear) → IsUnderWay g root tree listed x ear
    → AreLinksIn g tree listed ears → (d : Ear) (v w e : ℕ) → Contains ears d → IsOnEar tree ear v e → IsOnEar tree d w e → ⊥
apart g root tree listed x ear ears way are d v w e c Out old =
    let it = are d w e c old in
    let back = lead_back g.links e ear.start ear.first way.brings.touches in
    let new = contains_first ear.first ear.others in
    elim (same_ends g.links e w it.to ear.first ear.start it.onward back) [
      | inl at_from ↦ way.brings.outside ear.first new (subst (λ (y : ℕ). Contains listed y) (sym at_from) it.from_in)
      | inr at_to ↦ way.brings.outside ear.first new (subst (λ (y : ℕ). Contains listed y) (sym at_to) it.to_in)
    ]
apart g root tree listed x ear ears way are d v w e c (Onward u f new link) old =
    let it = are d w f c old in
    let step = step_of g root tree listed x ear u f way new link in
    elim (same_ends g.links f w it.to u step.to it.onward step.onward) [
      | inl at_from ↦ way.brings.outside u new (subst (λ (y : ℕ). Contains listed y) (sym at_from) it.from_in)
      | inr at_to ↦ way.brings.outside u new (subst (λ (y : ℕ). Contains listed y) (sym at_to) it.to_in)
    ]
