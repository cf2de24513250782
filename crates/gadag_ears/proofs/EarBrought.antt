-- The GADAG with one more ear.
use Rattle.std.proofs.Common.{◌≡◌, ◌⊎◌, ◌<◌, ◌≤◌, ◌+◌, ◌++◌, ◌∙◌, ◌↔◌, ℕ, Bool, List, ◌∷◌, Some, length, reverse, slice_get, inl, inr, refl, sym, ap, subst, arith, length-append}
use Rattle.std.specs.Option.{option_map}
use Rattle.std.specs.Prelude.{Contains, IsTrue}
use Rattle.std.proofs.lemmas.List.{reverse-append, reverse-reverse, length-reverse}
use Rattle.mrt_graph.specs.declared.gadag.Mark.{Mark}
use Rattle.mrt_graph.specs.declared.gadag.Place.{Place}
use Rattle.mrt_graph.specs.declared.link.End.{End}
use Rattle.mrt_graph.specs.declared.tree.TreeNode.{TreeNode}
use Rattle.mrt_graph.specs.Topology.{Topology}
use Rattle.mrt_graph.proofs.FewNumbers.{few_numbers}
use Rattle.mrt_graph.proofs.Members.{contains_cases, contains_from_has}
use Rattle.gadag_ears.specs.declared.growing.Growing.{Growing}
use Rattle.gadag_ears.specs.declared.kind.EarKind.{EarKind}
use Rattle.gadag_ears.specs.Ear.{Ear, IsBegun, IsNextEar, new_nodes}
use Rattle.gadag_ears.specs.steps.Ear.{ear_of}
use Rattle.gadag_ears.specs.EarOrder.{Grown, IsEarOrder}
use Rattle.gadag_ears.specs.steps.Growing.{AreEntered, AreListed, AreWaysAndRoles, IsLeaving, IsMarked, IsPlaceOfEar, IsEarTurn, IsEarWay, StartsEar}
use Rattle.gadag_ears.specs.HeadAndBlock.{ArePlaces, BeginsBlock, HasPlace, IsPlacedAs}
use Rattle.gadag_ears.specs.steps.Marking.{AreEarMarked, IsMarkable}
use Rattle.gadag_ears.specs.declared.kind.EarKind.TheVariants.{Child}
use Rattle.gadag_ears.proofs.EarLinks.{IsUnderWay, apart, link_touches, links_in, markable, under_way}
use Rattle.gadag_ears.proofs.MarksGrown.{directed_grown, roles_grown}
use Rattle.gadag_ears.proofs.CutLists.{in_turn, kept_in, put_cases, put_in}
use Rattle.gadag_ears.proofs.Ended.{AreEarsIn, ears_in}
use Rattle.gadag_ears.proofs.FromSearch.{facts_of}
use Rattle.gadag_ears.proofs.NextEar.{IsBrought}
use Rattle.gadag_ears.proofs.Once.{one_place}
use Rattle.gadag_ears.proofs.TurnsKept.{AreKept, all_kept, brought_at, kept_next, ready}

-- the list in a turn
abbrev pub listed_in : ℕ → Growing → List ℕ
listed_in x growing = growing.order.items ++ x ∷ reverse growing.waiting.items

pub turn_kept : (g : Topology) (root : ℕ) (tree : List TreeNode) (x : ℕ) (growing : Growing) → (turn : IsEarTurn g root tree x growing)
    → AreKept g tree growing.order.items x (reverse growing.waiting.items)
turn_kept g root tree x growing turn =
    all_kept g root tree growing.order.items x (reverse growing.waiting.items) turn.ears (facts_of g root tree turn.searched) turn.ordered

-- the walk may begin
pub leaving_of : (g : Topology) (tree : List TreeNode) (kind : EarKind) (growing : Growing) (x link first : ℕ) → StartsEar g tree kind growing x link first
    → IsLeaving g tree kind growing.listed.items first
leaving_of g tree kind growing x link first starts =
    let turn = starts.turn in
    let kept = turn_kept g starts.root tree x growing turn in
    record {
      root = starts.root;
      searched = turn.searched;
      one_mark_each = turn.one_mark_each;
      nodes = growing.order.items ++ x ∷ reverse growing.waiting.items;
      are = turn.listed;
      x = x;
      in_list = in_turn growing.order.items x (reverse growing.waiting.items);
      closed = kept.closed;
      end = starts.end;
      begun = starts.begun;
      to = starts.to;
    }

-- the ear that the walk has found
pub record IsFoundEar (g : Topology) (root : ℕ) (tree : List TreeNode) (x : ℕ) (growing : Growing) (kind : EarKind) (link first stop : ℕ) (new : List ℕ) : Type 0 where
  pub ear : Ear
  pub next : IsNextEar g tree (growing.order.items ++ x ∷ reverse growing.waiting.items) x ear
  pub brings : IsBrought g tree (growing.order.items ++ x ∷ reverse growing.waiting.items) ear
  pub kept : AreKept g tree growing.order.items x (new ++ reverse growing.waiting.items)
  pub is_kind : ear.kind ≡ kind
  pub is_first : ear.first ≡ first
  pub is_stop : ear.stop ≡ stop
  pub is_new : new_nodes ear ≡ new
  pub others : List ℕ
  pub are : new ≡ first ∷ others
  pub is_ear : ear ≡ ear_of kind x link first others stop
  pub way : IsUnderWay g root tree (growing.order.items ++ x ∷ reverse growing.waiting.items) x ear

pub ear_of_way : (g : Topology) (root : ℕ) (tree : List TreeNode) (kind : EarKind) (growing : Growing) (x link first stop : ℕ) (end : End) (new : List ℕ)
    → IsEarTurn g root tree x growing → IsBegun g tree (growing.order.items ++ x ∷ reverse growing.waiting.items) x end kind → link ≡ end.link → first ≡ end.to
    → IsEarWay g tree kind (growing.order.items ++ x ∷ reverse growing.waiting.items) first new stop → IsFoundEar g root tree x growing kind link first stop new
ear_of_way g root tree kind growing x link first stop end new turn begun over to way =
    let facts = facts_of g root tree turn.searched in
    let kept = turn_kept g root tree x growing turn in
    let next : IsNextEar g tree (growing.order.items ++ x ∷ reverse growing.waiting.items) x (ear_of kind x link first way.others stop) =
    record { end = end; begun = begun; from = refl; over = over; to = to; onward = way.onward } in
    record {
      ear = ear_of kind x link first way.others stop;
      next = next;
      brings = brought_at g root tree growing.order.items x (reverse growing.waiting.items) (ear_of kind x link first way.others stop) facts kept next;
      kept = subst (λ (xs : List ℕ). AreKept g tree growing.order.items x (xs ++ reverse growing.waiting.items)) (sym way.are)
          (kept_next g root tree growing.order.items x (reverse growing.waiting.items) (ear_of kind x link first way.others stop) facts kept next);
      is_kind = refl;
      is_first = refl;
      is_stop = refl;
      is_new = sym way.are;
      others = way.others;
      are = way.are;
      is_ear = refl;
      way = under_way g root tree (growing.order.items ++ x ∷ reverse growing.waiting.items) x (ear_of kind x link first way.others stop) facts
          (ready g tree growing.order.items x (reverse growing.waiting.items) kept) next;
    }

-- there is room for the new nodes
pub room_for_new : (g : Topology) (tree : List TreeNode) (over : List ℕ) (x : ℕ) (waiting new : List ℕ)
    → AreKept g tree over x (new ++ reverse waiting) → length over + length waiting + length new < length g.ids
room_for_new g tree over x waiting new kept =
    let few : length (over ++ x ∷ (new ++ reverse waiting)) ≤ length g.ids =
    few_numbers (length g.ids) (over ++ x ∷ (new ++ reverse waiting)) (λ v has. kept.within v (contains_from_has (over ++ x ∷ (new ++ reverse waiting)) v has))
    (λ v. one_place (over ++ x ∷ (new ++ reverse waiting)) v (kept.once v)) in
    omega (arith, few, length-append over (x ∷ (new ++ reverse waiting)), length-append new (reverse waiting), length-reverse waiting)

-- the links of the ear that was found can be marked
pub markable_ear : (g : Topology) (root : ℕ) (tree : List TreeNode) (x : ℕ) (growing : Growing) (kind : EarKind) (link first stop : ℕ) (new : List ℕ) (begins : Bool)
    → IsFoundEar g root tree x growing kind link first stop new → IsTrue begins ↔ ((kind ≡ Child) × (stop ≡ x)) → IsMarkable g tree kind x link new begins
markable_ear g root tree x growing kind link first stop new begins found block =
    subst (λ (xs : List ℕ). IsMarkable g tree kind x link xs begins) (sym found.are)
    (markable g root tree (growing.order.items ++ x ∷ reverse growing.waiting.items) x (ear_of kind x link first found.others stop) begins
    (subst (λ (ear : Ear). IsUnderWay g root tree (growing.order.items ++ x ∷ reverse growing.waiting.items) x ear) found.is_ear found.way) block)

-- the marks are right with the new ear
pub marks_grown : (g : Topology) (root : ℕ) (tree : List TreeNode) (x : ℕ) (growing : Growing) (ears : List Ear) (ear : Ear) (marks marks' : List Mark)
    → IsEarOrder g root tree growing.order.items x (reverse growing.waiting.items) ears → IsUnderWay g root tree (growing.order.items ++ x ∷ reverse growing.waiting.items) x ear
    → AreWaysAndRoles g tree ears marks → AreEarMarked g tree ear marks marks' → AreWaysAndRoles g tree (ear ∷ ears) marks'
marks_grown g root tree x growing ears ear marks marks' ordered way are set =
    let none_twice = apart g root tree (growing.order.items ++ x ∷ reverse growing.waiting.items) x ear ears way
    (links_in g root tree growing.order.items x (reverse growing.waiting.items) ears way.facts ordered) in
    record {
      one_each = set.one_each ∙ are.one_each;
      directed = directed_grown g tree ears ear marks marks' are.directed set none_twice
          (λ v e on. link_touches g root tree (growing.order.items ++ x ∷ reverse growing.waiting.items) x ear v e way on);
      roles = roles_grown g tree ears ear marks marks' are.roles set none_twice;
    }

-- places of nodes that did not enter are as before
has_as_before : (places places' : List Place) (v h b : ℕ) → slice_get places' v ≡ slice_get places v → HasPlace places v h b → HasPlace places' v h b
has_as_before places places' v h b same has =
    (ap (λ o. option_map (λ place. place.head) o) same ∙ has.0, ap (λ o. option_map (λ place. place.block) o) same ∙ has.1)

alike : (places places' : List Place) (v u : ℕ) → slice_get places' v ≡ slice_get places v → slice_get places' u ≡ slice_get places u
    → IsPlacedAs places v u → IsPlacedAs places' v u
alike places places' v u v_same u_same is = (
  ap (λ o. option_map (λ place. place.head) o) v_same ∙ is.0 ∙ ap (λ o. option_map (λ place. place.head) o) (sym u_same),
  ap (λ o. option_map (λ place. place.block) o) v_same ∙ is.1 ∙ ap (λ o. option_map (λ place. place.block) o) (sym u_same),
)

has_entered : (places' : List Place) (v head block h b : ℕ) → slice_get places' v ≡ Some (record { head = head; block = block }) → head ≡ h → block ≡ b
    → HasPlace places' v h b
has_entered places' v head block h b is same_head same_block = (
  ap (λ o. option_map (λ place. place.head) o) is ∙ ap (λ (w : ℕ). Some w) same_head,
  ap (λ o. option_map (λ place. place.block) o) is ∙ ap (λ (w : ℕ). Some w) same_block,
)

alike_entered : (places' : List Place) (v u : ℕ) → slice_get places' v ≡ slice_get places' u → IsPlacedAs places' v u
alike_entered places' v u same = (ap (λ o. option_map (λ place. place.head) o) same, ap (λ o. option_map (λ place. place.block) o) same)

-- the places are right with the new ear
pub places_grown : (root : ℕ) (listed : List ℕ) (ears : List Ear) (ear : Ear) (places places' : List Place) (head block : ℕ)
    → AreEarsIn root listed ears → ArePlaces root ears places → Contains listed ear.stop
    → ((v : ℕ) → Contains (new_nodes ear) v → ¬ Contains listed v)
    → ((v : ℕ) → Contains (new_nodes ear) v → slice_get places' v ≡ Some (record { head = head; block = block }))
    → ((v : ℕ) → ¬ Contains (new_nodes ear) v → slice_get places' v ≡ slice_get places v)
    → (BeginsBlock ear → (head ≡ ear.start) × (block ≡ ear.first))
    → (¬ BeginsBlock ear → slice_get places ear.stop ≡ Some (record { head = head; block = block }))
    → ArePlaces root (ear ∷ ears) places'
places_grown root listed ears ear places places' head block in_list are stop_in outside placed others begun joined = record {
  of_root = has_as_before places places' root root root (old root in_list.root_in) are.of_root;
  of_block = λ e v c new begins. elim (contains_cases ear e ears c) [
    | inl same ↦
        let begins' : BeginsBlock ear = subst BeginsBlock same begins in
        let new' : Contains (new_nodes ear) v = subst (λ (d : Ear). Contains (new_nodes d) v) same new in
        let at = begun begins' in
        subst (λ (d : Ear). HasPlace places' v d.start d.first) (sym same) (has_entered places' v head block ear.start ear.first (placed v new') at.0 at.1)
    | inr later ↦ has_as_before places places' v e.start e.first (old v (in_list.new_in e v later new)) (are.of_block e v later new begins)
  ];
  of_stop = λ e v c new joins. elim (contains_cases ear e ears c) [
    | inl same ↦
        let joins' : ¬ BeginsBlock ear = subst (λ (d : Ear). ¬ BeginsBlock d) same joins in
        let new' : Contains (new_nodes ear) v = subst (λ (d : Ear). Contains (new_nodes d) v) same new in
        subst (λ (d : Ear). IsPlacedAs places' v d.stop) (sym same)
        (alike_entered places' v ear.stop (placed v new' ∙ sym (joined joins') ∙ sym (old ear.stop stop_in)))
    | inr later ↦ alike places places' v e.stop (old v (in_list.new_in e v later new)) (old e.stop (in_list.stop_in e later)) (are.of_stop e v later new joins)
  ];
}
  where
    old : (v : ℕ) → Contains listed v → slice_get places' v ≡ slice_get places v
    old v inside = others v (λ new. outside v new inside)

-- the marks are right with the new nodes
pub listed_grown : (over : List ℕ) (x : ℕ) (later new : List ℕ) (listed listed' : List Bool) → AreListed listed (over ++ x ∷ later)
    → ((v : ℕ) → IsMarked listed' v → IsMarked listed v ⊎ Contains new v) → ((v : ℕ) → IsMarked listed v → IsMarked listed' v)
    → ((v : ℕ) → Contains new v → IsMarked listed' v) → AreListed listed' (over ++ x ∷ (new ++ later))
listed_grown over x later new listed listed' are marks kept marked v = (
  λ m. elim (marks v m) [
    | inl old ↦ kept_in over x later new v ((are v).0 old)
    | inr added ↦ put_in over x later new v added
  ],
  λ c. elim (put_cases over x later new v c) [
    | inl added ↦ marked v added
    | inr old ↦ kept v ((are v).1 old)
  ],
)

waiting_grown : (waiting waiting' new : List ℕ) → waiting' ≡ waiting ++ reverse new → reverse waiting' ≡ new ++ reverse waiting
waiting_grown waiting waiting' new is =
    ap (λ (xs : List ℕ). reverse xs) is ∙ reverse-append waiting (reverse new) ∙ ap (λ (xs : List ℕ). xs ++ reverse waiting) (reverse-reverse new)

-- the whole step
pub turn_grown : (g : Topology) (root : ℕ) (tree : List TreeNode) (x : ℕ) (growing after : Growing) (kind : EarKind) (link first stop head block : ℕ) (new : List ℕ)
    → IsEarTurn g root tree x growing → (found : IsFoundEar g root tree x growing kind link first stop new)
    → IsPlaceOfEar kind x first stop growing.places.items (record { head = head; block = block })
    → after.order ≡ growing.order → after.waiting.items ≡ growing.waiting.items ++ reverse new
    → AreEntered growing.listed.items growing.places.items head block new after.listed.items after.places.items
    → AreEarMarked g tree found.ear growing.marks.items after.marks.items → IsEarTurn g root tree x after
turn_grown g root tree x growing after kind link first stop head block new turn found place order waiting entered marked =
    let facts = facts_of g root tree turn.searched in
    let over = growing.order.items in
    let later = reverse growing.waiting.items in
    let same_order : after.order.items ≡ growing.order.items = ap (λ v. v.items) order in
    let same_later : reverse after.waiting.items ≡ new ++ reverse growing.waiting.items = waiting_grown growing.waiting.items after.waiting.items new waiting in
    let in_new : (v : ℕ) → Contains (new_nodes found.ear) v → Contains new v = λ v c. subst (λ (xs : List ℕ). Contains xs v) found.is_new c in
    let from_new : (v : ℕ) → Contains new v → Contains (new_nodes found.ear) v = λ v c. subst (λ (xs : List ℕ). Contains xs v) (sym found.is_new) c in
    record {
      searched = turn.searched;
      ears = found.ear ∷ turn.ears;
      ordered = subst (λ (xs : List ℕ). IsEarOrder g root tree xs x (reverse after.waiting.items) (found.ear ∷ turn.ears)) (sym same_order)
          (subst (λ (xs : List ℕ). IsEarOrder g root tree growing.order.items x xs (found.ear ∷ turn.ears)) (sym same_later)
          (subst (λ (xs : List ℕ). IsEarOrder g root tree growing.order.items x (xs ++ reverse growing.waiting.items) (found.ear ∷ turn.ears)) found.is_new
          (Grown growing.order.items x (reverse growing.waiting.items) turn.ears found.ear turn.ordered found.next)));
      one_mark_each = entered.one_mark_each ∙ turn.one_mark_each;
      listed = subst (λ (xs : List ℕ). AreListed after.listed.items (xs ++ x ∷ reverse after.waiting.items)) (sym same_order)
          (subst (λ (xs : List ℕ). AreListed after.listed.items (growing.order.items ++ x ∷ xs)) (sym same_later)
          (listed_grown growing.order.items x (reverse growing.waiting.items) new growing.listed.items after.listed.items turn.listed entered.marks entered.kept entered.marked));
      one_place_each = entered.one_place_each ∙ turn.one_place_each;
      marked = marks_grown g root tree x growing turn.ears found.ear growing.marks.items after.marks.items turn.ordered found.way turn.marked marked;
      placed = places_grown root (growing.order.items ++ x ∷ reverse growing.waiting.items) turn.ears found.ear growing.places.items after.places.items head block
          (ears_in g root tree growing.order.items x (reverse growing.waiting.items) turn.ears facts turn.ordered) turn.placed found.brings.stop_in found.brings.outside
          (λ v c. entered.placed v (in_new v c)) (λ v out. entered.others v (λ c. out (from_new v c)))
          (λ begins. let it = place.of_block (sym found.is_kind ∙ begins.0) (sym found.is_stop ∙ begins.1 ∙ found.next.from) in
          (it.0 ∙ sym found.next.from, it.1 ∙ sym found.is_first))
          (λ joins. ap (λ (v : ℕ). slice_get growing.places.items v) found.is_stop
          ∙ place.of_stop (λ both. joins (found.is_kind ∙ both.0, found.is_stop ∙ both.1 ∙ sym found.next.from)));
    }
