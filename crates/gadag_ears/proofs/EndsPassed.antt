-- The turn of a node, end by end.
use Rattle.std.proofs.Common.{◌≡◌, ◌<◌, ◌≤◌, ◌+◌, ◌++◌, ◌∙◌, ◌↔◌, ℕ, zero, suc, Bool, true, false, List, [], ◌∷◌, Option, Some, None, length, replicate, reverse, set, slice_get, slice_index_or, inl, inr, refl, sym, ap, subst, arith}
use Rattle.std.specs.Option.{option_and_then, option_map, option_to_list}
use Rattle.std.specs.Prelude.{Contains, IfNone, IfSome, IsSome, IsTrue, ◌==◌}
use Rattle.std.proofs.lemmas.Bool.{cases_eq, cases_lt, eq-eqb, eqb-true}
use Rattle.std.proofs.lemmas.List.{get_or-set_other, get_or-set_same, length-replicate, length-set, reverse-append}
use Rattle.std.proofs.lemmas.Option.{same_Some, slice_get_within}
use Rattle.mrt_graph.specs.declared.cert.Role.{Role}
use Rattle.mrt_graph.specs.declared.cert.Role.TheVariants.{Plain}
use Rattle.mrt_graph.specs.declared.gadag.Mark.{Mark}
use Rattle.mrt_graph.specs.declared.gadag.Place.{Place}
use Rattle.mrt_graph.specs.declared.gadag.Way.{Way}
use Rattle.mrt_graph.specs.declared.gadag.Way.TheVariants.{Unset}
use Rattle.mrt_graph.specs.declared.link.End.{End}
use Rattle.mrt_graph.specs.declared.tree.TreeNode.{TreeNode}
use Rattle.mrt_graph.specs.GraphInvariant.{IsEnd, IsTopology}
use Rattle.mrt_graph.specs.Leads.{leads}
use Rattle.mrt_graph.specs.Topology.{Topology}
use Rattle.mrt_graph.specs.TreeFields.{parent_link}
use Rattle.mrt_graph.proofs.EndsAt.{IsEndOver, leads_end}
use Rattle.mrt_graph.proofs.Hops.{lead_back}
use Rattle.mrt_graph.proofs.ListTests.{all_at}
use Rattle.mrt_graph.proofs.Members.{contains_cases, contains_first, contains_none}
use Rattle.mrt_graph.proofs.Searching.{no_mark_at_first}
use Rattle.mrt_graph.specs.FirstEnd.{IsFirstEnd}
use Rattle.lowpoint_dfs.specs.SearchOrder.{IsDone}
use Rattle.lowpoint_dfs.specs.SearchTree.{IsSearchTree}
use Rattle.lowpoint_dfs.specs.Subtree.{parent_of}
use Rattle.gadag_ears.specs.declared.growing.Growing.{Growing}
use Rattle.gadag_ears.specs.declared.kind.EarKind.TheVariants.{Child, Neighbour}
use Rattle.gadag_ears.specs.Ear.{LeadsToChild, ToChild, ToNeighbour}
use Rattle.gadag_ears.specs.EarOrder.{Begun, IsEarOrder, Turned}
use Rattle.gadag_ears.specs.steps.Growing.{AreAllMarked, AreListed, AreWaysAndRoles, HasRoom, HasSearch, HasTurn, IsAtEnd, IsBeginning, IsEnded, IsMarked, IsEarTurn, StartsEar}
use Rattle.gadag_ears.specs.HeadAndBlock.{ArePlaces}
use Rattle.gadag_ears.proofs.CutLists.{in_turn, turned}
use Rattle.gadag_ears.proofs.EarBrought.{room_for_new, turn_kept}
use Rattle.gadag_ears.proofs.FromSearch.{facts_of}

-- an end of a node leads to a node of the graph
pub end_within : (g : Topology) (x k : ℕ) (ends : List End) (end : End) → IsTopology g → slice_get g.ends x ≡ Some ends → slice_get ends k ≡ Some end
    → end.to < length g.ids
end_within g x k ends end kept list there = (all_at (IsEnd (length g.ids) g.links x) ends k end (kept.ends_kept x ends list).kept there).to

pub here_within : (g : Topology) (root : ℕ) (tree : List TreeNode) (x : ℕ) (growing : Growing) → IsEarTurn g root tree x growing → x < length g.ids
here_within g root tree x growing turn =
    (turn_kept g root tree x growing turn).within x (in_turn growing.order.items x (reverse growing.waiting.items))

-- a node without a mark is outside
pub outside_of : (g : Topology) (root : ℕ) (tree : List TreeNode) (x : ℕ) (growing : Growing) (v : ℕ) → IsEarTurn g root tree x growing
    → ¬ IsMarked growing.listed.items v → ¬ Contains (growing.order.items ++ x ∷ reverse growing.waiting.items) v
outside_of g root tree x growing v turn none c = none ((turn.listed v).1 c)

pub child_starts : (g : Topology) (tree : List TreeNode) (growing : Growing) (x : ℕ) (end : End) → HasTurn g tree x growing
    → IsAtEnd g (λ other. parent_of g tree other.to ≡ Some x → IsMarked growing.listed.items other.to) x end
    → parent_of g tree end.to ≡ Some x → ¬ IsMarked growing.listed.items end.to → StartsEar g tree Child growing x end.link end.to
child_starts g tree growing x end has at child none =
    let first : IsFirstEnd g (LeadsToChild g tree (growing.order.items ++ x ∷ reverse growing.waiting.items) x) x end = record {
      ends = at.ends;
      list = at.list;
      place = at.place;
      there = at.there;
      asked = (outside_of g has.root tree x growing end.to has.turn none, child);
      none_before = λ k other early there asked. asked.0 ((has.turn.listed other.to).0 (at.passed k other early there asked.1));
    } in
    record { root = has.root; turn = has.turn; end = end; begun = ToChild first; over = refl; to = refl }

pub neighbour_starts : (g : Topology) (tree : List TreeNode) (growing : Growing) (x : ℕ) (end : End) → HasTurn g tree x growing
    → ((v : ℕ) → parent_of g tree v ≡ Some x → IsMarked growing.listed.items v)
    → IsAtEnd g (λ other. IsMarked growing.listed.items other.to) x end → ¬ IsMarked growing.listed.items end.to → StartsEar g tree Neighbour growing x end.link end.to
neighbour_starts g tree growing x end has children at none =
    let first : IsFirstEnd g (λ other. ¬ Contains (growing.order.items ++ x ∷ reverse growing.waiting.items) other.to) x end = record {
      ends = at.ends;
      list = at.list;
      place = at.place;
      there = at.there;
      asked = outside_of g has.root tree x growing end.to has.turn none;
      none_before = λ k other early there outside. outside ((has.turn.listed other.to).0 (at.passed k other early there));
    } in
    record {
      root = has.root;
      turn = has.turn;
      end = end;
      begun = ToNeighbour (λ v parent. (has.turn.listed v).0 (children v parent)) first;
      over = refl;
      to = refl;
    }

-- a mark that is not there
pub no_mark : (listed others : List Bool) (v : ℕ) → listed ≡ others → slice_index_or listed v false ≡ false → ¬ IsMarked others v
no_mark listed others v same none mark =
    let both : true ≡ false = sym mark ∙ ap (λ (xs : List Bool). slice_index_or xs v false) (sym same) ∙ none in cc

-- the ends of x that have been passed
abbrev pub ArePassed : (End → Type 0) → List End → ℕ → Type 0
ArePassed IsPassed ends k = (j : ℕ) (end : End) → j < k → slice_get ends j ≡ Some end → IsPassed end

pub one_more_passed : (IsPassed IsPassed' : End → Type 0) (ends : List End) (k : ℕ) (end : End) → slice_get ends k ≡ Some end
    → ((other : End) → IsPassed other → IsPassed' other) → ArePassed IsPassed ends k → IsPassed' end → ArePassed IsPassed' ends (k + 1)
one_more_passed IsPassed IsPassed' ends k end there still passed now j other early at = elim (cases_lt j k) [
  | inl before ↦ still other (passed j other before at)
  | inr late ↦
      let here : j ≡ k = omega (arith, early, late) in
      let same : end ≡ other = same_Some end other (sym there ∙ subst (λ (i : ℕ). slice_get ends i ≡ Some other) here at) in
      subst IsPassed' same now
]

pub at_end : (g : Topology) (x place : ℕ) (IsPassed : End → Type 0) (ends : List End) (end : End) → slice_get g.ends x ≡ Some ends
    → slice_get ends place ≡ Some end → ArePassed IsPassed ends place → IsAtEnd g IsPassed x end
at_end g x place IsPassed ends end list there passed = record { ends = ends; list = list; place = place; there = there; passed = passed }

-- since the turn of x began there were ears, and it is still its turn
pub record IsInTurn (g : Topology) (tree : List TreeNode) (x : ℕ) (start growing : Growing) : Type 0 where
  pub turn : (root : ℕ) → IsEarTurn g root tree x start → IsEarTurn g root tree x growing
  pub has_turn : HasTurn g tree x growing
  pub has_room : HasRoom (length g.ids) growing
  pub same_order : growing.order ≡ start.order

pub turn_begun : {g : Topology} {tree : List TreeNode} {x : ℕ} {start : Growing} → HasTurn g tree x start → HasRoom (length g.ids) start → IsInTurn g tree x start start
turn_begun has_turn has_room = record { turn = λ root turn. turn; has_turn = has_turn; has_room = has_room; same_order = refl }

pub turn_still : {g : Topology} {tree : List TreeNode} {x : ℕ} {start growing after : Growing} → IsInTurn g tree x start growing
    → ((root : ℕ) → IsEarTurn g root tree x growing → IsEarTurn g root tree x after) → HasRoom (length g.ids) after → after.order ≡ growing.order
    → IsInTurn g tree x start after
turn_still it turn has_room same_order = record {
  turn = λ root from_start. turn root (it.turn root from_start);
  has_turn = record { root = it.has_turn.root; turn = turn it.has_turn.root it.has_turn.turn };
  has_room = has_room;
  same_order = same_order ∙ it.same_order;
}

-- when all ends have been passed, all children have their marks
pub children_marked : (g : Topology) (root : ℕ) (tree : List TreeNode) (x : ℕ) (growing : Growing) (listed : List Bool) (ends : List End) (k : ℕ)
    → IsEarTurn g root tree x growing → slice_get g.ends x ≡ Some ends → length ends ≤ k
    → ArePassed (λ end. parent_of g tree end.to ≡ Some x → IsMarked listed end.to) ends k → (v : ℕ) → parent_of g tree v ≡ Some x → IsMarked listed v
children_marked g root tree x growing listed ends k turn list all passed v parent =
    let facts = facts_of g root tree turn.searched in
    let over = link_of_parent g tree v x parent in
    let it : IsEndOver ends over.0 v = leads_end g x over.0 v ends facts.kept list (lead_back g.links over.0 v x over.1) in
    subst (λ (w : ℕ). IsMarked listed w) it.to
    (passed it.place it.end (omega (arith, slice_get_within ends it.place it.end it.at, all)) it.at (subst (λ (w : ℕ). parent_of g tree w ≡ Some x) (sym it.to) parent))
  where
    link_of_parent : (g : Topology) (tree : List TreeNode) (v x : ℕ) → parent_of g tree v ≡ Some x → (e : ℕ) × (leads g.links e v ≡ Some x)
    link_of_parent g tree v x is = go (parent_link tree v) is
      where
        go : (o : Option ℕ) → option_and_then (λ e. leads g.links e v) o ≡ Some x → (e : ℕ) × (leads g.links e v ≡ Some x)
        go None is = cc
        go (Some e) is = (e, is)

-- the turn goes on to the next node
done_in : (g : Topology) (root : ℕ) (tree : List TreeNode) (x : ℕ) (growing : Growing) → IsEarTurn g root tree x growing → AreAllMarked g x growing.listed.items
    → IsDone g (growing.order.items ++ x ∷ reverse growing.waiting.items) x
done_in g root tree x growing turn done =
    record { ends = done.ends; list = done.list; all_inside = λ k end at. (turn.listed end.to).0 (done.marked k end at) }

turn_on : (g : Topology) (root : ℕ) (tree : List TreeNode) (x y : ℕ) (growing after : Growing) → IsEarTurn g root tree x growing
    → AreAllMarked g x growing.listed.items → after.order.items ≡ growing.order.items ++ x ∷ [] → growing.waiting.items ≡ after.waiting.items ++ y ∷ []
    → after.listed.items ≡ growing.listed.items → after.places.items ≡ growing.places.items → after.marks.items ≡ growing.marks.items → IsEarTurn g root tree y after
turn_on g root tree x y growing after turn done order waiting listed places marks =
    let later : reverse growing.waiting.items ≡ y ∷ reverse after.waiting.items =
    ap (λ (xs : List ℕ). reverse xs) waiting ∙ reverse-append after.waiting.items (y ∷ []) in
    let before : IsEarOrder g root tree growing.order.items x (y ∷ reverse after.waiting.items) turn.ears =
    subst (λ (xs : List ℕ). IsEarOrder g root tree growing.order.items x xs turn.ears) later turn.ordered in
    let done' : IsDone g (growing.order.items ++ x ∷ y ∷ reverse after.waiting.items) x =
    subst (λ (xs : List ℕ). IsDone g (growing.order.items ++ x ∷ xs) x) later (done_in g root tree x growing turn done) in
    let whole : after.order.items ++ y ∷ reverse after.waiting.items ≡ growing.order.items ++ x ∷ reverse growing.waiting.items =
    ap (λ (xs : List ℕ). xs ++ y ∷ reverse after.waiting.items) order ∙ turned growing.order.items x y (reverse after.waiting.items)
    ∙ ap (λ (xs : List ℕ). growing.order.items ++ x ∷ xs) (sym later) in
    record {
      searched = turn.searched;
      ears = turn.ears;
      ordered = subst (λ (xs : List ℕ). IsEarOrder g root tree xs y (reverse after.waiting.items) turn.ears) (sym order)
          (Turned growing.order.items x y (reverse after.waiting.items) turn.ears before done');
      one_mark_each = ap (λ (xs : List Bool). length xs) listed ∙ turn.one_mark_each;
      listed = subst (λ (xs : List Bool). AreListed xs (after.order.items ++ y ∷ reverse after.waiting.items)) (sym listed)
          (subst (λ (xs : List ℕ). AreListed growing.listed.items xs) (sym whole) turn.listed);
      one_place_each = ap (λ (xs : List Place). length xs) places ∙ turn.one_place_each;
      placed = subst (λ (xs : List Place). ArePlaces root turn.ears xs) (sym places) turn.placed;
      marked = subst (λ (xs : List Mark). AreWaysAndRoles g tree turn.ears xs) (sym marks) turn.marked;
    }

turns_end : (g : Topology) (root : ℕ) (tree : List TreeNode) (x : ℕ) (growing after : Growing) → IsEarTurn g root tree x growing
    → AreAllMarked g x growing.listed.items → after.order.items ≡ growing.order.items ++ x ∷ [] → growing.waiting.items ≡ []
    → after.places.items ≡ growing.places.items → after.marks.items ≡ growing.marks.items → IsEnded g root tree after
turns_end g root tree x growing after turn done order waiting places marks =
    let none : reverse growing.waiting.items ≡ [] = ap (λ (xs : List ℕ). reverse xs) waiting in
    let ordered : IsEarOrder g root tree growing.order.items x [] turn.ears =
    subst (λ (xs : List ℕ). IsEarOrder g root tree growing.order.items x xs turn.ears) none turn.ordered in
    let whole : growing.order.items ++ x ∷ reverse growing.waiting.items ≡ after.order.items =
    ap (λ (xs : List ℕ). growing.order.items ++ x ∷ xs) none ∙ sym order in
    record {
      searched = turn.searched;
      ears = turn.ears;
      are_ears = record {
        before = growing.order.items;
        last = x;
        ordered = ordered;
        whole = order;
        ended = subst (λ (xs : List ℕ). IsDone g xs x) whole (done_in g root tree x growing turn done);
      };
      one_place_each = ap (λ (xs : List Place). length xs) places ∙ turn.one_place_each;
      placed = subst (λ (xs : List Place). ArePlaces root turn.ears xs) (sym places) turn.placed;
      marked = subst (λ (xs : List Mark). AreWaysAndRoles g tree turn.ears xs) (sym marks) turn.marked;
    }

empty_of : (xs : List ℕ) → ¬ (0 < length xs) → xs ≡ []
empty_of [] none = refl
empty_of (x ∷ xs) none = absurd (none (omega arith))

-- where the pop gives a node it has the next turn
pub next_turn : (g : Topology) (tree : List TreeNode) (x : ℕ) (start growing after : Growing) (o : Option ℕ)
    → ((root : ℕ) → IsEarTurn g root tree x start → IsEarTurn g root tree x growing) → AreAllMarked g x growing.listed.items
    → after.order.items ≡ growing.order.items ++ x ∷ [] → growing.waiting.items ≡ after.waiting.items ++ option_to_list o
    → after.listed.items ≡ growing.listed.items → after.places.items ≡ growing.places.items → after.marks.items ≡ growing.marks.items
    → IfSome o (λ next. (root : ℕ) → IsEarTurn g root tree x start → IsEarTurn g root tree next after)
next_turn g tree x start growing after None on done order waiting listed places marks = tt
next_turn g tree x start growing after (Some y) on done order waiting listed places marks =
    λ root turn. turn_on g root tree x y growing after (on root turn) done order waiting listed places marks

-- and where it gives none all turns are over
pub no_turn : (g : Topology) (tree : List TreeNode) (x : ℕ) (start growing after : Growing) (o : Option ℕ)
    → ((root : ℕ) → IsEarTurn g root tree x start → IsEarTurn g root tree x growing) → AreAllMarked g x growing.listed.items
    → after.order.items ≡ growing.order.items ++ x ∷ [] → (0 < length growing.waiting.items → IsSome o)
    → after.places.items ≡ growing.places.items → after.marks.items ≡ growing.marks.items → IfNone o ((root : ℕ) → IsEarTurn g root tree x start → IsEnded g root tree after)
no_turn g tree x start growing after (Some y) on done order some places marks = tt
no_turn g tree x start growing after None on done order some places marks =
    λ root turn. turns_end g root tree x growing after (on root turn) done order
    (empty_of growing.waiting.items (λ more. let is = some more in cc)) places marks

-- there is room for the node whose turn is over
pub room_here : (g : Topology) (root : ℕ) (tree : List TreeNode) (x : ℕ) (growing : Growing) → IsEarTurn g root tree x growing
    → length growing.order.items < length g.ids
room_here g root tree x growing turn =
    let few = room_for_new g tree growing.order.items x growing.waiting.items [] (turn_kept g root tree x growing turn) in omega (arith, few)

-- the root alone
pub place_of_root : {X : Type 0} (n root : ℕ) (place : X) → root < n → slice_get (replicate n place) root ≡ Some place
place_of_root zero root place within = absurd (omega (arith, within))
place_of_root (suc n) zero place within = refl
place_of_root (suc n) (suc root) place within = place_of_root n root place (omega (arith, within))

-- without ears no link has a direction, and all links are plain
none_marked : (g : Topology) (tree : List TreeNode) (mark : Mark) → mark.way ≡ Unset → mark.role ≡ Plain → AreWaysAndRoles g tree [] (replicate (length g.links) mark)
none_marked g tree mark unset plain = record {
  one_each = length-replicate (length g.links) mark;
  directed = record {
    out = λ ear none. absurd (contains_none ear none);
    onward = λ ear v e none. absurd (contains_none ear none);
    others = λ e within none. ap (λ o. option_map (λ mark. mark.way) o) (place_of_root (length g.links) e mark within) ∙ ap (λ (way : Way). Some way) unset;
  };
  roles = record {
    sole = λ ear none. absurd (contains_none ear none);
    closing = λ ear e none. absurd (contains_none ear none);
    others = λ e within none. ap (λ o. option_map (λ mark. mark.role) o) (place_of_root (length g.links) e mark within) ∙ ap (λ (role : Role). Some role) plain;
  };
}

pub begins_at_root : (g : Topology) (root : ℕ) (tree : List TreeNode) (growing : Growing) → IsBeginning g root growing → root < length g.ids
    → IsSearchTree g root tree → IsEarTurn g root tree root growing
begins_at_root g root tree growing beginning within search =
    let root_place : Place = record { head = root; block = root } in
    let alone : growing.order.items ++ root ∷ reverse growing.waiting.items ≡ root ∷ [] =
    ap (λ (xs : List ℕ). xs ++ root ∷ reverse growing.waiting.items) beginning.order ∙ ap (λ (xs : List ℕ). root ∷ reverse xs) beginning.waiting in
    let place : slice_get growing.places.items root ≡ Some (record { head = root; block = root }) =
    ap (λ (xs : List Place). slice_get xs root) beginning.places ∙ place_of_root (length g.ids) root (record { head = root; block = root }) within in
    record {
      searched = record { kept = beginning.kept; within = within; search = search };
      ears = [];
      ordered = subst (λ (xs : List ℕ). IsEarOrder g root tree xs root (reverse growing.waiting.items) []) (sym beginning.order)
          (subst (λ (xs : List ℕ). IsEarOrder g root tree [] root (reverse xs) []) (sym beginning.waiting) Begun);
      one_mark_each = ap (λ (xs : List Bool). length xs) beginning.listed ∙ length-set (replicate (length g.ids) false) root true ∙ length-replicate (length g.ids) false;
      listed = subst (λ (xs : List ℕ). AreListed growing.listed.items xs) (sym alone)
          (subst (λ (xs : List Bool). AreListed xs (root ∷ [])) (sym beginning.listed) (root_listed (length g.ids) root within));
      one_place_each = ap (λ (xs : List Place). length xs) beginning.places ∙ length-replicate (length g.ids) root_place;
      placed = record {
        of_root = (ap (λ o. option_map (λ place. place.head) o) place, ap (λ o. option_map (λ place. place.block) o) place);
        of_block = λ ear v none. absurd (contains_none ear none);
        of_stop = λ ear v none. absurd (contains_none ear none);
      };
      marked = subst (λ (xs : List Mark). AreWaysAndRoles g tree [] xs) (sym beginning.marks) (none_marked g tree (record { way = Unset; role = Plain; block = root }) refl refl);
    }
  where
    root_listed : (n root : ℕ) → root < n → AreListed (set (replicate n false) root true) (root ∷ [])
    root_listed n root within v = (
      λ m. elim (cases_eq v root) [
        | inl same ↦ subst (λ (w : ℕ). Contains (root ∷ []) w) (sym same) (contains_first root [])
        | inr other ↦ absurd (no_mark_at_first n v (sym (get_or-set_other (replicate n false) root v true false other) ∙ m))
      ],
      λ c. elim (contains_cases root v [] c) [
        | inl same ↦ subst (λ (w : ℕ). IsMarked (set (replicate n false) root true) w) (sym same)
            (get_or-set_same (replicate n false) root true false (omega (arith, within, length-replicate n false)))
        | inr none ↦ absurd (contains_none v none)
      ],
    )

-- the parent of a node, as the tree has it
pub parent_touches : (g : Topology) (tree : List TreeNode) (v e : ℕ) (node : TreeNode) → HasSearch g tree → slice_get tree v ≡ Some node → node.parent ≡ Some e
    → IsSome (leads g.links e v)
parent_touches g tree v e node has there over =
    let link : parent_link tree v ≡ Some e = ap (λ o. option_and_then (λ node. node.parent) o) there ∙ over in
    let it = (facts_of g has.root tree has.searched).touches v e link in
    rw it.1 refl

pub parent_tells : (g : Topology) (tree : List TreeNode) (v e w x : ℕ) (node : TreeNode) → slice_get tree v ≡ Some node → node.parent ≡ Some e
    → leads g.links e v ≡ Some w → IsTrue (w == x) ↔ (parent_of g tree v ≡ Some x)
parent_tells g tree v e w x node there over onward =
    let parent : parent_of g tree v ≡ Some w =
    ap (λ o. option_and_then (λ e. leads g.links e v) (option_and_then (λ node. node.parent) o)) there
    ∙ ap (λ o. option_and_then (λ e. leads g.links e v) o) over ∙ onward in
    (λ same. parent ∙ ap (λ (u : ℕ). Some u) (eqb-true w x same), λ is. eq-eqb w x (same_Some w x (sym parent ∙ is)))

pub no_parent_tells : (g : Topology) (tree : List TreeNode) (v x : ℕ) (node : TreeNode) → slice_get tree v ≡ Some node → node.parent ≡ None
    → IsTrue false ↔ (parent_of g tree v ≡ Some x)
no_parent_tells g tree v x node there none =
    let parent : parent_of g tree v ≡ None =
    ap (λ o. option_and_then (λ e. leads g.links e v) (option_and_then (λ node. node.parent) o)) there
    ∙ ap (λ o. option_and_then (λ e. leads g.links e v) o) none in
    (λ same. cc, λ is. absurd (none_some x (sym parent ∙ is)))
  where
    none_some : (n : ℕ) → None ≡ Some n → ⊥
    none_some n same = cc
