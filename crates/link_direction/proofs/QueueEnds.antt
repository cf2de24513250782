-- How the queue begins, goes on from turn to turn, and ends.
use Rattle.std.proofs.Common.{◌≡◌, ◌<◌, ◌≤◌, ◌+◌, ℕ, List, [], ◌∷◌, Some, length, slice_get, inl, inr, sym, subst, arith}
use Rattle.std.proofs.lemmas.Option.{slice_get_within}
use Rattle.mrt_graph.specs.declared.gadag.Mark.{Mark}
use Rattle.mrt_graph.specs.declared.link.End.{End}
use Rattle.mrt_graph.specs.GraphInvariant.{IsTopology}
use Rattle.mrt_graph.specs.Topology.{Topology}
use Rattle.mrt_graph.proofs.ListPlaces.{place_of}
use Rattle.mrt_graph.proofs.Members.{contains_cases, contains_none}
use Rattle.gadag_ears.specs.Counted.{IsCounted}
use Rattle.link_direction.specs.steps.Counting.{AreCounts, IsUnderWay, entered_by}
use Rattle.link_direction.specs.GadagOrder.{Begun, IsWholeOrder}
use Rattle.link_direction.proofs.EnteredBy.{counted_into, enters_there}
use Rattle.link_direction.proofs.PassedEnds.{passed_before, passed_in_turn, still_under_way, turn_passed}

-- the root alone, before its turn
pub begins : (g : Topology) (root : ℕ) (marks : List Mark) (counts : List ℕ) → IsTopology g → root < length g.ids
    → ((e u : ℕ) → IsCounted g marks e u root → ⊥) → AreCounts (entered_by g marks) (length g.links) (length g.ids) counts
    → IsUnderWay g root marks 0 0 counts (root ∷ [])
begins g root marks counts kept within none_enters are = record {
  kept = kept;
  ordered = Begun;
  once = λ j k v at_j at_k. omega (arith, slice_get_within (root ∷ []) j v at_j, slice_get_within (root ∷ []) k v at_k);
  within = λ v c. elim (contains_cases root v [] c) [
    | inl same ↦ subst (λ (w : ℕ). w < length g.ids) (sym same) within
    | inr none ↦ absurd (contains_none v none)
  ];
  left = entered_by g marks;
  are_counts = are;
  counted = counted_into g marks;
  not_passed = λ e u v left counted it. elim it.before [ inl earlier ↦ omega (arith, earlier) | inr same ↦ omega (arith, same.1) ];
  or_passed = λ e u v counted. inl (enters_there g marks e u v counted);
  none_left = λ e v c left. elim (contains_cases root v [] c) [
    | inl same ↦ let it = counted_into g marks e root (subst (λ (w : ℕ). entered_by g marks e ≡ Some w) same left) in none_enters e it.0 it.1
    | inr none ↦ contains_none v none
  ];
  all_listed = λ e u v counted none. absurd (none e (enters_there g marks e u v counted));
}

-- when all its ends are passed the turn of a node is over
pub turn_over : (g : Topology) (root : ℕ) (marks : List Mark) (place x : ℕ) (ends : List End) (counts order : List ℕ)
    → IsUnderWay g root marks place (length ends) counts order → slice_get order place ≡ Some x → slice_get g.ends x ≡ Some ends
    → IsUnderWay g root marks (place + 1) 0 counts order
turn_over g root marks place x ends counts order state here list =
    still_under_way g root marks place (length ends) (place + 1) 0 counts order state
    (λ e u v left counted it. state.not_passed e u v left counted (turn_passed g order place x e u ends here list it))
    (λ e u v counted. elim (state.or_passed e u v counted) [
      | inl left ↦ inl left
      | inr it ↦ inr (passed_in_turn g order place (length ends) e u it)
    ])

-- when all turns are over no node is ready
pub all_over : (g : Topology) (root : ℕ) (marks : List Mark) (place : ℕ) (counts order : List ℕ) → IsUnderWay g root marks place 0 counts order
    → length order ≤ place → IsWholeOrder g root marks order
all_over g root marks place counts order state all = record {
  ordered = state.ordered;
  ended = λ v ready. ready.outside (state.all_listed ready.entered.0 ready.entered.1 v ready.entered.2 (λ d left.
      let it = state.counted d v left in
      let in_list = ready.from_list d it.0 it.1 in
      let node = place_of order it.0 in_list in
      state.not_passed d it.0 v left it.1 (passed_before g order place 0 node.0 d it.0 v state.kept (state.within it.0 in_list) node.1 it.1.to
      (λ end_at ends end list there over. inl (omega (arith, all, slice_get_within order node.0 it.0 node.1))))));
}
