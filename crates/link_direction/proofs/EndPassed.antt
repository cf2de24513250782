-- The end that is passed.
use Rattle.std.proofs.Common.{◌≡◌, ◌≢◌, ◌<◌, ◌+◌, ◌-◌, ◌++◌, ℕ, List, [], ◌∷◌, Some, length, set, slice_get, slice_index_or, inl, inr, sym, subst, arith, length-append}
use Rattle.std.specs.Prelude.{Contains}
use Rattle.std.proofs.lemmas.Bool.{cases_eq}
use Rattle.mrt_graph.specs.declared.gadag.Mark.{Mark}
use Rattle.mrt_graph.specs.declared.link.End.{End}
use Rattle.mrt_graph.specs.Topology.{Topology}
use Rattle.mrt_graph.proofs.ListPlaces.{at_left}
use Rattle.link_direction.specs.steps.Counting.{IsEndOf, IsUnderWay, entered_by}
use Rattle.link_direction.proofs.EnteredBy.{counted_from, enters_there}
use Rattle.link_direction.proofs.NextInOrder.{IsAtEnd, still_left}
use Rattle.link_direction.proofs.TakenOff.{end_kept, few_listed, in_longer, once_longer, passed_by, put_at_back, taken_off}

-- where a counted link enters the far node of the end, it leads away from the end's node
pub at_end : (g : Topology) (root : ℕ) (marks : List Mark) (place passed : ℕ) (counts order : List ℕ) (x : ℕ) (end : End)
    → IsUnderWay g root marks place passed counts order → slice_get order place ≡ Some x → IsEndOf g x passed end
    → entered_by g marks end.link ≡ Some end.to → IsAtEnd g root marks place passed counts order x end
at_end g root marks place passed counts order x end state here end_here enters = record {
  under_way = state;
  here = here;
  end_here = end_here;
  counted = counted_from g marks end.link x end.to enters (end_kept g x passed end state.kept end_here).leads_on;
}

-- there is room for one more node
pub room_for : (g : Topology) (root : ℕ) (marks : List Mark) (place passed : ℕ) (counts order : List ℕ) (x : ℕ) (end : End)
    → IsAtEnd g root marks place passed counts order x end → length order < length g.ids
room_for g root marks place passed counts order x end at =
    let state = at.under_way in
    let outside : Contains order end.to → ⊥ =
    λ listed. state.none_left end.link end.to listed (still_left g root marks place passed counts order x end at) in
    let within : (v : ℕ) → Contains (order ++ end.to ∷ []) v → v < length g.ids = λ v c. elim (in_longer order end.to v c) [
      | inl before ↦ state.within v before
      | inr same ↦ subst (λ (w : ℕ). w < length g.ids) same (end_kept g x passed end state.kept at.end_here).to
    ] in
    omega (arith, few_listed (length g.ids) (order ++ end.to ∷ []) (once_longer order end.to state.once outside) within, length-append order (end.to ∷ []))

-- the list is as before, or has one more
pub grown : (order order' : List ℕ) (v count place x : ℕ) → (count ≡ 1 → order' ≡ order ++ v ∷ []) → (count ≢ 1 → order' ≡ order)
    → slice_get order place ≡ Some x → slice_get order' place ≡ Some x
grown order order' v count place x put kept here = elim (cases_eq count 1) [
  | inl one ↦ subst (λ (xs : List ℕ). slice_get xs place ≡ Some x) (sym (put one)) (at_left order (v ∷ []) place x here)
  | inr more ↦ subst (λ (xs : List ℕ). slice_get xs place ≡ Some x) (sym (kept more)) here
]

-- the end with a counted link is passed
pub pass_over : (g : Topology) (root : ℕ) (marks : List Mark) (place passed : ℕ) (counts counts' order order' : List ℕ) (x : ℕ) (end : End)
    → IsAtEnd g root marks place passed counts order x end → counts' ≡ set counts end.to (slice_index_or counts end.to 0 - 1)
    → (slice_index_or counts end.to 0 ≡ 1 → order' ≡ order ++ end.to ∷ []) → (slice_index_or counts end.to 0 ≢ 1 → order' ≡ order)
    → IsUnderWay g root marks place (passed + 1) counts' order'
pass_over g root marks place passed counts counts' order order' x end at set_there put kept = elim (cases_eq (slice_index_or counts end.to 0) 1) [
  | inl one ↦
      subst (λ (xs : List ℕ). IsUnderWay g root marks place (passed + 1) counts' xs) (sym (put one))
      (put_at_back g root marks place passed counts counts' order x end at one set_there)
  | inr more ↦
      subst (λ (xs : List ℕ). IsUnderWay g root marks place (passed + 1) counts' xs) (sym (kept more))
      (taken_off g root marks place passed counts counts' order x end at more set_there)
]

-- and so is any other end
pub no_end : (g : Topology) (root : ℕ) (marks : List Mark) (place passed : ℕ) (counts order : List ℕ) (x : ℕ) (end : End)
    → IsUnderWay g root marks place passed counts order → slice_get order place ≡ Some x → IsEndOf g x passed end
    → (entered_by g marks end.link ≡ Some end.to → ⊥) → IsUnderWay g root marks place (passed + 1) counts order
no_end g root marks place passed counts order x end state here end_here none =
    passed_by g root marks place passed counts order x end state here end_here (λ counted. none (enters_there g marks end.link x end.to counted))
