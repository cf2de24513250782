-- The place of an identifier among ascending ones.
use Rattle.std.proofs.Common.{◌≡◌, ◌<◌, ◌+◌, ◌∙◌, ℕ, zero, suc, Bool, true, false, cond, List, [], ◌∷◌, length, get_or, inl, inr, refl, sym, ap, subst, arith, Option, Some, None, IfSome, IsNone, ◌↔◌, Result, Ok, Err, Contains, slice_get}
use Rattle.std.specs.List.{position, position_or_len, AllByRecursion}
use Rattle.std.specs.Prelude.{nat_lt}
use Rattle.std.specs.List.Sorted.{IsStrictlySortedBy, IsBinarySearchResult, IsSearchInRange, IsSortedBy}
use Rattle.std.specs.Ordering.{is_lt, ordering_reverse}
use Rattle.std.specs.Result.{result_ok}
use Rattle.std.specs.declared.cmp.Ordering.TheVariants.{Equal}
use Rattle.std.proofs.lemmas.Bool.{cases_lt, le-ltb, lt-ltb}
use Rattle.std.proofs.lemmas.Cmp.{tied_itself}
use Rattle.std.proofs.lemmas.List.Elements.{recursion_from_All}
use Rattle.std.proofs.lemmas.List.Quantifiers.{position-Some}
use Rattle.std.proofs.lemmas.List.Sorted.{searchable_from_sorted}
use Rattle.std.proofs.lemmas.Map.Keys.{Less-from_sorted}
use Rattle.std.proofs.lemmas.Option.{slice_get-get_or, get_or_from_slice_get}
use Rattle.mrt_graph.specs.NodeOrder.{node_id_cmp}
use Rattle.mrt_graph.specs.declared.node_id.NodeId.{NodeId}
use Rattle.mrt_graph.specs.NodeIds.{number_of}
use Rattle.mrt_graph.specs.SameGraph.{same_id}
use Rattle.mrt_graph.proofs.NodeIds.{lower_differs, node_id_total, tied_nodes}
use Rattle.mrt_graph.proofs.Ties.{greater_not_equal, less_not_equal}
use Rattle.mrt_graph.proofs.SameIds.{not_one_node, one_node, same_itself}

-- the place of the first element that passes
first_len : {X : Type 0} (p : X → Bool) (xs : List X) (i : ℕ) (d : X) → i < length xs → p (get_or xs i d) ≡ true → ((k : ℕ) → k < i → p (get_or xs k d) ≡ false) → position_or_len p xs ≡ i
first_len p [] i d lt passes none = absurd (omega arith)
first_len p (x ∷ xs) zero d lt passes none = rw passes refl
first_len p (x ∷ xs) (suc i) d lt passes none =
    let here : p x ≡ false = none 0 (omega arith) in
    let rest = first_len p xs i d (omega arith) passes (λ k low. none (suc k) (omega (arith, low))) in
    rw here (omega (arith, rest))

pub first_place : {X : Type 0} (p : X → Bool) (xs : List X) (i : ℕ) (d : X) → i < length xs → p (get_or xs i d) ≡ true → ((k : ℕ) → k < i → p (get_or xs k d) ≡ false) → position p xs ≡ Some i
first_place p xs i d lt passes none =
    let at : position_or_len p xs ≡ i = first_len p xs i d lt passes none in
    let within = lt-ltb i (length xs) lt in
    subst (λ (n : ℕ). cond (nat_lt n (length xs)) (Some n) None ≡ Some i) (sym at) (rw within refl)

none_len : {X : Type 0} (p : X → Bool) (xs : List X) → AllByRecursion (λ x. p x ≡ false) xs → position_or_len p xs ≡ length xs
none_len p [] none = refl
none_len p (x ∷ xs) none = let rest = none_len p xs none.1 in rw none.0 (omega (arith, rest))

pub no_place : {X : Type 0} (p : X → Bool) (xs : List X) → AllByRecursion (λ x. p x ≡ false) xs → position p xs ≡ None
no_place p xs none =
    let at : position_or_len p xs ≡ length xs = none_len p xs none in
    let past = le-ltb (length xs) (length xs) (omega arith) in
    subst (λ (n : ℕ). cond (nat_lt n (length xs)) (Some n) None ≡ None) (sym at) (rw past refl)

pub place_of_one : (ids : List NodeId) (i : ℕ) (id : NodeId) → IsStrictlySortedBy node_id_cmp ids → i < length ids → get_or ids i id ≡ id → number_of ids id ≡ Some i
place_of_one ids i id ascend lt there =
    first_place (same_id id) ids i id lt (subst (λ (x : NodeId). same_id id x ≡ true) (sym there) (same_itself id))
    (λ k low. not_one_node id (get_or ids k id) (λ same. lower_differs ids k i id ascend low lt (sym same ∙ sym there)))

sorted_pairs : (ids : List NodeId) → IsStrictlySortedBy node_id_cmp ids → IsSortedBy (λ a b. is_lt (node_id_cmp a b)) ids
sorted_pairs ids ascend = λ k d low within.
    let less = Less-from_sorted node_id_cmp ids k (k + 1) d ascend (omega arith) within in
    ap is_lt (node_id_total.antisymm (get_or ids (k + 1) d) (get_or ids k d) ∙ ap ordering_reverse less)

pub place_tells : (ids : List NodeId) (id : NodeId) (r : Result ℕ ℕ) → IsStrictlySortedBy node_id_cmp ids → IsSearchInRange r (length ids)
    → IsBinarySearchResult (λ y. node_id_cmp y id) ids r → result_ok r ≡ number_of ids id
place_tells ids id (Ok i) ascend inside found = sym (place_of_one ids i id ascend inside (tied_nodes (get_or ids i id) id (found id)))
place_tells ids id (Err i) ascend inside found =
    let parts = found (searchable_from_sorted node_id_total (λ (x : NodeId). x) ids id (sorted_pairs ids ascend)) in
    sym (no_place (same_id id) ids (recursion_from_All (λ x. same_id id x ≡ false) ids (λ k d lt. not_one_node id (get_or ids k d) (λ same.
    let tie : node_id_cmp (get_or ids k d) id ≡ Equal = subst (λ (x : NodeId). node_id_cmp x id ≡ Equal) same (tied_itself node_id_total id) in
    elim (cases_lt k i) [
      | inl before ↦ less_not_equal (node_id_cmp (get_or ids k d) id) (parts.0 k d (omega arith) before) tie
      | inr behind ↦ greater_not_equal (node_id_cmp (get_or ids k d) id) (parts.1 k d behind lt) tie
    ]))))

pub number_within : (ids : List NodeId) (id : NodeId) (i : ℕ) → number_of ids id ≡ Some i → i < length ids
number_within ids id i e = (position-Some (same_id id) ids i id e).0

pub number_found : (ids : List NodeId) (id : NodeId) (i : ℕ) → number_of ids id ≡ Some i → slice_get ids i ≡ Some id
number_found ids id i e =
    let parts = position-Some (same_id id) ids i id e in
    let is : id ≡ get_or ids i id = one_node id (get_or ids i id) parts.1 in
    slice_get-get_or ids i id parts.0 ∙ ap (λ (x : NodeId). Some x) (sym is)

pub contained_by_number : (ids : List NodeId) (id : NodeId) (i : ℕ) → number_of ids id ≡ Some i → Contains ids id
contained_by_number ids id i e = (i, number_within ids id i e, get_or_from_slice_get ids i id id (number_found ids id i e))

-- what place_of tells
pub record Told (ids : List NodeId) (id : NodeId) (r : Option ℕ) : Type 0 where
  pub found : IfSome r (λ k. slice_get ids k ≡ Some id)
  pub within : IfSome r (λ k. k < length ids)
  pub none : IsNone r ↔ (Contains ids id → ⊥)

pub told : (ids : List NodeId) (id : NodeId) (r : Option ℕ) → IsStrictlySortedBy node_id_cmp ids → r ≡ number_of ids id → Told ids id r
told ids id None ascend e = record {
  found = tt;
  within = tt;
  none = ((λ is there. none_is_some (e ∙ place_of_one ids there.0 id ascend there.1 there.2)), λ absent. refl);
}
  where
    none_is_some : {k : ℕ} → None ≡ Some k → ⊥
    none_is_some h = absurd cc
told ids id (Some k) ascend e = record {
  found = number_found ids id k (sym e);
  within = number_within ids id k (sym e);
  none = ((λ is there. absurd cc), λ absent. absurd (absent (contained_by_number ids id k (sym e))));
}
