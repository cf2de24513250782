-- The order of node identifiers, and identifiers that ascend.
use Rattle.std.proofs.Common.{◌≡◌, ◌≢◌, ◌<◌, ◌≤◌, ℕ, zero, suc, List, [], ◌∷◌, Some, length, get_or, inl, inr, refl, subst, arith}
use Rattle.std.specs.Prelude.{slice_get}
use Rattle.std.specs.Cmp.{IsTotalOrder}
use Rattle.std.specs.List.Sorted.{IsStrictlySortedBy}
use Rattle.std.specs.Ordering.{nat_cmp}
use Rattle.std.specs.declared.cmp.Ordering.TheVariants.{Less, Equal, Greater}
use Rattle.std.proofs.lemmas.Bool.{cases_lt, cases_order, le-ltb, ne_eqb}
use Rattle.std.proofs.lemmas.Cmp.{nat_cmp_total, on_total, then_total, tied_itself}
use Rattle.std.proofs.lemmas.Map.Keys.{Less-from_sorted}
use Rattle.mrt_graph.specs.declared.node_id.Kind.{Kind}
use Rattle.mrt_graph.specs.declared.node_id.Kind.TheVariants.{Router, Network}
use Rattle.mrt_graph.specs.declared.node_id.NodeId.{NodeId}
use Rattle.mrt_graph.specs.NodeOrder.{node_id_cmp, rank_of}
use Rattle.mrt_graph.proofs.ListTests.{all_at}
use Rattle.mrt_graph.proofs.Ties.{less_not_equal, nat_tie, then_tie}

-- the order is total
pub node_id_total : IsTotalOrder node_id_cmp
node_id_total = then_total (on_total (λ id. id.number) nat_cmp_total) (on_total (λ id. rank_of id.kind) nat_cmp_total)

same_kind : (one other : Kind) → rank_of one ≡ rank_of other → one ≡ other
same_kind Router Router e = refl
same_kind Router Network e = absurd (omega (arith, e))
same_kind Network Router e = absurd (omega (arith, e))
same_kind Network Network e = refl

-- identifiers of one number and one kind are one
pub same_parts : (one other : NodeId) → one.number ≡ other.number → rank_of one.kind ≡ rank_of other.kind → one ≡ other
same_parts one other number rank = let kind = same_kind one.kind other.kind rank in λ i. record { kind = kind i; number = number i }

-- identifiers of which neither is above the other are one
pub tied_nodes : (one other : NodeId) → node_id_cmp one other ≡ Equal → one ≡ other
tied_nodes one other e =
    let parts = then_tie (nat_cmp one.number other.number) (nat_cmp (rank_of one.kind) (rank_of other.kind)) e in
    same_parts one other (nat_tie one.number other.number parts.0) (nat_tie (rank_of one.kind) (rank_of other.kind) parts.1)

-- a lower place has a lower identifier, so another one
pub lower_differs : (ids : List NodeId) (j k : ℕ) (d : NodeId) → IsStrictlySortedBy node_id_cmp ids → j < k → k < length ids
    → get_or ids j d ≢ get_or ids k d
lower_differs ids j k d ascend lt within = λ same.
    less_not_equal (node_id_cmp (get_or ids j d) (get_or ids k d)) (Less-from_sorted node_id_cmp ids j k d ascend lt within)
    (subst (λ (id : NodeId). node_id_cmp (get_or ids j d) id ≡ Equal) same (tied_itself node_id_total (get_or ids j d)))

-- of two places the earlier one has the lower identifier
pub ascend_at : (ids : List NodeId) (j k : ℕ) (x y : NodeId) → IsStrictlySortedBy node_id_cmp ids → j < k → slice_get ids j ≡ Some x → slice_get ids k ≡ Some y → node_id_cmp x y ≡ Less
unfolding IsStrictlySortedBy
ascend_at [] j k x y up before at_j at_k = absurd cc
ascend_at (z ∷ zs) zero zero x y up before at_j at_k = absurd (omega (arith, before))
ascend_at (z ∷ zs) zero (suc k) x y up before at_j at_k =
    let same : z ≡ x = cc in
    subst (λ (w : NodeId). node_id_cmp w y ≡ Less) same (all_at (λ id. node_id_cmp z id ≡ Less) zs k y up.0 at_k)
ascend_at (z ∷ zs) (suc j) zero x y up before at_j at_k = absurd (omega (arith, before))
ascend_at (z ∷ zs) (suc j) (suc k) x y up before at_j at_k = ascend_at zs j k x y up.1 (omega (arith, before)) at_j at_k

-- a lower identifier has no higher number
pub less_is_lower : (x y : NodeId) → node_id_cmp x y ≡ Less → x.number ≤ y.number
less_is_lower x y less = elim (cases_lt y.number x.number) [
  | inl above ↦
      let greater : node_id_cmp x y ≡ Greater = rw (le-ltb x.number y.number (omega arith), ne_eqb x.number y.number (λ same. omega (arith, above, same))) refl in
      absurd cc
  | inr lower ↦ lower
]

-- an identifier is not below itself
pub not_below_itself : (x : NodeId) → node_id_cmp x x ≡ Less → ⊥
not_below_itself x less = let same : node_id_cmp x x ≡ Equal = tied_itself node_id_total x in cc

-- one identifier stands at one place
pub one_place : (ids : List NodeId) (j k : ℕ) (x : NodeId) → IsStrictlySortedBy node_id_cmp ids → slice_get ids j ≡ Some x → slice_get ids k ≡ Some x → j ≡ k
one_place ids j k x up at_j at_k = elim (cases_order j k) [
  | inl same ↦ same
  | inr apart ↦ elim apart [
    | inl before ↦ absurd (not_below_itself x (ascend_at ids j k x x up before at_j at_k))
    | inr after ↦ absurd (not_below_itself x (ascend_at ids k j x x up after at_k at_j))
  ]
]
