-- When node identifiers are one.
use Rattle.std.proofs.Common.{◌≢◌, false, ◌≡◌, ◌∙◌, ◌&&◌, ◌==◌, ℕ, Bool, true, refl, ap, subst, arith}
use Rattle.std.specs.declared.cmp.Ordering.{Ordering}
use Rattle.std.specs.declared.cmp.Ordering.TheVariants.{Less, Equal, Greater}
use Rattle.std.specs.Ordering.{is_eq, nat_cmp, ordering_then, eq_by_cmp}
use Rattle.std.proofs.lemmas.Bool.{eqb-true, eq-eqb, and_parts}
use Rattle.std.proofs.lemmas.Bool.Decides.{nat_tests}
use Rattle.mrt_graph.specs.NodeOrder.{rank_of, node_id_cmp}
use Rattle.mrt_graph.specs.declared.node_id.NodeId.{NodeId}
use Rattle.mrt_graph.specs.SameGraph.{same_id}
use Rattle.mrt_graph.proofs.NodeIds.{same_parts}

-- two identifiers that are told to be one are one
pub one_node : (one other : NodeId) → same_id one other ≡ true → one ≡ other
one_node one other e =
    let parts = and_parts (one.number == other.number) (rank_of one.kind == rank_of other.kind) e in
    same_parts one other (eqb-true one.number other.number parts.0) (eqb-true (rank_of one.kind) (rank_of other.kind) parts.1)

pub same_itself : (id : NodeId) → same_id id id ≡ true
same_itself id = let number = eq-eqb id.number id.number refl in let kind = eq-eqb (rank_of id.kind) (rank_of id.kind) refl in rw (number, kind) refl

pub not_one_node : (one other : NodeId) → one ≢ other → same_id one other ≡ false
not_one_node one other differ = go (same_id one other) refl
  where
    go : (b : Bool) → same_id one other ≡ b → same_id one other ≡ false
    go true e = absurd (differ (one_node one other e))
    go false e = e

both_equal : (o p : Ordering) → is_eq (ordering_then o p) ≡ (is_eq o && is_eq p)
both_equal Less p = refl
both_equal Equal p = refl
both_equal Greater p = refl

pub equal_numbers : (m n : ℕ) → is_eq (nat_cmp m n) ≡ (m == n)
equal_numbers m n = grind (arith, nat_tests)

-- the order tells whether they are one
pub ties_are_same : (a b : NodeId) → eq_by_cmp node_id_cmp a b ≡ same_id a b
ties_are_same a b =
    both_equal (nat_cmp a.number b.number) (nat_cmp (rank_of a.kind) (rank_of b.kind))
    ∙ ap (λ (c : Bool). c && is_eq (nat_cmp (rank_of a.kind) (rank_of b.kind))) (equal_numbers a.number b.number)
    ∙ ap (λ (c : Bool). (a.number == b.number) && c) (equal_numbers (rank_of a.kind) (rank_of b.kind))

pub flipped : (one other : NodeId) → same_id one other ≡ true → same_id other one ≡ true
flipped one other same = subst (λ (x : NodeId). same_id x one ≡ true) (one_node one other same) (same_itself one)
