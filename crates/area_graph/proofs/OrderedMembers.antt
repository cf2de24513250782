-- A list in order has the members of the list, each as often.
use Rattle.std.proofs.Common.{◌≡◌, ◌∙◌, Bool, List, sym}
use Rattle.std.specs.declared.cmp.Ordering.{Ordering}
use Rattle.mrt_graph.specs.InOrder.{in_order}
use Rattle.mrt_graph.proofs.InOrder.{all_in_order, sum_by-in_order}
use Rattle.mrt_graph.proofs.Members.{Has, all_has, all_from_has}
use Rattle.mrt_graph.proofs.Tallies.{count_is_tally, one_if, tally}

pub has_in_order : {X : Type 0} (cmp : X → X → Ordering) (xs : List X) (x : X) → Has (in_order cmp xs) x → Has xs x
has_in_order cmp xs x has = all_has (Has xs) (in_order cmp xs) x (all_in_order cmp (Has xs) xs (all_from_has (Has xs) xs (λ y at. at))) has

pub tally_in_order : {X : Type 0} (cmp : X → X → Ordering) (p : X → Bool) (xs : List X) → tally p (in_order cmp xs) ≡ tally p xs
tally_in_order cmp p xs = sym (count_is_tally p (in_order cmp xs)) ∙ sum_by-in_order cmp (λ x. one_if (p x)) xs ∙ count_is_tally p xs
