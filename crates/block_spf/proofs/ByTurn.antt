-- The nodes by their turns.
use Rattle.std.proofs.Common.{◌≡◌, ◌≢◌, ◌<◌, ◌≤◌, ◌+◌, ◌-◌, ◌∙◌, ℕ, zero, suc, List, ◌∷◌, Some, get_or, length, slice_get, inl, inr, refl, sym, ap, subst, arith}
use Rattle.std.specs.Prelude.{Contains}
use Rattle.std.proofs.lemmas.Bool.{cases_eq}
use Rattle.std.proofs.lemmas.Option.{same_Some, slice_get_read, slice_get_within}
use Rattle.mrt_graph.specs.DirectedLists.{DirectedLists}
use Rattle.mrt_graph.specs.Topology.{Topology}
use Rattle.mrt_graph.proofs.FewNumbers.{IsAtOnePlace, few_numbers}
use Rattle.mrt_graph.proofs.ListPlaces.{contains_at, place_of}
use Rattle.mrt_graph.proofs.Members.{Has, contains_from_has, listed_or_not}
use Rattle.link_direction.specs.Directions.{Directions}
use Rattle.block_spf.specs.declared.reach.Dir.{Dir}
use Rattle.block_spf.specs.declared.reach.Dir.TheVariants.{Down, Up}
use Rattle.link_direction.specs.OrderedGadag.{IsOrderedGadag}
use Rattle.block_spf.specs.HasDirections.{AreDirections, HasDirections}
use Rattle.block_spf.specs.Turns.{AreTurns, turn_at, turn_of}

-- a list of so many numbers that differ, from 1 to its length, has each of them
pub record AreAll (orders : List ℕ) : Type 0 where
  pub low : (v k : ℕ) → slice_get orders v ≡ Some k → 1 ≤ k
  pub high : (v k : ℕ) → slice_get orders v ≡ Some k → k ≤ length orders
  pub differ : (u v k : ℕ) → slice_get orders u ≡ Some k → slice_get orders v ≡ Some k → u ≡ v

pub each_taken : (orders : List ℕ) (k : ℕ) → AreAll orders → 1 ≤ k → k ≤ length orders → Contains orders k
each_taken orders k are low high = elim (listed_or_not orders k) [
  | inl listed ↦ listed
  | inr none ↦ absurd (omega (arith, few_numbers (length orders + 1) (0 ∷ k ∷ orders) below (alone none)))
]
  where
    below : (v : ℕ) → Has (0 ∷ k ∷ orders) v → v < length orders + 1
    below v (inl zero_is) = omega (arith, zero_is)
    below v (inr (inl k_is)) = omega (arith, k_is, high)
    below v (inr (inr listed)) = let at = place_of orders v (contains_from_has orders v listed) in omega (arith, are.high at.0 v at.1)

    listed_at : (j : ℕ) → slice_get orders j ≡ Some k → Contains orders k
    listed_at j at = contains_at orders j k at

    alone : (Contains orders k → ⊥) → (v : ℕ) → IsAtOnePlace (0 ∷ k ∷ orders) v
    alone none v zero zero at_i at_j = refl
    alone none v zero (suc zero) at_i at_j = absurd (omega (arith, low, same_Some 0 v at_i, same_Some k v at_j))
    alone none v zero (suc (suc j)) at_i at_j = absurd (omega (arith, are.low j v at_j, same_Some 0 v at_i))
    alone none v (suc zero) zero at_i at_j = absurd (omega (arith, low, same_Some k v at_i, same_Some 0 v at_j))
    alone none v (suc zero) (suc zero) at_i at_j = refl
    alone none v (suc zero) (suc (suc j)) at_i at_j = absurd (none (listed_at j (at_j ∙ ap (λ (x : ℕ). Some x) (sym (same_Some k v at_i)))))
    alone none v (suc (suc i)) zero at_i at_j = absurd (omega (arith, are.low i v at_i, same_Some 0 v at_j))
    alone none v (suc (suc i)) (suc zero) at_i at_j = absurd (none (listed_at i (at_i ∙ ap (λ (x : ℕ). Some x) (sym (same_Some k v at_j)))))
    alone none v (suc (suc i)) (suc (suc j)) at_i at_j = let same : i ≡ j = are.differ i j v at_i at_j in omega (arith, same)

orders_all : (g : Topology) (d : DirectedLists) (root : ℕ) (w : Directions) → AreDirections g d root w → AreAll d.orders
orders_all g d root w are = record {
  low = λ v k at. omega (arith, are.ordered.orders.from_one v (within v k at), is v k at);
  high = λ v k at. omega (arith, are.ordered.orders.to_n v (within v k at), is v k at, are.says.one_order_each);
  differ = λ u v k at_u at_v. are.ordered.orders.differ u v (within u k at_u) (within v k at_v) (sym (is u k at_u) ∙ is v k at_v);
}
  where
    within : (v k : ℕ) → slice_get d.orders v ≡ Some k → v < length g.ids
    within v k at = omega (arith, slice_get_within d.orders v k at, are.says.one_order_each)

    is : (v k : ℕ) → slice_get d.orders v ≡ Some k → k ≡ w.order v
    is v k at = same_Some k (w.order v) (sym at ∙ are.says.orders v (within v k at))

-- some node has each order
pub node_of_order : (g : Topology) (d : DirectedLists) (root : ℕ) (w : Directions) (k : ℕ) → AreDirections g d root w → 1 ≤ k → k ≤ length g.ids
    → (v : ℕ) × (v < length g.ids) × (w.order v ≡ k)
node_of_order g d root w k are low high =
    let listed = each_taken d.orders k (orders_all g d root w are) low (omega (arith, high, are.says.one_order_each)) in
    let at = place_of d.orders k listed in
    let within : at.0 < length g.ids = omega (arith, slice_get_within d.orders at.0 k at.1, are.says.one_order_each) in
    (at.0, within, same_Some (w.order at.0) k (sym (are.says.orders at.0 within) ∙ at.1))

-- turns lie below the count of nodes
turn_within : (dir : Dir) (n a : ℕ) → 1 ≤ a → a ≤ n → turn_at dir n a < n
turn_within Up n a low high = omega (arith, low, high)
turn_within Down n a low high = omega (arith, low, high)

pub turn_in : (g : Topology) (root : ℕ) (w : Directions) (dir : Dir) (v : ℕ) → IsOrderedGadag g root w → v < length g.ids → turn_of dir (length g.ids) w v < length g.ids
turn_in g root w dir v is within = turn_within dir (length g.ids) (w.order v) (is.orders.from_one v within) (is.orders.to_n v within)

-- some node has each turn
order_at : Dir → ℕ → ℕ → ℕ
order_at Up n i = i + 1
order_at Down n i = n - i

turn_back : (dir : Dir) (n i : ℕ) → i < n → turn_at dir n (order_at dir n i) ≡ i
unfolding order_at
turn_back Up n i within = omega arith
turn_back Down n i within = omega (arith, within)

order_low : (dir : Dir) (n i : ℕ) → i < n → 1 ≤ order_at dir n i
unfolding order_at
order_low Up n i within = omega arith
order_low Down n i within = omega (arith, within)

order_high : (dir : Dir) (n i : ℕ) → i < n → order_at dir n i ≤ n
unfolding order_at
order_high Up n i within = omega (arith, within)
order_high Down n i within = omega arith

pub node_of_turn : (g : Topology) (d : DirectedLists) (root : ℕ) (w : Directions) (dir : Dir) (i : ℕ) → AreDirections g d root w → i < length g.ids
    → (v : ℕ) × (v < length g.ids) × (turn_of dir (length g.ids) w v ≡ i)
node_of_turn g d root w dir i are within =
    let n = length g.ids in
    let node = node_of_order g d root w (order_at dir n i) are (order_low dir n i within) (order_high dir n i within) in
    (node.0, node.1, ap (λ (k : ℕ). turn_at dir n k) node.2 ∙ turn_back dir n i within)

-- the first nodes stand at their turns
pub record AreSet (g : Topology) (w : Directions) (dir : Dir) (count : ℕ) (turns : List ℕ) : Type 0 where
  pub one_each : length turns ≡ length g.ids
  pub of_each : (v : ℕ) → v < count → slice_get turns (turn_of dir (length g.ids) w v) ≡ Some v

-- all of them do
pub all_set : (g : Topology) (d : DirectedLists) (root : ℕ) (w : Directions) (dir : Dir) (count : ℕ) (turns : List ℕ) → AreDirections g d root w → length g.ids ≤ count
    → AreSet g w dir count turns → AreTurns g w dir turns
all_set g d root w dir count turns are all set_so_far = record {
  one_each = set_so_far.one_each;
  of_each = λ v within. set_so_far.of_each v (omega (arith, within, all));
  within = λ i v at. (node i v at).0;
  by_turn = λ i v at. (node i v at).1;
}
  where
    n : ℕ
    n = length g.ids

    node : (i v : ℕ) → slice_get turns i ≡ Some v → (v < n) × (turn_of dir n w v ≡ i)
    node i v at =
        let it = node_of_turn g d root w dir i are (omega (arith, slice_get_within turns i v at, set_so_far.one_each)) in
        let there : slice_get turns i ≡ Some it.0 = subst (λ (j : ℕ). slice_get turns j ≡ Some it.0) it.2 (set_so_far.of_each it.0 (omega (arith, it.1, all))) in
        let same : it.0 ≡ v = same_Some it.0 v (sym there ∙ at) in
        (subst (λ (x : ℕ). x < n) same it.1, subst (λ (x : ℕ). turn_of dir n w x ≡ i) same it.2)

-- another node than the one that has its turn has none
not_now : (g : Topology) (w : Directions) (dir : Dir) (turns : List ℕ) → AreTurns g w dir turns → (i x y : ℕ) → slice_get turns i ≡ Some x → y < length g.ids → y ≢ x
    → turn_of dir (length g.ids) w y ≢ i
not_now g w dir turns are i x y at within other same =
    other (same_Some y x (sym (are.of_each y within) ∙ subst (λ (t : ℕ). slice_get turns t ≡ Some x) (sym same) at))

-- the node that has its turn, where the nodes stand in the order of their turns
pub turn_node : (g : Topology) (d : DirectedLists) (dir : Dir) (turns : List ℕ) → HasDirections g d
    → ((root : ℕ) (w : Directions) → AreDirections g d root w → AreTurns g w dir turns) → (i x : ℕ) → i < length turns → x ≡ get_or turns i x
    → (slice_get turns i ≡ Some x) × (x < length g.ids)
turn_node g d dir turns has are i x below read =
    let at = slice_get_read turns (length turns) i x refl below read in (at, (are has.root has.directions has.are).within i x at)

-- what holds of the nodes that had their turns, and of the one that has it, holds of those that have had theirs then
pub next_turn : (g : Topology) (w : Directions) (dir : Dir) (turns : List ℕ) → AreTurns g w dir turns → (Holds : ℕ → Type 0) (i x : ℕ) → slice_get turns i ≡ Some x → Holds x
    → ((y : ℕ) → y < length g.ids → y ≢ x → turn_of dir (length g.ids) w y < i → Holds y) → (y : ℕ) → y < length g.ids → turn_of dir (length g.ids) w y < i + 1 → Holds y
next_turn g w dir turns are Holds i x at here before y within early = elim (cases_eq y x) [
  | inl same ↦ subst Holds (sym same) here
  | inr other ↦ before y within other (omega (arith, early, not_now g w dir turns are i x y at within other))
]
