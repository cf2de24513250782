-- A GADAG has an order: the turns can be taken until all are over.
use Rattle.std.proofs.Common.{◌≡◌, ◌≢◌, ◌<◌, ◌≤◌, ◌+◌, ◌-◌, ◌++◌, ◌⊎◌, ℕ, zero, suc, List, [], ◌∷◌, Option, Some, None, length, set, slice_get, slice_index_or, inl, inr, refl, sym, ap, subst, arith, length-append}
use Rattle.std.proofs.lemmas.Bool.{cases_eq, cases_lt}
use Rattle.std.proofs.lemmas.Option.{get_or_from_slice_get, same_Some}
use Rattle.mrt_graph.specs.declared.gadag.Mark.{Mark}
use Rattle.mrt_graph.specs.declared.link.End.{End}
use Rattle.mrt_graph.specs.GadagLists.{GadagLists}
use Rattle.mrt_graph.specs.Topology.{Topology}
use Rattle.mrt_graph.proofs.EndsAt.{list_of_ends}
use Rattle.mrt_graph.proofs.ListPlaces.{at_last, at_left, contains_at}
use Rattle.mrt_graph.proofs.ListTests.{there}
use Rattle.link_direction.specs.steps.Counting.{AreCounts, IsEndOf, IsUnderWay, count_to, entered_by, enters}
use Rattle.link_direction.specs.GadagOrder.{IsWholeOrder}
use Rattle.link_direction.proofs.EndPassed.{at_end, no_end}
use Rattle.link_direction.proofs.FromEarsFacts.{AreGadagFacts}
use Rattle.link_direction.proofs.QueueEnds.{all_over, begins, turn_over}
use Rattle.link_direction.proofs.TakenOff.{few_listed, put_at_back, taken_off}

-- the values of a function, up to a number
abbrev pub table : {X : Type 0} → (ℕ → X) → ℕ → List X
table f zero = []
table f (suc n) = table f n ++ f n ∷ []

pub length-table : {X : Type 0} (f : ℕ → X) (n : ℕ) → length (table f n) ≡ n
length-table f zero = refl
length-table f (suc n) = omega (arith, length-append (table f n) (f n ∷ []), length-table f n)

pub table_at : {X : Type 0} (f : ℕ → X) (n k : ℕ) → k < n → slice_get (table f n) k ≡ Some (f k)
table_at f zero k within = absurd (omega (arith, within))
table_at {X} f (suc n) k within = elim (cases_eq k n) [
  | inl same ↦
      subst (λ (j : ℕ). slice_get (table f n ++ f n ∷ []) j ≡ Some (f j)) (sym same)
      (subst (λ (j : ℕ). slice_get (table f n ++ f n ∷ []) j ≡ Some (f n)) (length-table f n) (at_last (table f n) (f n)))
  | inr other ↦ at_left (table f n) (f n ∷ []) k (f k) (table_at f n k (omega (arith, within, other)))
]

counts_exist : (left : ℕ → Option ℕ) (m n : ℕ) → (counts : List ℕ) × AreCounts left m n counts
counts_exist left m n = (
  table (λ v. count_to (enters left v) m) n,
  record {
    one_each = length-table (λ v. count_to (enters left v) m) n;
    each = λ v within. get_or_from_slice_get (table (λ w. count_to (enters left w) m) n) v (count_to (enters left v) m) 0
        (table_at (λ w. count_to (enters left w) m) n v within);
  },
)

-- a state in the turn of x
record HasCome (g : Topology) (root : ℕ) (marks : List Mark) (place passed x : ℕ) : Type 0 where
  counts : List ℕ
  order : List ℕ
  here : slice_get order place ≡ Some x
  under_way : IsUnderWay g root marks place passed counts order

is_some_or_not : (o : Option ℕ) (v : ℕ) → (o ≡ Some v) ⊎ (o ≢ Some v)
is_some_or_not None v = inr (λ same. cc)
is_some_or_not (Some w) v = elim (cases_eq w v) [
  | inl same ↦ inl (ap (λ (u : ℕ). Some u) same)
  | inr other ↦ inr (λ same. other (same_Some w v same))
]

pass_end : (g : Topology) (root : ℕ) (marks : List Mark) (place passed x : ℕ) (end : End) → HasCome g root marks place passed x → IsEndOf g x passed end
    → HasCome g root marks place (passed + 1) x
pass_end g root marks place passed x end come end_here = elim (is_some_or_not (entered_by g marks end.link) end.to) [
  | inr none ↦ record {
    counts = come.counts;
    order = come.order;
    here = come.here;
    under_way = no_end g root marks place passed come.counts come.order x end come.under_way come.here end_here none;
  }
  | inl enters ↦
      let at = at_end g root marks place passed come.counts come.order x end come.under_way come.here end_here enters in
      let counts = set come.counts end.to (slice_index_or come.counts end.to 0 - 1) in
      elim (cases_eq (slice_index_or come.counts end.to 0) 1) [
        | inl one ↦ record {
          counts = counts;
          order = come.order ++ end.to ∷ [];
          here = at_left come.order (end.to ∷ []) place x come.here;
          under_way = put_at_back g root marks place passed come.counts counts come.order x end at one refl;
        }
        | inr more ↦ record {
          counts = counts;
          order = come.order;
          here = come.here;
          under_way = taken_off g root marks place passed come.counts counts come.order x end at more refl;
        }
      ]
]

pass_ends : (left : ℕ) (g : Topology) (root : ℕ) (marks : List Mark) (place passed x : ℕ) (ends : List End) → slice_get g.ends x ≡ Some ends
    → passed + left ≡ length ends → HasCome g root marks place passed x → HasCome g root marks place (length ends) x
pass_ends zero g root marks place passed x ends list few come = subst (λ (k : ℕ). HasCome g root marks place k x) (omega (arith, few)) come
pass_ends (suc left) g root marks place passed x ends list few come =
    let end = there ends passed (omega (arith, few)) in
    pass_ends left g root marks place (passed + 1) x ends list (omega (arith, few))
    (pass_end g root marks place passed x end.0 come (record { ends = ends; list = list; there = end.1 }))

take_turns : (left : ℕ) (g : Topology) (root : ℕ) (marks : List Mark) (place : ℕ) (counts order : List ℕ) → IsUnderWay g root marks place 0 counts order
    → length g.ids ≤ place + left → (whole : List ℕ) × IsWholeOrder g root marks whole
take_turns zero g root marks place counts order state few =
    (order, all_over g root marks place counts order state (omega (arith, few, few_listed (length g.ids) order state.once state.within)))
take_turns (suc left) g root marks place counts order state few = elim (cases_lt place (length order)) [
  | inr over ↦ (order, all_over g root marks place counts order state over)
  | inl more ↦
      let x = there order place more in
      let list = list_of_ends g x.0 state.kept (state.within x.0 (contains_at order place x.0 x.1)) in
      let come = pass_ends (length list.0) g root marks place 0 x.0 list.0 list.1 (omega arith)
      (record { counts = counts; order = order; here = x.1; under_way = state }) in
      take_turns left g root marks (place + 1) come.counts come.order
      (turn_over g root marks place x.0 list.0 come.counts come.order come.under_way come.here list.1) (omega (arith, few))
]

pub order_exists : (g : Topology) (root : ℕ) (gadag : GadagLists) → AreGadagFacts g root gadag → (order : List ℕ) × IsWholeOrder g root gadag.marks order
order_exists g root gadag facts =
    let counts = counts_exist (entered_by g gadag.marks) (length g.links) (length g.ids) in
    take_turns (length g.ids) g root gadag.marks 0 counts.0 (root ∷ [])
    (begins g root gadag.marks counts.0 facts.kept facts.root_within facts.none_into_root counts.1) (omega arith)
