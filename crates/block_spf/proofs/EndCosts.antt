-- The cost of the ways that begin with one end (the first end, then what is left), and the least over the ends.
use Rattle.std.proofs.Common.{◌≡◌, ◌≢◌, ◌∙◌, ◌<◌, ◌≤◌, ◌+◌, ◌*◌, ℕ, Bool, true, false, List, [], ◌∷◌, Some, nat_lt, length, slice_get, slice_index, if◌then◌else◌, inl, inr, refl, sym, ap, subst, arith}
use Rattle.std.proofs.lemmas.Bool.{cases_Bool, cases_eq, eq-eqb, ltb-false, ltb-true, ne_eqb}
use Rattle.mrt_graph.specs.declared.link.End.{End}
use Rattle.mrt_graph.specs.GraphInvariant.{IsTopology}
use Rattle.mrt_graph.specs.Topology.{Topology}
use Rattle.link_direction.specs.Directions.{Directions}
use Rattle.block_spf.specs.declared.aiming.Aiming.{Aiming}
use Rattle.block_spf.specs.declared.reach.Dir.{Dir}
use Rattle.block_spf.specs.BlockAims.{aim_at}
use Rattle.block_spf.specs.Path.{IsStep}
use Rattle.block_spf.specs.steps.Rest.{IsRestCost, Rest}
use Rattle.block_spf.specs.Rest.{far}
use Rattle.block_spf.specs.steps.Side.{AreTaken, IsLeastOverEnds, cost_at, left_onward, lesser, link_of_lesser}
use Rattle.block_spf.specs.steps.PathsOverEnds.{AreLeast, AtHead, BeginsAt, HasHeadBy, Inside, IsReadyFrom, IsWantedBlock, Sought, left_after, left_at, sought}
use Rattle.block_spf.proofs.InBlocks.{move_of, same_end}

-- what is known of the ways that begin with one end, when `left` is left after it
pub record IsEndCost (Begins : ℕ → ℕ → Type 0) (place left metric : ℕ) : Type 0 where
  pub reached : left < far → Begins place (left + metric)
  pub least : (cost : ℕ) → Begins place cost → left + metric ≤ cost

-- one end more, with which no lesser way begins
pub still_least : (Begins : ℕ → ℕ → Type 0) (ends : List End) (count cost link : ℕ) → ((other : ℕ) → Begins count other → cost ≤ other)
    → IsLeastOverEnds Begins ends count cost link → IsLeastOverEnds Begins ends (count + 1) cost link
still_least Begins ends count cost link none so_far = record {
  most = so_far.most;
  reached = λ below.
      let it = so_far.reached below in
      record { place = it.place; before = omega (arith, it.before); end = it.end; there = it.there; begins = it.begins; none_before = it.none_before; over = it.over };
  unreached = so_far.unreached;
  least = λ place other early begins. elim (cases_eq place count) [
    | inl same ↦ none other (subst (λ (p : ℕ). Begins p other) same begins)
    | inr apart ↦ so_far.least place other (omega (arith, early, apart)) begins
  ];
}

-- one end more, over which ways lead
pub way_taken : (Begins : ℕ → ℕ → Type 0) (ends : List End) (count cost link left : ℕ) (end : End) → slice_get ends count ≡ Some end → IsEndCost Begins count left end.metric
    → IsLeastOverEnds Begins ends count cost link → IsLeastOverEnds Begins ends (count + 1) (lesser (left + end.metric) cost) (link_of_lesser (left + end.metric) cost end.link link)
way_taken Begins ends count cost link left end at over so_far = elim (cases_Bool (nat_lt (left + end.metric) cost)) [
  | inl is_less ↦
      let less = ltb-true (left + end.metric) cost is_less in
      rw is_less (record {
        most = omega (arith, less, so_far.most);
        reached = λ below. record {
          place = count;
          before = omega arith;
          end = end;
          there = at;
          begins = over.reached (omega (arith, less, so_far.most));
          none_before = λ place early begins. omega (arith, less, so_far.least place (left + end.metric) early begins);
          over = refl;
        };
        unreached = λ above. absurd (omega (arith, above, less, so_far.most));
        least = λ place other early begins. elim (cases_eq place count) [
          | inl same ↦ over.least other (subst (λ (p : ℕ). Begins p other) same begins)
          | inr apart ↦ omega (arith, so_far.least place other (omega (arith, early, apart)) begins, less)
        ];
      })
  | inr is_not ↦
      let not_less = ltb-false (left + end.metric) cost is_not in
      rw is_not (still_least Begins ends count cost link (λ other begins. omega (arith, over.least other begins, not_less)) so_far)
]

-- at the head of the block nothing is left, or nothing leads on
rest_at_head : (g : Topology) (w : Directions) (dir : Dir) (k y t : ℕ) → IsRestCost g w dir k y y t (cost_at y t)
rest_at_head g w dir k y t = elim (cases_eq y t) [
  | inl same ↦ rw (eq-eqb y t same) (record { reached = λ below. ([], same, refl); least = λ rest is. omega arith })
  | inr other ↦ rw (ne_eqb y t other) (record { reached = λ below. absurd (omega (arith, below)); least = λ rest is. absurd (none other rest is) })
]
  where
    none : y ≢ t → (rest : List End) → Rest g w dir k y y rest t → ⊥
    none other [] is = other is
    none other (end ∷ ends) is = is.0 refl

-- what is left after an end, in the words of what is known
pub record IsLeftCost (it : Sought) (own : Bool) (x : ℕ) (aim : ℕ → ℕ) (k h y left : ℕ) : Type 0 where
  pub head : HasHeadBy it.w k h y
  pub onward : left < far → own ≡ false → aim k ≢ x
  pub rest : (own ≡ false → aim k ≢ x) → IsRestCost it.g it.w it.dir k h y (aim k) left

pub left_cost : (it : Sought) (own : Bool) (x : ℕ) (aim : ℕ → ℕ) (k y rest : ℕ) → x ≢ y
    → (it.w.block y ≡ k → IsRestCost it.g it.w it.dir k (it.w.head y) y (aim k) rest)
    → (h : ℕ) × IsLeftCost it own x aim k h y (left_after it.w own x k y (aim k) rest)
left_cost it own x aim k y rest apart ready = elim (cases_eq (it.w.block y) k) [
  | inl inside ↦ (it.w.head y, rw (eq-eqb (it.w.block y) k inside) (from_inside own inside))
  | inr outside ↦ (
    y,
    rw (ne_eqb (it.w.block y) k outside) (record {
      head = AtHead outside refl;
      onward = λ below all same. at_end same below;
      rest = λ _. rest_at_head it.g it.w it.dir k y (aim k);
    }),
  )
]
  where
    at_end : aim k ≡ x → cost_at y (aim k) < far → ⊥
    at_end same below =
        let is_far : cost_at y (aim k) ≡ far = rw (ne_eqb y (aim k) (λ back. apart (sym same ∙ sym back))) refl in omega (arith, is_far, below)

    from_inside : (own' : Bool) → it.w.block y ≡ k → IsLeftCost it own' x aim k (it.w.head y) y (if own' then rest else left_onward x (aim k) rest)
    from_inside true inside = record { head = Inside inside refl; onward = λ below all. absurd (cc); rest = λ _. ready inside }
    from_inside false inside = elim (cases_eq (aim k) x) [
      | inl back ↦
          rw (eq-eqb (aim k) x back)
          (record { head = Inside inside refl; onward = λ below. absurd (omega (arith, below)); rest = λ on. absurd (on refl back) })
      | inr on ↦ rw (ne_eqb (aim k) x on) (record { head = Inside inside refl; onward = λ below _. on; rest = λ _. ready inside })
    ]

-- the head of a block, by a node of it, is one
pub one_head_by : (w : Directions) (k h top y : ℕ) → HasHeadBy w k h y → HasHeadBy w k top y → h ≡ top
one_head_by w k h top y (Inside a b) (Inside c d) = sym b ∙ d
one_head_by w k h top y (Inside a b) (AtHead c d) = absurd (c a)
one_head_by w k h top y (AtHead a b) (Inside c d) = absurd (a c)
one_head_by w k h top y (AtHead a b) (AtHead c d) = sym b ∙ d

-- an end over which ways lead on
pub record IsWayOn (it : Sought) (own : Bool) (x place : ℕ) (end : End) : Type 0 where
  pub step : IsStep it.g it.w it.dir (it.w.lies_in end.link) x end
  pub here : step.place ≡ place
  pub in_wanted : IsWantedBlock it (it.w.lies_in end.link)
  pub kept_to : own ≡ true → it.w.lies_in end.link ≡ it.w.block x

-- with each other end no way begins
pub begun_on : (it : Sought) (own : Bool) (x : ℕ) (aim : ℕ → ℕ) (place cost : ℕ) (ends : List End) (end : End) → slice_get it.g.ends x ≡ Some ends
    → slice_get ends place ≡ Some end → BeginsAt it own x aim place cost → IsWayOn it own x place end
begun_on it own x aim place cost ends end list at begins =
    subst (λ (e : End). IsWayOn it own x place e) (same_end it.g it.w it.dir begins.k x place ends end begins.end list at begins.step begins.here) (record {
      step = record {
        ends = begins.step.ends;
        list = begins.step.list;
        place = begins.step.place;
        there = begins.step.there;
        in_block = refl;
        leads_on = begins.step.leads_on;
      };
      here = begins.here;
      in_wanted = subst (λ (b : ℕ). IsWantedBlock it b) (sym begins.step.in_block) begins.in_wanted;
      kept_to = λ kept. begins.step.in_block ∙ begins.kept_to kept;
    })

pub end_cost : (it : Sought) (own : Bool) (x : ℕ) (aim : ℕ → ℕ) (place left h : ℕ) (end : End) (on : IsWayOn it own x place end)
    → IsLeftCost it own x aim (it.w.lies_in end.link) h end.to left → IsEndCost (BeginsAt it own x aim) place left end.metric
end_cost it own x aim place left h end on is = record {
  reached = λ below.
      let rest = (is.rest (is.onward below)).reached below in
      record {
        k = it.w.lies_in end.link;
        h = h;
        end = end;
        step = on.step;
        here = on.here;
        in_wanted = on.in_wanted;
        kept_to = on.kept_to;
        onward = is.onward below;
        head = is.head;
        others = rest.0;
        rest = rest.1;
        costs = omega (arith, rest.2);
      };
  least = λ cost begins.
      let same : begins.end ≡ end =
      same_end it.g it.w it.dir begins.k x place on.step.ends end begins.end on.step.list
      (subst (λ (p : ℕ). slice_get on.step.ends p ≡ Some end) on.here on.step.there) begins.step begins.here in
      let left_is =
      subst (λ (b : ℕ). IsLeftCost it own x aim b h begins.end.to left) begins.step.in_block
      (subst (λ (e : End). IsLeftCost it own x aim (it.w.lies_in e.link) h e.to left) (sym same) is) in
      let rest =
      subst (λ (top : ℕ). Rest it.g it.w it.dir begins.k top begins.end.to begins.others (aim begins.k))
      (one_head_by it.w begins.k begins.h h begins.end.to begins.head left_is.head) begins.rest in
      omega (arith, (left_is.rest begins.onward).least begins.others rest, begins.costs, ap (λ (e : End). e.metric) same);
}

-- the step for all places
pub all_taken_over : (aiming : Aiming) (w : Directions) (own : Bool) (width : ℕ) (all : List ℕ) (x count : ℕ) (ends : List End) (end : End) (costs links costs' links' : List ℕ)
    → IsTopology aiming.graph.now → length costs ≡ width → slice_get ends count ≡ Some end → IsWayOn (sought aiming w) own x count end
    → (w.block end.to ≡ w.lies_in end.link → IsReadyFrom aiming w width all end.to)
    → AreTaken (left_at aiming w own x (w.lies_in end.link) end.to all width) end.metric end.link costs links costs' links'
    → AreLeast aiming w own width x ends count costs links → AreLeast aiming w own width x ends (count + 1) costs' links'
all_taken_over aiming w own width all x count ends end costs links costs' links' kept one_each at on ready taken so_far = record {
  each = λ j below.
      let k = w.lies_in end.link in
      let aim = aim_at aiming.aims.now width j in
      let rest = slice_index all (end.to * width + j) in
      let left = left_cost (sought aiming w) own x aim k end.to rest (move_of aiming.graph.now w aiming.dir k x end kept on.step).apart
      (λ inside. subst (λ (b : ℕ). IsRestCost aiming.graph.now w aiming.dir b (w.head end.to) end.to (aim b) rest) inside ((ready inside).each j below)) in
      rw (taken.each j (omega (arith, below, one_each)), taken.links_each j (omega (arith, below, one_each)))
      (way_taken (BeginsAt (sought aiming w) own x aim) ends count (slice_index costs j) (slice_index links j) (left_after w own x k end.to (aim k) rest) end at
      (end_cost (sought aiming w) own x aim count (left_after w own x k end.to (aim k) rest) left.0 end on left.1) (so_far.each j below));
}

pub all_passed : (aiming : Aiming) (w : Directions) (own : Bool) (width x count : ℕ) (ends : List End) (end : End) (costs links : List ℕ) → slice_get aiming.graph.now.ends x ≡ Some ends
    → slice_get ends count ≡ Some end → (IsWayOn (sought aiming w) own x count end → ⊥) → AreLeast aiming w own width x ends count costs links
    → AreLeast aiming w own width x ends (count + 1) costs links
all_passed aiming w own width x count ends end costs links list at none so_far = record {
  each = λ j below.
      still_least (BeginsAt (sought aiming w) own x (aim_at aiming.aims.now width j)) ends count (slice_index costs j) (slice_index links j)
      (λ other begins. absurd (none (begun_on (sought aiming w) own x (aim_at aiming.aims.now width j) count other ends end list at begins))) (so_far.each j below);
}
