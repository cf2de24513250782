use Rattle.std.proofs.Common.{◌≡◌, ◌<◌, ◌+◌, ◌++◌, ◌∷◌, [], ◌∙◌, ℕ, List, Option, Some, get_or, length, set, slice_get, take, refl, sym, ap, subst, arith, take_all}
use Rattle.std.specs.Prelude.{Contains}
use Rattle.std.proofs.lemmas.List.{take_more}
use Rattle.std.proofs.lemmas.Option.{slice_get_read}
use Rattle.area_graph.specs.declared.area_types.Arc.{Arc}
use Rattle.area_graph.specs.Parts.{AreaParts}
use Rattle.area_graph.specs.steps.Starts.{AreStarts}
use Rattle.mrt_graph.proofs.ListPlaces.{contains_at}
use Rattle.primary_alt.specs.steps.Attaining.{AreBetween, AreFirstToAttain}
use Rattle.primary_alt.specs.steps.FirstArcs.{AreColumnsFor}
use Rattle.primary_alt.proofs.AreaArcs.{arcs_between, from_below}
use Rattle.primary_alt.proofs.FirstColumns.{column_by_test, column_is, columns_again, columns_more, columns_none}
use Rattle.primary_alt.proofs.FirstsByDistances.{distances_moved}
use Rattle.primary_alt.proofs.first_arcs.columns_by.Goals as goal

-- a destination is a node
asked_within : (n : ℕ) (destinations : List ℕ) (k t : ℕ) → ((u : ℕ) → Contains destinations u → u < n) → k < length destinations → t ≡ get_or destinations k t → t < n
asked_within n destinations k t within low is = within t (contains_at destinations k t (slice_get_read destinations (length destinations) k t refl low is))

-- one destination more
asked_more : (area : AreaParts) (destinations : List ℕ) (k t : ℕ) (columns : List (Option (List (Option ℕ)))) → k < length destinations → t ≡ get_or destinations k t
    → AreColumnsFor area (take k destinations ++ t ∷ []) columns → AreColumnsFor area (take (k + 1) destinations) columns
asked_more area destinations k t columns low is are =
    subst (λ (asked : List ℕ). AreColumnsFor area asked columns) (sym (take_more destinations k t low ∙ ap (λ (u : ℕ). take k destinations ++ u ∷ []) (sym is))) are

-- of equal lists
between_as : (n m : ℕ) (arcs own : List Arc) → m ≡ n → own ≡ arcs → AreBetween n arcs → AreBetween m own
between_as n m arcs own same same' are = subst (λ (k : ℕ). AreBetween k own) (sym same) (subst (λ (xs : List Arc). AreBetween n xs) (sym same') are)

starts_as : (n m : ℕ) (arcs own : List Arc) (starts : List ℕ) → m ≡ n → own ≡ arcs → AreStarts n arcs starts → AreStarts m own starts
starts_as n m arcs own starts same same' are = subst (λ (k : ℕ). AreStarts k own starts) (sym same) (subst (λ (xs : List Arc). AreStarts n xs starts) (sym same') are)

firsts_as : (arcs own : List Arc) (starts : List ℕ) (known told firsts : List (Option ℕ)) → own ≡ arcs → told ≡ known
    → AreFirstToAttain own starts told firsts → AreFirstToAttain arcs starts known firsts
firsts_as arcs own starts known told firsts same same' are =
    subst (λ (xs : List Arc). AreFirstToAttain xs starts known firsts) same (subst (λ (d : List (Option ℕ)). AreFirstToAttain own starts d firsts) same' are)

pub loop-t-init : goal.loop-t-init
loop-t-init c = record {
  known = c.requires.one_each;
  columns = columns_none c.args.area.now c.in_ok-columns.columns.items c.count.result c.count.ensures.count c.in_ok-columns.ensures;
}

pub index-requires : goal.index-requires
index-requires c =
    let low = asked_within (length c.args.area.now.ids) c.args.destinations.now c.loop-t.t-index c.t-item.result c.requires.within c.loop-t-test.true c.t-item.is in
    omega (arith, low, c.get-place.ensures.value, c.loop-t.invariant.columns.a_place_each, c.loop-t.columns.ok.0)

pub loop-t-preserved-then-is_some : goal.loop-t-preserved-then-is_some
loop-t-preserved-then-is_some c =
    let area = c.args.area.now in
    let t = c.t-item.result in
    let columns = c.loop-t.columns.items in
    let low = asked_within (length area.ids) c.args.destinations.now c.loop-t.t-index t c.requires.within c.loop-t-test.true c.t-item.is in
    let at : slice_get columns c.get-place.result ≡ Some c.index.result.now =
    slice_get_read columns (length columns) c.get-place.result c.index.result.now refl
    (omega (arith, low, c.get-place.ensures.value, c.loop-t.invariant.columns.a_place_each)) c.index.ensures in
    let at' : slice_get columns t ≡ Some c.index.result.now = subst (λ (k : ℕ). slice_get columns k ≡ Some c.index.result.now) c.get-place.ensures.value at in
    record {
      known = c.loop-t.invariant.known;
      columns = asked_more area c.args.destinations.now c.loop-t.t-index t columns c.loop-t-test.true c.t-item.is
          (columns_again area (take c.loop-t.t-index c.args.destinations.now) columns t
          (column_by_test columns t c.index.result.now at' (sym c.is_some.ensures ∙ c.if-is_some.true)) c.loop-t.invariant.columns);
    }

pub distances_to-requires-clause-starts : goal.distances_to-requires-clause-starts
distances_to-requires-clause-starts c = c.requires.into

pub distances_to-requires-clause-rows : goal.distances_to-requires-clause-rows
distances_to-requires-clause-rows c = omega (arith, c.requires.rows, c.loop-t.invariant.known)

pub distances_to-requires-clause-few : goal.distances_to-requires-clause-few
distances_to-requires-clause-few c = omega (arith, c.loop-t.invariant.known, c.count.ensures.kept.few_nodes)

pub distances_to-requires-clause-tails : goal.distances_to-requires-clause-tails
distances_to-requires-clause-tails c =
    from_below c.args.area.now c.args.lists.now.into.now.arcs.items _ c.count.ensures.kept c.requires.same c.loop-t.invariant.known

pub distances_to-requires-clause-node : goal.distances_to-requires-clause-node
distances_to-requires-clause-node c =
    let low = asked_within (length c.args.area.now.ids) c.args.destinations.now c.loop-t.t-index c.t-item.result c.requires.within c.loop-t-test.true c.t-item.is in
    omega (arith, low, c.loop-t.invariant.known)

pub column-requires-clause-few : goal.column-requires-clause-few
column-requires-clause-few c = omega (arith, ap length c.requires.arcs, c.count.ensures.kept.few_arcs)

pub column-requires-clause-starts : goal.column-requires-clause-starts
column-requires-clause-starts c =
    starts_as _ _ c.args.area.now.arcs c.args.lists.now.arcs.now c.args.lists.now.starts.now
    (ap length c.deref.ensures.value ∙ c.in_ok-distances_to.ensures.one_each ∙ c.loop-t.invariant.known) c.requires.arcs c.requires.starts

pub column-requires-clause-between : goal.column-requires-clause-between
column-requires-clause-between c =
    between_as _ _ c.args.area.now.arcs c.args.lists.now.arcs.now (ap length c.deref.ensures.value ∙ c.in_ok-distances_to.ensures.one_each ∙ c.loop-t.invariant.known) c.requires.arcs
    (arcs_between c.args.area.now c.count.ensures.kept)

pub index_mut-requires : goal.index_mut-requires
index_mut-requires c =
    let low = asked_within (length c.args.area.now.ids) c.args.destinations.now c.loop-t.t-index c.t-item.result c.requires.within c.loop-t-test.true c.t-item.is in
    omega (arith, low, c.get-place.ensures.value, c.loop-t.invariant.columns.a_place_each, c.loop-t.columns.ok.0)

pub loop-t-preserved : goal.loop-t-preserved
loop-t-preserved c =
    let area = c.args.area.now in
    let t = c.t-item.result in
    let column = c.in_ok-column.field-0 in
    let known = c.distances_to.new.known.items in
    let one_each : length known ≡ length area.ids = c.in_ok-distances_to.ensures.one_each ∙ c.loop-t.invariant.known in
    let distances = distances_moved c.args.lists.now.into.now.arcs.items area.arcs t known c.requires.same c.in_ok-distances_to.ensures.distances in
    let firsts = firsts_as area.arcs c.args.lists.now.arcs.now c.args.lists.now.starts.now known c.deref.result.now column c.requires.arcs c.deref.ensures.value c.in_ok-column.ensures in
    let low = asked_within (length area.ids) c.args.destinations.now c.loop-t.t-index t c.requires.within c.loop-t-test.true c.t-item.is in
    let more = columns_more area (take c.loop-t.t-index c.args.destinations.now) c.loop-t.columns.items t column low
    (column_is area c.args.lists.now.starts.now known column t c.count.ensures.kept c.requires.starts one_each distances firsts) c.loop-t.invariant.columns in
    record {
      known = one_each;
      columns = asked_more area c.args.destinations.now c.loop-t.t-index t _ c.loop-t-test.true c.t-item.is
          (subst (λ (k : ℕ). AreColumnsFor area (take c.loop-t.t-index c.args.destinations.now ++ t ∷ []) (set c.loop-t.columns.items k (Some column))) (sym c.get-place.ensures.value) more);
    }

pub returns : goal.returns
returns c =
    subst (λ (asked : List ℕ). AreColumnsFor c.args.area.now asked c.loop-t.columns.items) (take_all c.loop-t.t-index c.args.destinations.now c.loop-t-test.false) c.loop-t.invariant.columns
