use Rattle.std.proofs.Common.{◌≡◌, ◌≢◌, ◌∙◌, ◌<◌, ◌≤◌, ◌+◌, ◌*◌, ℕ, List, length, slice_index, inl, inr, refl, sym, ap, arith}
use Rattle.std.specs.List.{slice_range}
use Rattle.std.proofs.lemmas.Bool.{cases_lt, eq-eqb, eqb-false, eqb-true, ne_eqb}
use Rattle.std.proofs.lemmas.List.{get_or_past}
use Rattle.block_spf.specs.steps.Side.{AreCosts, cost_at}
use Rattle.link_direction.proofs.TwoNodes.{place_says}
use Rattle.block_spf.proofs.SideBySide.{range_index, range_length, row_within, taken_by}
use Rattle.block_spf.proofs.paths_over_ends.take_leg.Goals as goal

-- what the places of a node have, among those of n nodes
row_index : (xs : List ℕ) (y v n width j : ℕ) → length xs ≡ n * width → v < n → y ≡ v → j < width
    → slice_index (slice_range xs (y * width) (y * width + width)) j ≡ slice_index xs (v * width + j)
row_index xs y v n width j long below same within =
    range_index xs (y * width) width j (row_within y n width (length xs) long (omega (arith, below, same))) within ∙ ap (λ (x : ℕ). slice_index xs (x * width + j)) same

-- the places of a node are among those of n nodes
room : (xs : List ℕ) (y v n width : ℕ) → length xs ≡ n * width → v < n → y ≡ v → y * width + width ≤ length xs
room xs y v n width long below same = row_within y n width (length xs) long (omega (arith, below, same))

range_most : (xs : List ℕ) (at n : ℕ) → at + n ≤ length xs → AreCosts xs → AreCosts (slice_range xs at (at + n))
range_most xs at n inside most i = elim (cases_lt i n) [
  | inl below ↦ omega (arith, range_index xs at n i inside below, most (at + i))
  | inr past ↦ omega (arith, get_or_past (slice_range xs at (at + n)) i 0 (omega (arith, past, range_length xs at n inside)))
]

pub overflow_mul-at : goal.overflow_mul-at
overflow_mul-at c =
    omega (arith, room c.args.aiming.now.aims.now c.get.result c.args.leg.now.block (length c.args.aiming.now.graph.now.ids) (length c.args.costs.now) c.requires.aiming.aims c.requires.block c.get.ensures.value)

pub slice_bounds-aims-start : goal.slice_bounds-aims-start
slice_bounds-aims-start c =
    omega (arith, room c.args.aiming.now.aims.now c.get.result c.args.leg.now.block (length c.args.aiming.now.graph.now.ids) (length c.args.costs.now) c.requires.aiming.aims c.requires.block c.get.ensures.value)

pub slice_bounds-aims-end : goal.slice_bounds-aims-end
slice_bounds-aims-end c =
    omega (arith, room c.args.aiming.now.aims.now c.get.result c.args.leg.now.block (length c.args.aiming.now.graph.now.ids) (length c.args.costs.now) c.requires.aiming.aims c.requires.block c.get.ensures.value)

pub overflow_mul-at-2 : goal.overflow_mul-at-2
overflow_mul-at-2 c =
    omega (arith, room c.args.all.now c.get-2.result c.args.leg.now.end.to (length c.args.aiming.now.graph.now.ids) (length c.args.costs.now) c.requires.rows.one_each c.requires.node c.get-2.ensures.value)

pub slice_bounds-left-start : goal.slice_bounds-left-start
slice_bounds-left-start c =
    omega (arith, room c.args.all.now c.get-2.result c.args.leg.now.end.to (length c.args.aiming.now.graph.now.ids) (length c.args.costs.now) c.requires.rows.one_each c.requires.node c.get-2.ensures.value)

pub slice_bounds-left-end : goal.slice_bounds-left-end
slice_bounds-left-end c =
    omega (arith, room c.args.all.now c.get-2.result c.args.leg.now.end.to (length c.args.aiming.now.graph.now.ids) (length c.args.costs.now) c.requires.rows.one_each c.requires.node c.get-2.ensures.value)

pub overflow_add-aims : goal.overflow_add-aims
overflow_add-aims c =
    omega (arith, room c.args.aiming.now.aims.now c.get.result c.args.leg.now.block (length c.args.aiming.now.graph.now.ids) (length c.args.costs.now) c.requires.aiming.aims c.requires.block c.get.ensures.value)

pub offset_bounds-aiming-at : goal.offset_bounds-aiming-at
offset_bounds-aiming-at c =
    omega (arith, room c.args.aiming.now.aims.now c.get.result c.args.leg.now.block (length c.args.aiming.now.graph.now.ids) (length c.args.costs.now) c.requires.aiming.aims c.requires.block c.get.ensures.value)

pub slice_bounds-aims-count : goal.slice_bounds-aims-count
slice_bounds-aims-count c =
    omega (arith, room c.args.aiming.now.aims.now c.get.result c.args.leg.now.block (length c.args.aiming.now.graph.now.ids) (length c.args.costs.now) c.requires.aiming.aims c.requires.block c.get.ensures.value)

pub overflow_add-left : goal.overflow_add-left
overflow_add-left c =
    omega (arith, room c.args.all.now c.get-2.result c.args.leg.now.end.to (length c.args.aiming.now.graph.now.ids) (length c.args.costs.now) c.requires.rows.one_each c.requires.node c.get-2.ensures.value)

pub offset_bounds-all-at : goal.offset_bounds-all-at
offset_bounds-all-at c =
    omega (arith, room c.args.all.now c.get-2.result c.args.leg.now.end.to (length c.args.aiming.now.graph.now.ids) (length c.args.costs.now) c.requires.rows.one_each c.requires.node c.get-2.ensures.value)

pub slice_bounds-left-count : goal.slice_bounds-left-count
slice_bounds-left-count c =
    omega (arith, room c.args.all.now c.get-2.result c.args.leg.now.end.to (length c.args.aiming.now.graph.now.ids) (length c.args.costs.now) c.requires.rows.one_each c.requires.node c.get-2.ensures.value)

pub take_over-requires-clause-one_left_each : goal.take_over-requires-clause-one_left_each
take_over-requires-clause-one_left_each c =
    range_length c.args.all.now (c.get-2.result * length c.args.costs.now) (length c.args.costs.now)
    (room c.args.all.now c.get-2.result c.args.leg.now.end.to (length c.args.aiming.now.graph.now.ids) (length c.args.costs.now) c.requires.rows.one_each c.requires.node c.get-2.ensures.value)

pub take_over-requires-clause-most : goal.take_over-requires-clause-most
take_over-requires-clause-most c =
    range_most c.args.all.now (c.get-2.result * length c.args.costs.now) (length c.args.costs.now)
    (room c.args.all.now c.get-2.result c.args.leg.now.end.to (length c.args.aiming.now.graph.now.ids) (length c.args.costs.now) c.requires.rows.one_each c.requires.node c.get-2.ensures.value)
    c.requires.rows.most

pub take_onward-requires-clause-one_aim_each : goal.take_onward-requires-clause-one_aim_each
take_onward-requires-clause-one_aim_each c =
    range_length c.args.aiming.now.aims.now (c.get.result * length c.args.costs.now) (length c.args.costs.now)
    (room c.args.aiming.now.aims.now c.get.result c.args.leg.now.block (length c.args.aiming.now.graph.now.ids) (length c.args.costs.now) c.requires.aiming.aims c.requires.block c.get.ensures.value)

pub take_onward-requires-clause-one_left_each : goal.take_onward-requires-clause-one_left_each
take_onward-requires-clause-one_left_each c =
    range_length c.args.all.now (c.get-2.result * length c.args.costs.now) (length c.args.costs.now)
    (room c.args.all.now c.get-2.result c.args.leg.now.end.to (length c.args.aiming.now.graph.now.ids) (length c.args.costs.now) c.requires.rows.one_each c.requires.node c.get-2.ensures.value)

pub take_onward-requires-clause-most : goal.take_onward-requires-clause-most
take_onward-requires-clause-most c =
    range_most c.args.all.now (c.get-2.result * length c.args.costs.now) (length c.args.costs.now)
    (room c.args.all.now c.get-2.result c.args.leg.now.end.to (length c.args.aiming.now.graph.now.ids) (length c.args.costs.now) c.requires.rows.one_each c.requires.node c.get-2.ensures.value)
    c.requires.rows.most

pub take_last-requires-clause-one_aim_each : goal.take_last-requires-clause-one_aim_each
take_last-requires-clause-one_aim_each c =
    range_length c.args.aiming.now.aims.now (c.get.result * length c.args.costs.now) (length c.args.costs.now)
    (room c.args.aiming.now.aims.now c.get.result c.args.leg.now.block (length c.args.aiming.now.graph.now.ids) (length c.args.costs.now) c.requires.aiming.aims c.requires.block c.get.ensures.value)

pub returns-then-leg : goal.returns-then-leg
returns-then-leg c = λ w says.
    let aiming = c.args.aiming.now in
    let leg = c.args.leg.now in
    let named = (place_says aiming.graph.now aiming.directed.now w leg.end.to c.place.result says c.requires.node c.place.ensures).1 in
    let inside : w.block leg.end.to ≡ leg.block = sym named ∙ eqb-true c.place.result.block leg.block (sym c.eq.ensures ∙ c.if-eq.true) in
    taken_by _ _ leg.end.metric leg.end.link c.args.costs.now c.args.links.now c.take_over.new.costs c.take_over.new.links
    (λ j below. rw (eq-eqb (w.block leg.end.to) leg.block inside, c.if-leg.true)
    (row_index c.args.all.now c.get-2.result leg.end.to (length aiming.graph.now.ids) (length c.args.costs.now) j c.requires.rows.one_each c.requires.node c.get-2.ensures.value below))
    c.take_over.ensures

pub returns-else-leg : goal.returns-else-leg
returns-else-leg c = λ w says.
    let aiming = c.args.aiming.now in
    let leg = c.args.leg.now in
    let n = length aiming.graph.now.ids in
    let width = length c.args.costs.now in
    let named = (place_says aiming.graph.now aiming.directed.now w leg.end.to c.place.result says c.requires.node c.place.ensures).1 in
    let inside : w.block leg.end.to ≡ leg.block = sym named ∙ eqb-true c.place.result.block leg.block (sym c.eq.ensures ∙ c.if-eq.true) in
    taken_by _ _ leg.end.metric leg.end.link c.args.costs.now c.args.links.now c.take_onward.new.costs c.take_onward.new.links
    (λ j below.
    let aim = row_index aiming.aims.now c.get.result leg.block n width j c.requires.aiming.aims c.requires.block c.get.ensures.value below in
    let left = row_index c.args.all.now c.get-2.result leg.end.to n width j c.requires.rows.one_each c.requires.node c.get-2.ensures.value below in
    rw (eq-eqb (w.block leg.end.to) leg.block inside, c.if-leg.false, aim, left) refl)
    c.take_onward.ensures

pub returns-else-eq : goal.returns-else-eq
returns-else-eq c = λ w says.
    let aiming = c.args.aiming.now in
    let leg = c.args.leg.now in
    let named = (place_says aiming.graph.now aiming.directed.now w leg.end.to c.place.result says c.requires.node c.place.ensures).1 in
    let outside : w.block leg.end.to ≢ leg.block = λ same. eqb-false c.place.result.block leg.block (sym c.eq.ensures ∙ c.if-eq.false) (named ∙ same) in
    taken_by _ _ leg.end.metric leg.end.link c.args.costs.now c.args.links.now c.take_last.new.costs c.take_last.new.links
    (λ j below. rw (ne_eqb (w.block leg.end.to) leg.block outside)
    (ap (λ (t : ℕ). cost_at leg.end.to t)
    (row_index aiming.aims.now c.get.result leg.block (length aiming.graph.now.ids) (length c.args.costs.now) j c.requires.aiming.aims c.requires.block c.get.ensures.value below)))
    c.take_last.ensures
