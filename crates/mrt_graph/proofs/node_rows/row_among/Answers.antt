use Rattle.std.proofs.Common.{◌≡◌, ◌<◌, ◌≤◌, ◌+◌, ◌*◌, ◌-◌, ◌∙◌, ℕ, length, ap, arith}
use Rattle.std.proofs.Math.Nat.{mul-le-mul_right}
use Rattle.mrt_graph.specs.RowPlace.{place_of_row}
use Rattle.mrt_graph.proofs.HeldRows.{all_row_is}
use Rattle.mrt_graph.proofs.RowPlaces.{place_low}
use Rattle.mrt_graph.proofs.node_rows.row_among.Goals.{After-column}
use Rattle.mrt_graph.proofs.node_rows.row_among.Goals as goal

-- it is the place of the row, which is there
at : (c : After-column) → (c.args.first + c.column.result ≡ place_of_row (length c.args._cert.now.nodes) c.args.s c.args.t)
    × (c.args.first + c.column.result < length c.args.rows.now) × (length c.args.rows.now ≤ 65535 * 65535)
at c =
    let n = length c.args._cert.now.nodes in
    let same : c.args.first + c.column.result ≡ place_of_row n c.args.s c.args.t = ap (λ (k : ℕ). k + c.column.result) c.requires.first ∙ ap (λ (k : ℕ). c.args.s * (n - 1) + k) c.column.ensures in
    let is = c.requires.held.kept.0 in
    let low = place_low n c.args.s c.args.t c.requires.source c.requires.target c.requires.different in
    let narrow : n * (n - 1) ≤ 65535 * (n - 1) = mul-le-mul_right (n - 1) is.few_nodes in
    let wide : 65535 * (n - 1) ≤ 65535 * 65535 = omega (arith, is.few_nodes) in
    (same, omega (arith, same, low, is.a_row_each), omega (arith, is.a_row_each, narrow, wide))

pub overflow_add-place : goal.overflow_add-place
overflow_add-place c = let there = at (goal.at.overflow_add-place c).After-column in omega (arith, there.1, there.2)

pub bounds-rows-place : goal.bounds-rows-place
bounds-rows-place c = (at (goal.at.bounds-rows-place c).After-column).1

pub offset_bounds-rows-place : goal.offset_bounds-rows-place
offset_bounds-rows-place c = let there = at (goal.at.offset_bounds-rows-place c).After-column in omega (arith, there.1, there.2)

pub returns : goal.returns
returns c =
    let there = at (goal.at.returns c).After-column in
    all_row_is c.args._cert.now c.args.rows.now c.args.s c.args.t (c.args.first + c.column.result) c.index-rows-place.result c.requires.held c.requires.source c.requires.target c.requires.different
    there.0 there.1 c.index-rows-place.is
