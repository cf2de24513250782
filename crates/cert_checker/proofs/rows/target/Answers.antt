use Rattle.std.proofs.Common.{◌≡◌, ◌+◌, ◌∙◌, ℕ, Some, ap, arith}
use Rattle.std.proofs.lemmas.List.FromFn.{length-range_with_len}
use Rattle.mrt_graph.proofs.Pairs.{range_at}
use Rattle.cert_checker.proofs.rows.target.Goals as goal

pub overflow_cast-place : goal.overflow_cast-place
overflow_cast-place c =
    let place = rw (c.in-None.is, length-range_with_len) at c.requires.place in
    omega (arith, place, c.ranges.nodes)

pub returns-in-None-clause-value : goal.returns-in-None-clause-value
returns-in-None-clause-value c =
    let place = rw (c.in-None.is, length-range_with_len) at c.requires.place in
    let same : 0 + c.args.place ≡ c.new.result = omega (arith, c.new.ensures) in
    rw c.in-None.is (range_at 0 c.args.nodes c.args.place (omega (arith, place)) ∙ ap (λ (x : ℕ). Some x) same)

pub returns-in-None-clause-within : goal.returns-in-None-clause-within
returns-in-None-clause-within c =
    let place = rw (c.in-None.is, length-range_with_len) at c.requires.place in
    omega (arith, place, c.new.ensures)
