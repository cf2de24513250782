use Rattle.std.proofs.Common.{◌≡◌, ◌≤◌, ◌+◌, ◌*◌, ◌∙◌, ℕ, get_or, length, ap, arith}
use Rattle.std.proofs.lemmas.Bool.{ltb-false}
use Rattle.block_spf.specs.Rest.{far}
use Rattle.block_spf.proofs.SideBySide.{range_index, range_length}
use Rattle.block_spf.proofs.fan.is_reached.Goals as goal

pub returns : goal.returns
returns c = λ no j below.
    let costs = c.args.costs.now in
    let width = c.args.width in
    let at = c.get.result * width in
    let same : at ≡ c.args.x * width = ap (λ (v : ℕ). v * width) c.get.ensures.value in
    let room : at + width ≤ length costs = omega (arith, same, c.requires) in
    let long = range_length costs at width room in
    let least = c.loop-cost.invariant j (omega (arith, below, long, c.loop-cost-test.false)) in
    let read = range_index costs at width j room below ∙ ap (λ (k : ℕ). get_or costs (k + j) 0) same in
    omega (arith, ltb-false c.loop-cost.least far no, least, read)
