use Rattle.std.proofs.Common.{sym, arith}
use Rattle.mrt_calls.proofs.putting.count_of.Goals as goal

pub returns : goal.returns
returns c = λ bytes is.
    let short = c.put.ensures.short bytes is in
    let healthy = c.put.ensures.stays_healthy bytes is 18446744073709551615 (sym c.new-sink.ensures.left, omega (arith, c.new-sink.ensures.faults)) (omega (arith, short)) in
    c.taken.ensures _ (omega (arith, short)) (sym healthy.0)
