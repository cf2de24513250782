use Rattle.mrt_calls.specs.Shapes.{certified_in}
use Rattle.mrt_calls.proofs.Counting.{counted}
use Rattle.mrt_calls.proofs.certify.count_again.Goals as goal

pub returns-clause-counted : goal.returns-clause-counted
returns-clause-counted c =
    counted (certified_in c.args.area.now c.args.router) c.in_ok-text.text c.count_of.result c.in_ok-text.ensures c.count_of.ensures
