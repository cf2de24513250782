use Rattle.std.proofs.Common.{arith}
use Rattle.area_tests.proofs.Within.{within_all}
use Rattle.area_tests.proofs.areas.put_numbered.Goals as goal

pub arc-requires : goal.arc-requires
arc-requires c =
    within_all _ _ _ _ c.arcs-row.ensures.value (omega (arith, c.new-arc.ensures, c.from-place.ensures, c.if-row-place.false))
