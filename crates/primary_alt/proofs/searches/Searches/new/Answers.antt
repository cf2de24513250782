use Rattle.std.proofs.Common.{◌∙◌, arith}
use Rattle.primary_alt.proofs.DistancesFound.{are_its_arcs}
use Rattle.primary_alt.proofs.searches.Searches.new.Goals as goal

pub invariant_of-result : goal.invariant_of-result
invariant_of-result c =
    are_its_arcs c.args.area.now c.deref.result.now c.in_ok-others.others.items c.in_ok-into.into.arcs.items c.in_ok-into.into.starts.items c.count.ensures.kept
    (c.deref.ensures.value ∙ c.in_ok-arcs.ensures.arcs) c.in_ok-others.ensures c.in_ok-into.ensures.same c.in_ok-into.ensures.starts
    (omega (arith, c.in_ok-into.ensures.rows, c.count.ensures.count))
