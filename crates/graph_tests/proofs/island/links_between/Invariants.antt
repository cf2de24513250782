use Rattle.mrt_plain.specs.Within.{AreWithin}
use Rattle.graph_tests.proofs.island.links_between.Given as goal

abbrev pub invariant-loop-pair : goal.invariant-loop-pair
invariant-loop-pair l = AreWithin l.count l.links.items
