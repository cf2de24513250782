use Rattle.std.proofs.Common.{◌≡◌, false}
use Rattle.std.specs.List.{list_any}
use Rattle.ospf_lsa.specs.Lsas.{has_zero_metric}
use Rattle.area_tests.proofs.kept.links.Given as goal

abbrev pub invariant-loop-number : goal.invariant-loop-number
invariant-loop-number l = list_any has_zero_metric l.links.items ≡ false
