use Rattle.std.proofs.Common.{arith}
use Rattle.std.proofs.lemmas.Bool.Decides.{nat_tests}
use Rattle.ospf_lsa.proofs.link.is_zero_metric.Goals as goal

pub returns-else-link-eq-POINT_TO_POINT : goal.returns-else-link-eq-POINT_TO_POINT
returns-else-link-eq-POINT_TO_POINT c = grind (arith, nat_tests)
