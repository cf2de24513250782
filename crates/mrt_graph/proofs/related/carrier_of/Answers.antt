use Rattle.std.proofs.Common.{refl}
use Rattle.mrt_graph.proofs.related.carrier_of.Goals as goal

pub returns-then-eq-clause-to_root : goal.returns-then-eq-clause-to_root
returns-then-eq-clause-to_root c = λ _. refl
