use Rattle.mrt_graph.specs.Search.{Enters}
use Rattle.mrt_island.proofs.Telling.{IsTold}
use Rattle.mrt_island.proofs.settling.visit.Given as goal

abbrev pub invariant-loop-i : goal.invariant-loop-i
invariant-loop-i l = Enters (IsTold l.arcs l.flags l.i) l.fn.search l.search
