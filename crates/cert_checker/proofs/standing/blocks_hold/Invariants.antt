use Rattle.std.proofs.Common.{◌≢◌, ◌<◌, ℕ}
use Rattle.cert_checker.specs.steps.Standing.{NodeFits, link_fits}
use Rattle.mrt_graph.specs.Places.{Each}
use Rattle.cert_checker.proofs.standing.blocks_hold.Given as goal

abbrev pub invariant-loop-e : goal.invariant-loop-e
invariant-loop-e l = Each (link_fits l.c l.table) l.e

abbrev pub invariant-loop-a : goal.invariant-loop-a
invariant-loop-a l = (x : ℕ) → x < l.a → x ≢ l.root → NodeFits l.c l.table x
