use Rattle.std.proofs.Common.{◌++◌, ℕ, List, take}
use Rattle.std.specs.Option.{option_map}
use Rattle.std.specs.Prelude.{Contains}
use Rattle.cert_checker.specs.steps.KnownNode.{AreHops}
use Rattle.cert_checker.specs.steps.RowFaults.{AndSome, KeptRows, targets_of}
use Rattle.cert_checker.proofs.rows.judge_some.Given as goal

abbrev pub invariant-loop-k : goal.invariant-loop-k
invariant-loop-k l = record {
  hops : AreHops l.g l.c l.s.number l.last.hops;
  kept : (listed : List ℕ) → KeptRows l.g l.root l.c (AndSome l.c l.s.number (Contains listed)) l.fn.before
      → KeptRows l.g l.root l.c (AndSome l.c l.s.number
      (Contains (listed ++ take l.k (targets_of l.nodes (option_map (λ told. told.now) l.targets))))) l.last.kept;
}
