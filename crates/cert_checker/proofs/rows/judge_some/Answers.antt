use Rattle.std.proofs.Common.{◌<◌, ◌++◌, ℕ, List, length, subst, arith}
use Rattle.std.proofs.lemmas.List.{take_all}
use Rattle.std.specs.Option.{option_map}
use Rattle.std.specs.Prelude.{Contains}
use Rattle.cert_checker.specs.steps.RowFaults.{AndSome, KeptRows, row_test, targets_of}
use Rattle.cert_checker.proofs.RelatedRows.{listed_more}
use Rattle.cert_checker.proofs.rows.judge_some.Goals as goal

pub loop-k-preserved : goal.loop-k-preserved
loop-k-preserved c =
    let cert = c.args.c.now in
    let within : c.target.result < length cert.nodes = rw c.node_count-nodes.ensures.count at c.target.ensures.within in
    record {
      hops = c.judge_row.ensures.hops;
      kept = λ listed before.
          listed_more (row_test c.args.g.now c.args.root cert) cert c.args.s.now.number c.requires.source.within listed
          (targets_of c.node_count-nodes.result (option_map (λ told. told.now) c.args.targets)) c.loop-k.k c.target.result within c.target.ensures.value _ _
          (c.loop-k.invariant.kept listed before) c.judge_row.ensures.kept;
    }

pub returns : goal.returns
returns c = λ listed before.
    let cert = c.args.c.now in
    let told = option_map (λ told. told.now) c.args.targets in
    let Known = λ (read : List ℕ). KeptRows c.args.g.now c.args.root cert (AndSome cert c.args.s.now.number (Contains (listed ++ read))) c.loop-k.last.kept in
    subst (λ (n : ℕ). Known (targets_of n told)) c.node_count-nodes.ensures.count
    (subst Known (take_all c.loop-k.k (targets_of c.node_count-nodes.result told) (omega (arith, c.loop-k-test.false, c.target_count-k-end.ensures)))
    (c.loop-k.invariant.kept listed before))
