use Rattle.std.proofs.Common.{ap, inr, refl, arith}
use Rattle.cert_format.specs.CertText.{cert_text}
use Rattle.mrt_graph.specs.declared.cert.CertFile.{CertFile}
use Rattle.mrt_graph.specs.Rules.{GraphRule}
use Rattle.mrt_answer.proofs.Upgrades.{upgraded_accepted}
use Rattle.mrt_answer.proofs.upgrade.upgrade_in.Goals as goal

pub judge-requires : goal.judge-requires
judge-requires c = c.requires

pub new-requires : goal.new-requires
new-requires c =
    let file : CertFile = c.args.file in
    let accepted = c.in_ok-judge.ensures.0 in
    let same = accepted GraphRule in
    inr (record {
      version = refl;
      nodes = omega (arith, same);
      links = omega (arith, same);
      foldable = c.accepted_files_are_foldable.ensures c.args.island.now.graph c.args.island.now.root file c.node_count-count.ensures.kept accepted;
    })

pub returns : goal.returns
returns c =
    let island = c.args.island.now in
    let said = c.in_ok-judge.ensures in (
      tt,
      said,
      (
        upgraded_accepted island.graph island.root c.args.file said.0,
        record { within = c.in_ok-new.ensures.within; spelled = ap cert_text c.in_ok-new.ensures.file },
      ),
    )
