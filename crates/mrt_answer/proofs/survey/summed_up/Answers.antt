use Rattle.mrt_graph.proofs.ListTests.{there}
use Rattle.mrt_rows.specs.CertOf.{file_of}
use Rattle.mrt_answer.specs.Texts.{IsComputedFile}
use Rattle.mrt_args.proofs.HandedOn.{if_ok}
use Rattle.mrt_answer.proofs.survey.summed_up.Goals as goal

pub survey_text-requires : goal.survey_text-requires
survey_text-requires c =
    let root = there c.args.graph.now.ids c.args.root c.requires in
    record { version = 2; number = root.0.number; accepted = c.in_ok-cert.ensures.accepted root.0 root.1 }

pub returns : goal.returns
returns c =
    let root = there c.args.graph.now.ids c.args.root c.requires in
    let file = file_of root.0 c.in_ok-cert.cert in
    let accepted = c.in_ok-cert.ensures.accepted root.0 root.1 in
    let certificate : IsComputedFile c.args.graph.now c.args.root file = record {
      computed = c.in_ok-cert.ensures.cert root.0 root.1;
      accepted = accepted;
      sound = c.accepted_implies_sound.ensures c.args.graph.now c.args.root file accepted;
    } in
    if_ok c.survey_text.result _ _ c.survey_text.ensures (λ text spelled. record { file = file; certificate = certificate; spelled = spelled })
