use Rattle.std.proofs.Common.{refl, sym, subst}
use Rattle.cert_format.specs.CertText.{cert_text}
use Rattle.mrt_graph.specs.declared.cert.CertFile.{CertFile}
use Rattle.cert_stream.specs.Stream.{Stream}
use Rattle.mrt_rows.specs.CertOf.{IsCertOf}
use Rattle.mrt_answer.specs.Texts.{IsComputed}
use Rattle.mrt_answer.proofs.certificate.certify_island.Goals as goal

pub returns : goal.returns
returns c =
    let island = c.args.island in
    let some = c.in_ok-new.ensures.cert in
    let file : CertFile = some.0 in
    let accepted = c.certificates_are_accepted.ensures island.graph island.root file c.in_ok-new.ensures.kept c.requires some.1 in
    let computed : IsComputed island.graph island.root (cert_text file) = record {
      file = file;
      certificate = record {
        computed = some.1;
        accepted = accepted;
        sound = c.accepted_implies_sound.ensures island.graph island.root file accepted;
      };
      spelled = record { within = c.in_ok-new.ensures.within file some.1; spelled = refl };
    } in
    (file, subst (λ (s : Stream). IsCertOf s.graph s.root file) (sym c.in_ok-new.ensures.made) some.1, computed)
