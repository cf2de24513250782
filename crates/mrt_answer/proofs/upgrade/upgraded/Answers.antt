use Rattle.std.proofs.Common.{Result, inl, subst}
use Rattle.cert_format.specs.declared.error.CertFault.{CertFault}
use Rattle.mrt_graph.specs.declared.cert.CertFile.{CertFile}
use Rattle.mrt_exit.specs.Faults.{certificate_exit}
use Rattle.mrt_args.specs.Work.{IsCertRead}
use Rattle.mrt_answer.specs.Forms.{upgraded_to}
use Rattle.mrt_answer.specs.Reading.{certificate_of}
use Rattle.mrt_answer.proofs.TextSteps.{ends_second, handed_on}
use Rattle.mrt_answer.proofs.upgrade.upgraded.Goals as goal

pub returns-in_err-file : goal.returns-in_err-file
returns-in_err-file c = λ bytes read.
    handed_on (certificate_of bytes) (upgraded_to c.args.given.now) c.from_residual.result (certificate_exit c.in_err-file.field-0.0)
    c.from_residual.ensures.1 (inl (subst (λ (it : Result CertFile CertFault). IsCertRead bytes it) c.in_err-file.was read))

pub returns : goal.returns
returns c = λ bytes read.
    ends_second (certificate_of bytes) (upgraded_to c.args.given.now) c.in_ok-file.file
    (subst (λ (it : Result CertFile CertFault). IsCertRead bytes it) c.in_ok-file.was read) c.upgrade.result c.upgrade.ensures
