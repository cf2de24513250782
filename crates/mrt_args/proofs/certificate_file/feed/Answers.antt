use Rattle.std.proofs.Common.{◌∙◌, Err, ap}
use Rattle.cert_format.specs.declared.error.CertError.{CertError}
use Rattle.cert_format.specs.Stream.{Progress, fed}
use Rattle.mrt_args.proofs.Pieces.{fed_twice}
use Rattle.mrt_args.proofs.certificate_file.feed.Goals as goal

pub returns-in-Err-Fault-clause-fed : goal.returns-in-Err-Fault-clause-fed
returns-in-Err-Fault-clause-fed c =
    let at = c.in-Err-Fault.field-0-0 in
    let kind = c.in-Err-Fault.field-0-1 in
    λ seen is.
    (c.in-Err-Fault.ensures.fault at kind (ap (λ (error : CertError). Err error) c.in-Err-Fault.field-0-is)).1
    ∙ ap (λ (p : Progress). fed p c.args.piece.now) is ∙ fed_twice c.any_pieces.ensures.one seen c.args.piece.now
