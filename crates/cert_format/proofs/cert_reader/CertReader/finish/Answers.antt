use Rattle.std.proofs.Common.{subst}
use Rattle.cert_format.specs.steps.Steps.{Finishes}
use Rattle.cert_format.specs.Stream.{Progress}
use Rattle.cert_format.proofs.Finished.{first_is_answered, spelled_is_read}
use Rattle.cert_format.proofs.cert_reader.CertReader.finish.Goals as goal

pub returns-clause-only : goal.returns-clause-only
returns-clause-only c = spelled_is_read c.args.self c.end.result (subst (λ (p : Progress). Finishes p c.end.result) c.self.view_is c.end.ensures)

pub returns-clause-faulty : goal.returns-clause-faulty
returns-clause-faulty c = first_is_answered c.args.self c.end.result (subst (λ (p : Progress). Finishes p c.end.result) c.self.view_is c.end.ensures)
