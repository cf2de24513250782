use Rattle.std.proofs.Common.{◌∙◌, ◌++◌, List, ℕ, ap}
use Rattle.std.proofs.lemmas.Option.{same_Some}
use Rattle.cert_format.specs.CertText.{cert_text}
use Rattle.cert_format.proofs.writing.write_cert.Goals as goal

pub returns-in-Ok-clause-text : goal.returns-in-Ok-clause-text
returns-in-Ok-clause-text c =
    c.into_bytes.ensures ∙ same_Some _ _ c.in-Ok.ensures.gained ∙ ap (λ (it : List ℕ). it ++ cert_text c.args.f.now) c.new.ensures.items
