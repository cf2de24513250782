use Rattle.std.proofs.Common.{◌≡◌, ℕ, List, [], Some, Ok, refl, sym, subst}
use Rattle.cert_format.specs.declared.error.CertKind.TheVariants.{Truncated}
use Rattle.cert_format.specs.steps.Steps.{AreReading, Parts, no_parts, progress_by}
use Rattle.cert_format.proofs.Streams.{at_front}
use Rattle.cert_format.proofs.state.State.new.Goals as goal

pub returns-clause-reading : goal.returns-clause-reading
returns-clause-reading c =
    subst (λ (p : Parts). AreReading (Some (record { at = 0; kind = Truncated })) p c.new-2.result) (sym c.new.ensures)
    (subst (AreReading (Some (record { at = 0; kind = Truncated })) no_parts) (sym c.new-2.ensures) at_front)

pub returns-clause-front : goal.returns-clause-front
returns-clause-front c =
    subst (λ (p : Parts). progress_by (Some (record { at = 0; kind = Truncated })) p c.new-2.result ≡ Ok []) (sym c.new.ensures)
    (subst (λ (held : List ℕ). progress_by (Some (record { at = 0; kind = Truncated })) no_parts held ≡ Ok []) (sym c.new-2.ensures) refl)
