use Rattle.std.proofs.Common.{◌≡◌, ◌∙◌, ℕ, List, [], Some, Ok, Err, refl, sym, ap, inl, inr}
use Rattle.std.proofs.lemmas.Result.{err_from_is_err_and}
use Rattle.mrt_graph.specs.declared.cert.CertFile.{CertFile}
use Rattle.cert_format.specs.declared.error.CertKind.{CertKind}
use Rattle.cert_format.specs.declared.error.CertError.TheVariants as errors
use Rattle.cert_format.specs.CertText.{cert_text}
use Rattle.cert_format.specs.FirstFault.{first_fault}
use Rattle.cert_format.specs.Stream.{Progress, end_fault, fed}
use Rattle.cert_format.proofs.GoesOn.{no_fault}
use Rattle.cert_format.proofs.Finished.{one_file}
use Rattle.cert_format.proofs.Forms.{same_fault}
use Rattle.cert_format.proofs.Streams.{end_is_first, seen_ok}
use Rattle.cert_format.proofs.reading.read_cert.Goals as goal

-- a stream of these bytes alone
spelled_in : (bytes : List ℕ) (start now : Progress) (f : CertFile) → start ≡ Ok [] → now ≡ fed start bytes → now ≡ Ok (cert_text f) → bytes ≡ cert_text f
spelled_in bytes start now f front is e = seen_ok bytes (cert_text f) (ap (λ (p : Progress). fed p bytes) (sym front) ∙ sym is ∙ e)

first_in : (bytes : List ℕ) (start now : Progress) (fault : ℕ × CertKind) → start ≡ Ok [] → now ≡ fed start bytes → end_fault now ≡ Some fault → first_fault bytes ≡ Some fault
first_in bytes start now fault front is e =
    sym (end_is_first bytes) ∙ ap (λ (p : Progress). end_fault (fed p bytes)) (sym front) ∙ ap end_fault (sym is) ∙ e

pub returns-in_err-read_or_stay : goal.returns-in_err-read_or_stay
returns-in_err-read_or_stay c =
    let q = err_from_is_err_and c.from_residual.result c.from_residual.ensures.1 in
    rw (q.1, q.2) (record { found = tt; only = λ f is e. inr refl; fault = λ at kind e. absurd cc; faulty = λ at kind e. inr refl })

pub returns-in_err-file : goal.returns-in_err-file
returns-in_err-file c =
    let fault = c.in_err-file.field-0.0 in
    let first = first_in c.args.bytes.now _ _ (fault.at, fault.kind) c.new-state.ensures.front c.in_ok-read_or_stay.ensures.ok c.in_err-file.ensures in
    let q = err_from_is_err_and c.from_residual-in_err-file.result c.from_residual-in_err-file.ensures.1 in
    rw (q.1, q.2) (record {
      found = tt;
      only = λ f is e. let none = sym first ∙ ap first_fault e ∙ no_fault f is in absurd cc;
      fault = λ at kind e. cc;
      faulty = λ at kind e. inl (ap (λ (p : ℕ × CertKind). Err (errors.Fault p.0 p.1)) (same_fault (fault.at, fault.kind) (at, kind) (sym first ∙ e)));
    })

pub returns : goal.returns
returns c =
    let file = c.in_ok-file.file in
    let spelled = spelled_in c.args.bytes.now _ _ file c.new-state.ensures.front c.in_ok-read_or_stay.ensures.ok c.in_ok-file.ensures.1 in
    record {
      found = (c.in_ok-file.ensures.0, spelled);
      only = λ f is e. inl (ap Ok (one_file file f c.in_ok-file.ensures.0 is (sym spelled ∙ e)));
      fault = λ at kind e. absurd cc;
      faulty = λ at kind e. let none = sym e ∙ ap first_fault spelled ∙ no_fault file c.in_ok-file.ensures.0 in absurd cc;
    }
