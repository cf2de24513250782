use Rattle.std.proofs.Common.{◌≡◌, ◌∙◌, sym}
use Rattle.mrt_rows.specs.NearOf.{near_rows_of}
use Rattle.cert_stream.proofs.same.has_same_rows.Goals as goal

pub returns-clause-same : goal.returns-clause-same
returns-clause-same c = λ file second is second_is.
    let one : c.rows.result.now ≡ near_rows_of file.cert c.args.s = c.rows.ensures ∙ c.find.ensures.rows file is in
    let other : c.rows-2.result.now ≡ near_rows_of second.cert c.args.s = c.rows-2.ensures ∙ c.find-2.ensures.rows second second_is in
    (λ so. sym one ∙ c.are_same.ensures.0 so ∙ other, λ same. c.are_same.ensures.1 (one ∙ same ∙ sym other))
