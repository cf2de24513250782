use Rattle.std.proofs.Common.{◌≡◌, ◌∙◌, true, refl, sym, arith}
use Rattle.std.specs.Result.{is_err}
use Rattle.mrt_io.proofs.Asked.{failed, no_value}
use Rattle.mrt_io.proofs.std_sink.StdSinkSink.put.Goals as goal

pub returns-then-is_err : goal.returns-then-is_err
returns-then-is_err g c =
    let err : is_err c.write_some-taken.result ≡ true = sym c.is_err.ensures.value ∙ c.if-is_err.true in
    record {
      gained = no_value c.write_some-taken.result _ err;
      within = no_value c.write_some-taken.result _ err;
      some = no_value c.write_some-taken.result _ err;
      failed = failed c.write_some-taken.result _ (omega (arith, c.saturating_add-self.ensures));
      nothing = failed c.write_some-taken.result _ refl;
      count = omega (arith, c.saturating_add-self.ensures);
      no_fault = λ n never some full. absurd never;
      stays_healthy = λ n never some full. absurd never;
    }
