use Rattle.std.proofs.Common.{◌≡◌, ◌∙◌, true, refl, sym, arith}
use Rattle.std.specs.Result.{is_err}
use Rattle.std.proofs.lemmas.Bool.{false≢true}
use Rattle.mrt_io.proofs.Asked.{failed, no_value, not_done}
use Rattle.mrt_io.proofs.file_shelf.FileShelfShelf.more.Goals.{in-Some, in-None}
use Rattle.mrt_io.proofs.file_shelf.FileShelfShelf.more.Goals as goal

pub returns-then-is_err : goal.returns-then-is_err
returns-then-is_err g c =
    let err : is_err c.match-self.count ≡ true = sym c.is_err.ensures.value ∙ c.if-is_err.true in
    let faults : c.match-self.self.faults ≡ c.args.self.now.faults = elim c.match-self.branch [
      | in-Some w ↦ rw w.self-is refl
      | in-None w ↦ rw w.self-is refl
    ] in
    record {
      length = c.match-self.auto.piece;
      within = no_value c.match-self.count _ err;
      bytes = no_value c.match-self.count _ err;
      end = no_value c.match-self.count _ err;
      still_open = not_done c.match-self.count _ err;
      closed = failed c.match-self.count _ (λ some. false≢true some);
      failed = failed c.match-self.count _ (omega (arith, faults, c.counted-self.ensures));
      count = omega (arith, faults, c.counted-self.ensures);
      unchanged = refl;
      no_fault = λ never. absurd never;
      stays_healthy = λ never. never;
    }
