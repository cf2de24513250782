use Rattle.std.proofs.Common.{◌≡◌, true, refl, arith}
use Rattle.std.specs.Result.{is_err}
use Rattle.mrt_io.proofs.Asked.{no_value}
use Rattle.mrt_io.proofs.file_shelf.FileShelfShelf.read.Goals as goal

pub returns-in-Err-Failed : goal.returns-in-Err-Failed
returns-in-Err-Failed g c =
    let err : is_err c.read_file-file.result ≡ true = rw c.in-Err-Failed.is refl in
    record {
      bytes = no_value c.read_file-file.result _ err;
      within = no_value c.read_file-file.result _ err;
      too_long = λ is. tt;
      known_too_long = λ never. absurd never;
      failed = λ is. omega (arith, c.counted-self.ensures);
      missing = λ never. absurd never;
      count = omega (arith, c.counted-self.ensures);
      unchanged = refl;
      no_fault = λ never there. absurd never;
      stays_healthy = λ never there. never;
      still_open = (λ some. some, λ some. some);
      still_left = refl;
    }
