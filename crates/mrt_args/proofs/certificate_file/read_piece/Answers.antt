use Rattle.std.proofs.Common.{◌≡◌, ◌↔◌, ℕ, List, [], Option, Some, None, take, ap, arith}
use Rattle.std.specs.Prelude.{IfSome}
use Rattle.std.proofs.lemmas.Grind.{common_steps}
use Rattle.std.proofs.lemmas.Result.{err_from_is_err_and}
use Rattle.mrt_args.specs.Files.{NamedFile}
use Rattle.mrt_args.proofs.certificate_file.read_piece.Goals as goal

-- where no byte was taken, none is left
none_left : (left : Option (List ℕ)) (count : ℕ) → IfSome left (λ bytes. (count ≡ 0) ↔ (bytes ≡ [])) → count ≡ 0 → IfSome left (λ bytes. bytes ≡ [])
none_left None count both zero = tt
none_left (Some bytes) count both zero = both.0 zero

pub returns-in_ok-feed-in-Ok : goal.returns-in_ok-feed-in-Ok
returns-in_ok-feed-in-Ok g c = record {
  within = c.in-Ok.ensures.within;
  fed = record {
    bytes = take c.in-Ok.count c.more.new.piece;
    counted = grind (arith, common_steps, c.in-Ok.ensures.within, c.more.ensures.length);
    taken = c.in-Ok.ensures.bytes;
    fed_on = c.in_ok-feed-in-Ok.ensures.fed;
  };
  end = none_left _ c.in-Ok.count c.in-Ok.ensures.end;
  still_open = c.in-Ok.ensures.still_open;
  stopped = tt;
  count = c.more.ensures.count;
  unchanged = c.more.ensures.unchanged;
  no_fault = λ well told. c.more.ensures.no_fault well;
  stays_healthy = λ well told. c.more.ensures.stays_healthy well;
}

pub returns-in_err-feed-in-Ok : goal.returns-in_err-feed-in-Ok
returns-in_err-feed-in-Ok g c =
    let q = err_from_is_err_and c.from_residual.result c.from_residual.ensures.1 in
    rw (q.1, q.2, c.in_err-feed-in-Ok.ensures.memory) (record {
      within = tt;
      fed = tt;
      end = tt;
      still_open = tt;
      stopped = tt;
      count = c.more.ensures.count;
      unchanged = c.more.ensures.unchanged;
      no_fault = λ well told. c.more.ensures.no_fault well;
      stays_healthy = λ well told. c.more.ensures.stays_healthy well;
    })

pub returns-in-Err : goal.returns-in-Err
returns-in-Err g c = record {
  within = tt;
  fed = tt;
  end = tt;
  still_open = tt;
  stopped = (ap (λ (file : NamedFile). file.place) c.file.view_is, c.in-Err.ensures.failed);
  count = c.more.ensures.count;
  unchanged = c.more.ensures.unchanged;
  no_fault = λ well told. c.more.ensures.no_fault well;
  stays_healthy = λ well told. c.more.ensures.stays_healthy well;
}
