use Rattle.std.proofs.Common.{◌≡◌, ◌∙◌, ℕ, List, Some, true, false, refl, sym, ap, arith}
use Rattle.std.proofs.lemmas.Bool.{or_right, true≢false, false≢true}
use Rattle.std.proofs.lemmas.Result.{err_from_is_err_and}
use Rattle.mrt_io.specs.Memory.{is_read_fault}
use Rattle.mrt_io.proofs.Asked.{count_rose, differ, none_later, read_answer, same_count}
use Rattle.mrt_io.proofs.mem_shelf.MemShelfShelf.read.Goals as goal

pub returns-in_default : goal.returns-in_default
returns-in_default c =
    let missing = rw c.as_slice-2.ensures.value at c.in_default.ensures in
    let fault : is_read_fault c.args.self.now c.args.name.now ≡ true = rw (← c.self.view_is, ← missing) refl in
    record {
      bytes = tt;
      within = tt;
      too_long = λ is. absurd (differ read_answer _ _ refl is);
      failed = (λ _. fault, λ _. refl);
      after = rw fault (rw (← c.self.view_is, c.saturating_add-self-inside.ensures, c.saturating_add-self-inside-in_default.ensures) refl);
      count = rw (← c.self.view_is) (count_rose c.self.inside.faults c.saturating_add-self-inside-in_default.result (omega arith) c.saturating_add-self-inside-in_default.ensures);
      no_fault = rw (← c.self.view_is, ← missing) (λ healthy there. absurd (false≢true there));
      stays_healthy = rw (← c.self.view_is, ← missing) (λ healthy there. absurd (false≢true there));
      still_left = rw (← c.self.view_is) refl;
    }

pub returns-then-failing : goal.returns-then-failing
returns-then-failing c =
    let failing = rw c.as_slice.ensures.value at c.is_failing-failing.ensures.value in
    let never = rw c.as_slice.ensures.value at c.is_failing-failing.ensures.never in
    let fault : is_read_fault c.args.self.now c.args.name.now ≡ true = rw (← c.self.view_is, ← failing) (or_right _ _ c.if-failing.true) in
    record {
      bytes = tt;
      within = tt;
      too_long = λ is. absurd (differ read_answer _ _ refl is);
      failed = (λ _. fault, λ _. refl);
      after = rw fault (rw (← c.self.view_is, c.saturating_add-self-inside.ensures, c.saturating_add-self-inside-then-failing.ensures) refl);
      count = rw (← c.self.view_is) (count_rose c.self.inside.faults c.saturating_add-self-inside-then-failing.result (omega arith) c.saturating_add-self-inside-then-failing.ensures);
      no_fault = rw (← c.self.view_is) (λ healthy there. absurd (true≢false (sym c.if-failing.true ∙ never healthy.0)));
      stays_healthy = rw (← c.self.view_is) (λ healthy there. absurd (true≢false (sym c.if-failing.true ∙ never healthy.0)));
      still_left = rw (← c.self.view_is) refl;
    }

pub returns-then-file-limit : goal.returns-then-file-limit
returns-then-file-limit c =
    let failing = rw c.as_slice.ensures.value at c.is_failing-failing.ensures.value in
    let there = rw c.as_slice-2.ensures.value at c.in-Some.ensures in
    let fine : is_read_fault c.args.self.now c.args.name.now ≡ false = rw (← c.self.view_is, ← failing, ← there) c.if-failing.false in
    record {
      bytes = tt;
      within = tt;
      too_long = λ _. rw (← c.self.view_is, ← there) (omega (arith, c.if-file-limit.true));
      failed = (λ is. absurd (differ read_answer _ _ refl is), λ fault. absurd (true≢false (sym fault ∙ fine)));
      after = rw fine (rw (← c.self.view_is, c.saturating_add-self-inside.ensures) refl);
      count = rw (← c.self.view_is) (same_count c.self.inside.faults);
      no_fault = rw (← c.self.view_is) (λ healthy there. refl);
      stays_healthy = rw (← c.self.view_is) (λ healthy there. (none_later _ _ _ (omega arith) c.saturating_add-self-inside.ensures healthy.0, healthy.1));
      still_left = rw (← c.self.view_is) refl;
    }

pub returns-in_err-from_slice : goal.returns-in_err-from_slice
returns-in_err-from_slice c =
    let q = err_from_is_err_and c.from_residual.result c.from_residual.ensures.1 in
    let failing = rw c.as_slice.ensures.value at c.is_failing-failing.ensures.value in
    let there = rw c.as_slice-2.ensures.value at c.in-Some.ensures in
    let fine : is_read_fault c.args.self.now c.args.name.now ≡ false = rw (← c.self.view_is, ← failing, ← there) c.if-failing.false in
    rw (q.1, q.2) (record {
      bytes = tt;
      within = tt;
      too_long = λ is. absurd (differ read_answer _ _ refl is);
      failed = (λ is. absurd (differ read_answer _ _ refl is), λ fault. absurd (true≢false (sym fault ∙ fine)));
      after = rw fine (rw (← c.self.view_is, c.saturating_add-self-inside.ensures) refl);
      count = rw (← c.self.view_is) (same_count c.self.inside.faults);
      no_fault = rw (← c.self.view_is) (λ healthy there. refl);
      stays_healthy = rw (← c.self.view_is) (λ healthy there. (none_later _ _ _ (omega arith) c.saturating_add-self-inside.ensures healthy.0, healthy.1));
      still_left = rw (← c.self.view_is) refl;
    })

pub returns : goal.returns
returns c =
    let failing = rw c.as_slice.ensures.value at c.is_failing-failing.ensures.value in
    let there = rw c.as_slice-2.ensures.value at c.in-Some.ensures in
    let fine : is_read_fault c.args.self.now c.args.name.now ≡ false = rw (← c.self.view_is, ← failing, ← there) c.if-failing.false in
    record {
      bytes = rw (← c.self.view_is, ← there) (ap (λ (bytes : List ℕ). Some bytes) (sym c.in_ok-from_slice.ensures.items));
      within = omega (arith, c.if-file-limit.false, c.in_ok-from_slice.ensures.len);
      too_long = λ is. absurd (differ read_answer _ _ refl is);
      failed = (λ is. absurd (differ read_answer _ _ refl is), λ fault. absurd (true≢false (sym fault ∙ fine)));
      after = rw fine (rw (← c.self.view_is, c.saturating_add-self-inside.ensures) refl);
      count = rw (← c.self.view_is) (same_count c.self.inside.faults);
      no_fault = rw (← c.self.view_is) (λ healthy there. refl);
      stays_healthy = rw (← c.self.view_is) (λ healthy there. (none_later _ _ _ (omega arith) c.saturating_add-self-inside.ensures healthy.0, healthy.1));
      still_left = rw (← c.self.view_is) refl;
    }
