use Rattle.std.proofs.Common.{◌≡◌, ◌∙◌, true, false, refl, sym, arith}
use Rattle.std.proofs.lemmas.Bool.{true≢false}
use Rattle.mrt_io.specs.Memory.{is_read_fault}
use Rattle.mrt_io.specs.Named.{named}
use Rattle.mrt_io.proofs.Asked.{count_rose, differ, fault_is, no_fault, none_later, none_open, open_answer, open_is, same_count, told_open}
use Rattle.mrt_io.proofs.mem_shelf.MemShelfShelf.open.Goals as goal

pub returns-then-is_none : goal.returns-then-is_none
returns-then-is_none c =
    let failing = rw c.as_slice.ensures.value at c.is_failing-failing.ensures.value in
    let never = rw c.as_slice.ensures.value at c.is_failing-failing.ensures.never in
    let left = rw c.as_slice-2.ensures.value at c.front_of-self-inside.ensures.left in
    let none = none_open (named c.self.inside.files.items) c.front_of-self-inside.result c.if-is_none.ensures in
    let here = fault_is _ c.is_failing-failing.result (sym none ∙ left) in
    let fault : is_read_fault c.args.self.now c.args.name.now ≡ true = rw (← c.self.view_is, ← failing) here in
    record {
      failed = (λ _. fault, λ _. refl);
      memory = λ is. absurd (differ open_answer _ _ refl is);
      left = tt;
      there = tt;
      after = rw fault (rw (← c.self.view_is, none, c.saturating_add-self-inside.ensures, c.saturating_add-self-inside-then-is_none.ensures) refl);
      count = rw (← c.self.view_is) (count_rose c.self.inside.faults c.saturating_add-self-inside-then-is_none.result (omega arith) c.saturating_add-self-inside-then-is_none.ensures);
      no_fault = rw (← c.self.view_is) (λ healthy there. absurd (true≢false (sym here ∙ no_fault _ _ there (never healthy.0))));
      stays_healthy = rw (← c.self.view_is) (λ healthy there. absurd (true≢false (sym here ∙ no_fault _ _ there (never healthy.0))));
    }

pub returns : goal.returns
returns c =
    let failing = rw c.as_slice.ensures.value at c.is_failing-failing.ensures.value in
    let left = rw c.as_slice-2.ensures.value at c.front_of-self-inside.ensures.left in
    let told = told_open (named c.self.inside.files.items) c.front_of-self-inside.result (rw c.as_slice-2.ensures.value at c.front_of-self-inside.ensures.opened) c.if-is_none.ensures in
    let is = open_is _ _ c.is_failing-failing.result left told in
    let fine : is_read_fault c.args.self.now c.args.name.now ≡ false = rw (← c.self.view_is, ← failing) is.2 in
    record {
      failed = (λ is. absurd (differ open_answer _ _ refl is), λ fault. absurd (true≢false (sym fault ∙ fine)));
      memory = λ is. absurd (differ open_answer _ _ refl is);
      left = rw (← c.self.view_is) (sym is.0);
      there = rw (← c.self.view_is) is.1;
      after = rw fine (rw (← c.self.view_is, is.0, c.saturating_add-self-inside.ensures) refl);
      count = rw (← c.self.view_is) (same_count c.self.inside.faults);
      no_fault = rw (← c.self.view_is) (λ healthy there. refl);
      stays_healthy = rw (← c.self.view_is) (λ healthy there. (none_later _ _ _ (omega arith) c.saturating_add-self-inside.ensures healthy.0, healthy.1));
    }
