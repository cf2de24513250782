use Rattle.std.proofs.Common.{◌≡◌, ◌∙◌, true, refl, sym, rules, arith}
use Rattle.std.proofs.lemmas.Bool.{false≢true}
use Rattle.mrt_io.specs.Named.{named}
use Rattle.mrt_io.proofs.Places.{open_further}
use Rattle.mrt_io.proofs.mem_shelf.MemShelfShelf.more.Goals.{in_default-via-in-Some+else-not-failing, in_default-via-in_default}
use Rattle.mrt_io.proofs.mem_shelf.MemShelfShelf.more.Goals as goal

pub left_in-left-requires : goal.left_in-left-requires
left_in-left-requires c = rw c.as_slice-in-Some.ensures.value (rw c.in-Some.is at c.self.invariant)

pub invariant_of-self : goal.invariant_of-self
invariant_of-self c =
    let left = rw c.as_slice-in-Some.ensures.value at c.left_in-left.ensures.left in
    let on =
    open_further (named c.self.inside.files.items) c.in-Some.opened.place c.in-Some.opened.taken c.copy_front-count.result c.left_in-left.result.now
    (rw c.in-Some.is at c.self.invariant) left (omega (arith, c.copy_front-count.ensures.count)) in
    on.0

pub returns-in-Some-clause-taken : goal.returns-in-Some-clause-taken
returns-in-Some-clause-taken c =
    let failing = rw c.as_slice.ensures.value at c.is_failing-failing.ensures.value in
    let left = rw c.as_slice-in-Some.ensures.value at c.left_in-left.ensures.left in
    rw (← c.self.view_is, ← failing, c.if-not-failing.true, c.in-Some.is, left, c.copy_front-count.ensures.count) refl

pub returns-in-Some-clause-bytes : goal.returns-in-Some-clause-bytes
returns-in-Some-clause-bytes c =
    let left = rw c.as_slice-in-Some.ensures.value at c.left_in-left.ensures.left in
    rw (← c.self.view_is, c.in-Some.is, left) c.copy_front-count.ensures.bytes

pub returns-in-Some-clause-after : goal.returns-in-Some-clause-after
returns-in-Some-clause-after c =
    let left = rw c.as_slice-in-Some.ensures.value at c.left_in-left.ensures.left in
    let on =
    open_further (named c.self.inside.files.items) c.in-Some.opened.place c.in-Some.opened.taken c.copy_front-count.result c.left_in-left.result.now
    (rw c.in-Some.is at c.self.invariant) left (omega (arith, c.copy_front-count.ensures.count)) in
    rw (← returns-in-Some-clause-taken c, ← c.self.view_is, on.1, c.in-Some.is, left) (search rules)

pub returns-in-Some-clause-no_fault : goal.returns-in-Some-clause-no_fault
returns-in-Some-clause-no_fault c = rw (← c.self.view_is) (λ healthy. refl)

pub returns-in-Some-clause-stays_healthy : goal.returns-in-Some-clause-stays_healthy
returns-in-Some-clause-stays_healthy c = rw (← c.self.view_is) (λ healthy. (
  λ k d below. omega (arith, healthy.0 k d below, c.saturating_add-self-inside.ensures),
  healthy.1,
))

pub returns-in_default : goal.returns-in_default
returns-in_default c =
    let failing : c.is_failing-failing.result ≡ true = elim c.in_default.branch [
      | in_default-via-in-Some+else-not-failing w ↦ w.if-not-failing.false
      | in_default-via-in_default w ↦ absurd (false≢true (rw (← c.self.view_is, w.in_default.is) at c.requires.open))
    ] in
    let fails = sym (rw c.as_slice.ensures.value at c.is_failing-failing.ensures.value) ∙ failing in
    let never = rw c.as_slice.ensures.value at c.is_failing-failing.ensures.never in
    record {
      length = refl;
      taken = rw (← c.self.view_is, fails) refl;
      bytes = tt;
      after = rw (← c.self.view_is, fails, c.saturating_add-self-inside.ensures, c.saturating_add-self-inside-in_default.ensures) refl;
      count = rw (← c.self.view_is) (omega (arith, c.saturating_add-self-inside-in_default.ensures));
      no_fault = rw (← c.self.view_is) (λ healthy. absurd (cc (never healthy.0, failing)));
      stays_healthy = rw (← c.self.view_is) (λ healthy. absurd (cc (never healthy.0, failing)));
    }
