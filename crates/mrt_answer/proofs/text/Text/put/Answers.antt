use Rattle.std.proofs.Common.{subst, arith}
use Rattle.mrt_answer.specs.declared.text.Text.{Text}
use Rattle.mrt_answer.specs.TextBytes.{IsTextOf}
use Rattle.mrt_answer.proofs.text.Text.put.Goals as goal

pub returns-in-Found-clause-gained : goal.returns-in-Found-clause-gained
returns-in-Found-clause-gained g c = λ bytes is.
    let found = subst (λ (t : Text). IsTextOf t bytes) c.in-Found.is is in
    rw found.2 (c.put-in-Found.ensures.gained found.0 found.1)

pub returns-in-Found-clause-part : goal.returns-in-Found-clause-part
returns-in-Found-clause-part g c = λ bytes is.
    let found = subst (λ (t : Text). IsTextOf t bytes) c.in-Found.is is in
    rw found.2 (c.put-in-Found.ensures.part found.0 found.1)

pub returns-in-Found-clause-succeeds : goal.returns-in-Found-clause-succeeds
returns-in-Found-clause-succeeds g c = λ bytes is.
    let found = subst (λ (t : Text). IsTextOf t bytes) c.in-Found.is is in
    rw found.2 (c.put-in-Found.ensures.succeeds found.0 found.1)

pub returns-in-Found-clause-no_fault : goal.returns-in-Found-clause-no_fault
returns-in-Found-clause-no_fault g c = λ bytes is.
    let found = subst (λ (t : Text). IsTextOf t bytes) c.in-Found.is is in
    rw found.2 (c.put-in-Found.ensures.no_fault found.0 found.1)

pub returns-in-Cert-clause-part : goal.returns-in-Cert-clause-part
returns-in-Cert-clause-part g c = λ bytes is. rw (subst (λ (t : Text). IsTextOf t bytes) c.in-Cert.is is) c.put.ensures.part

pub returns-in-Found-clause-stays_healthy : goal.returns-in-Found-clause-stays_healthy
returns-in-Found-clause-stays_healthy g c = λ bytes is.
    let found = subst (λ (t : Text). IsTextOf t bytes) c.in-Found.is is in
    rw found.2 (c.put-in-Found.ensures.stays_healthy found.0 found.1)

pub returns-in-Found-clause-short : goal.returns-in-Found-clause-short
returns-in-Found-clause-short g c = λ bytes is.
    let found = subst (λ (t : Text). IsTextOf t bytes) c.in-Found.is is in
    rw found.2 (omega (arith, c.one_spelling.ensures.longest found.0 (c.put-in-Found.ensures.within found.0 found.1)))
