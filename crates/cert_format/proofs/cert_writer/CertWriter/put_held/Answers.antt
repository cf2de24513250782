use Rattle.std.proofs.Common.{◌+◌, refl, arith}
use Rattle.cert_format.specs.Putting.{Writer}
use Rattle.cert_format.proofs.Puttings.{fails_within, puts_fails, puts_out}
use Rattle.cert_format.proofs.cert_writer.CertWriter.put_held.Goals as goal

pub overflow_add-self : goal.overflow_add-self
overflow_add-self g c =
    let small = rw (← c.self.view_is) at c.requires in
    omega (arith, small)

pub failed_after-requires : goal.failed_after-requires
failed_after-requires g c =
    let small = rw (← c.self.view_is) at c.requires in
    fails_within c.self.inside.gone c.in-Err.error c.self.inside.bytes.items _ _ small (rw c.deref.ensures.value at c.in-Err.ensures.part)

pub returns-in-Err-clause-puts : goal.returns-in-Err-clause-puts
returns-in-Err-clause-puts g c =
    let writer : Writer = record { version = c.self.inside.version; gone = c.self.inside.gone; held = c.self.inside.bytes.items } in
    rw (c.failed_after.ensures, ← c.self.view_is)
    (puts_fails _ _ _ _ _ _ writer writer c.in-Err.error refl (rw c.deref.ensures.value at c.in-Err.ensures.part) c.in-Err.ensures.cause c.put_all.ensures.count
    (g.met.K.Sink.healthy_below c.args.sink.now) (rw c.deref.ensures.value at c.put_all.ensures.no_fault))

pub returns-clause-puts : goal.returns-clause-puts
returns-clause-puts g c =
    let old : Writer = record { version = c.self.inside.version; gone = c.self.inside.gone; held = c.self.inside.bytes.items } in
    let new : Writer = record { version = c.self.inside.version; gone = c.self.inside.gone + c.len.result; held = c.clear.new.self.items } in
    rw (← c.self.view_is)
    (puts_out _ _ _ _ _ _ old new refl (omega arith) c.clear.ensures.items (rw c.deref.ensures.value at c.in-Ok.ensures.gained) c.put_all.ensures.count
    (rw c.deref.ensures.value at c.put_all.ensures.no_fault) (rw c.deref.ensures.value at c.put_all.ensures.stays_healthy))
