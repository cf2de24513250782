use Rattle.std.proofs.Common.{◌∙◌, Some, None, refl, sym}
use Rattle.std.proofs.lemmas.Bool.{both_ways}
use Rattle.fabric.specs.steps.Viewed.{viewed}
use Rattle.fabric.proofs.SomeHop.{some_repair}
use Rattle.fabric.proofs.handling.handled.Goals as goal

pub returns-then-has_failed : goal.returns-then-has_failed
returns-then-has_failed g c =
    let inside = sym c.has_failed.ensures ∙ c.if-has_failed.true in
    let repair = some_repair (viewed g.R.RowsOf.rows c.args.parts.now) c.args.failure c.args.packet.now in
    record { hop = None; hop_is = λ stands. absurd (both_ways _ stands inside); repair = repair.0; repair_is = repair.1; is = rw inside refl }

pub returns-in_default : goal.returns-in_default
returns-in_default g c =
    let repair = some_repair (viewed g.R.RowsOf.rows c.args.parts.now) c.args.failure c.args.packet.now in
    record { hop = None; hop_is = λ stands. rw c.in_default.is at c.next_hop.ensures; repair = repair.0; repair_is = repair.1; is = rw (sym c.has_failed.ensures ∙ c.if-has_failed.false) refl }

pub returns : goal.returns
returns g c = record {
  hop = Some c.in-Some.hop;
  hop_is = λ stands. rw c.in-Some.is at c.next_hop.ensures;
  repair = c.sent.ensures.0;
  repair_is = c.sent.ensures.1;
  is = rw (sym c.has_failed.ensures ∙ c.if-has_failed.false) c.sent.ensures.2;
}
