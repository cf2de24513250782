use Rattle.std.proofs.Common.{◌∙◌, sym, ap, arith}
use Rattle.std.specs.Prelude.{slice_get}
use Rattle.mrt_island.proofs.Flagging.{taken_here, passed_here}
use Rattle.mrt_island.proofs.numbering.ids_inside.Goals as goal
use Rattle.mrt_island.proofs.numbering.ids_inside.Goals.{then-inside-s, else-inside-s}

pub loop-s-preserved : goal.loop-s-preserved
loop-s-preserved c = elim c.if-inside-s.branch [
  | then-inside-s w ↦ record {
    room = rw w.ids-is (omega (arith, w.push_reserved.ensures.capacity));
    count = rw w.ids-is (omega (arith, w.push_reserved.ensures.len));
    so_far = taken_here c.args.inside.now c.args.area.now.ids c.loop-s.s w.id.result _ _ _
        (ap (slice_get c.args.area.now.ids) (sym w.new.ensures) ∙ w.id.ensures) w.if-inside-s.true
        (ap (λ v. v.items) w.ids-is ∙ w.push_reserved.ensures.items) c.loop-s.invariant.so_far;
  }
  | else-inside-s w ↦ record {
    room = rw w.ids-is c.loop-s.invariant.room;
    count = rw w.ids-is (omega arith);
    so_far = passed_here c.args.inside.now c.args.area.now.ids c.loop-s.s _ _ _ (omega arith) (omega arith) w.if-inside-s.false
        (ap (λ v. v.items) w.ids-is) c.loop-s.invariant.so_far;
  }
]
