use Rattle.std.proofs.Common.{◌-◌, ◌+◌, ◌∙◌, ◌≡◌, ℕ, subst, arith}
use Rattle.mrt_io.proofs.Gaining.{Gained-take, some_left}
use Rattle.mrt_io.proofs.put.put_all.Goals as goal

pub loop-taken-preserved : goal.loop-taken-preserved
loop-taken-preserved g c =
    let left = some_left c.loop-taken.taken c.args.bytes.now c.loop-taken-test.true in
    record {
      within = omega (arith, c.in-Ok.ensures.within);
      gained = Gained-take _ _ _ _ _ _ c.loop-taken.invariant.gained c.in-Ok.ensures.gained;
      count = omega (arith, c.put.ensures.count);
      no_fault = λ n healthy fits.
          c.put.ensures.no_fault (n - c.loop-taken.taken) (c.loop-taken.invariant.stays_healthy n healthy fits) (omega arith) left
          ∙ c.loop-taken.invariant.no_fault n healthy fits;
      stays_healthy = λ n healthy fits.
          let less : n - c.loop-taken.taken - c.in-Ok.count ≡ n - (c.loop-taken.taken + c.in-Ok.count) = omega arith in
          subst (λ (m : ℕ). g.K.Sink.healthy_for c.put.new.self m) less
          (c.in-Ok.ensures.stays_healthy (n - c.loop-taken.taken) (c.loop-taken.invariant.stays_healthy n healthy fits) (omega arith) left);
    }
