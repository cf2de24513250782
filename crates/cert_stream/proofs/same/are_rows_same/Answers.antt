use Rattle.std.proofs.Common.{◌∙◌, ◌<◌, ℕ, length, subst, sym, arith}
use Rattle.mrt_rows.specs.CertOf.{IsCertOf}
use Rattle.cert_stream.proofs.OneFile.{more_rows, other_rows}
use Rattle.cert_stream.proofs.same.are_rows_same.Goals as goal

pub returns-then-not-has_same_rows-clause-same : goal.returns-then-not-has_same_rows-clause-same
returns-then-not-has_same_rows-clause-same c = λ file second is second_is.
    let now : IsCertOf c.args.g.now c.loop-s.rows.root file = subst (λ (r : ℕ). IsCertOf c.args.g.now r file) (sym c.loop-s.invariant.root) is in
    let second_now : IsCertOf c.args.other.now c.loop-s.others.root second = subst (λ (r : ℕ). IsCertOf c.args.other.now r second) (sym c.loop-s.invariant.others_root) second_is in
    let within : c.loop-s.s < length c.args.g.now.ids = omega arith in
    other_rows c.has_same_rows.result (length c.args.g.now.ids) c.loop-s.s c.new.result file.cert second.cert c.if-not-has_same_rows.true c.new.ensures within
    (c.has_same_rows.ensures.same file second now second_now)

pub loop-s-preserved : goal.loop-s-preserved
loop-s-preserved c = record {
  made = c.has_same_rows.ensures.made;
  others_made = c.has_same_rows.ensures.others_made;
  root = c.has_same_rows.ensures.root ∙ c.loop-s.invariant.root;
  others_root = c.has_same_rows.ensures.others_root ∙ c.loop-s.invariant.others_root;
  same = λ file second is second_is.
      let now : IsCertOf c.args.g.now c.loop-s.rows.root file = subst (λ (r : ℕ). IsCertOf c.args.g.now r file) (sym c.loop-s.invariant.root) is in
      let second_now : IsCertOf c.args.other.now c.loop-s.others.root second = subst (λ (r : ℕ). IsCertOf c.args.other.now r second) (sym c.loop-s.invariant.others_root) second_is in
      more_rows c.has_same_rows.result c.loop-s.s c.new.result file.cert second.cert c.if-not-has_same_rows.false c.new.ensures
      (c.loop-s.invariant.same file second is second_is) (c.has_same_rows.ensures.same file second now second_now);
}
