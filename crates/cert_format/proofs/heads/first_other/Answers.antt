use Rattle.std.proofs.Common.{◌≡◌, ◌==◌, ℕ, false, not, length, sym, ap, subst, inl, inr, arith}
use Rattle.std.proofs.lemmas.Bool.{cases_eq, eq-eqb, ne_eqb}
use Rattle.std.specs.List.{slice_index_or}
use Rattle.cert_format.proofs.HeadFaults.{least_is, least_none}
use Rattle.cert_format.proofs.heads.first_other.Goals as goal

pub returns-then-ends-v : goal.returns-then-ends-v
returns-then-ends-v c =
    sym (least_is (λ v. not (slice_index_or c.args.ends.now v 0 == c.args.top)) (length c.args.ends.now) c.loop-v.v c.loop-v-test.true
    (ap not (ne_eqb (slice_index_or c.args.ends.now c.loop-v.v 0) c.args.top c.if-ends-v.true)) c.loop-v.invariant)

pub loop-v-preserved : goal.loop-v-preserved
loop-v-preserved c = λ x below. elim (cases_eq x c.loop-v.v) [
  | inl same ↦ subst (λ (y : ℕ). not (slice_index_or c.args.ends.now y 0 == c.args.top) ≡ false) (sym same) (ap not (eq-eqb (slice_index_or c.args.ends.now c.loop-v.v 0) c.args.top c.if-ends-v.false))
  | inr other ↦ c.loop-v.invariant x (omega (arith, below, other))
]

pub returns : goal.returns
returns c = sym (least_none (λ v. not (slice_index_or c.args.ends.now v 0 == c.args.top)) (length c.args.ends.now) (λ x below. c.loop-v.invariant x (omega (arith, below, c.loop-v-test.false))))
