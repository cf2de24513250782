use Rattle.std.proofs.Common.{◌≡◌, ◌≢◌, ◌+◌, ◌∙◌, ℕ, List, Option, None, Some, get_or, sym, ap, subst, arith}
use Rattle.std.proofs.lemmas.Option.{same_Some}
use Rattle.area_graph.specs.declared.area_types.Arc.{Arc}
use Rattle.primary_alt.specs.Distances.{HasDistance}
use Rattle.primary_alt.specs.steps.Onward.{IsOnward}
use Rattle.primary_alt.proofs.NumbersRead.{number_read, one_number, read_of}
use Rattle.primary_alt.proofs.onward.sum_over.Goals as goal

-- by the two distances that were read
summed : (known : List (Option ℕ)) (arc : Arc) (near far sum : ℕ) → HasDistance known arc.tail near → HasDistance known arc.to far → near + arc.metric ≡ far
    → (Some (near + far) ≡ Some sum → IsOnward known arc sum) × (IsOnward known arc sum → Some (near + far) ≡ Some sum)
summed known arc near far sum tail to is = (
  λ same. record {
    near = near;
    tail = tail;
    to = subst (λ (d : ℕ). HasDistance known arc.to d) (sym is) to;
    is = omega (arith, is, same_Some (near + far) sum same);
  },
  λ onward. ap (λ (n : ℕ). Some n) (omega (arith, is, onward.is, one_number known arc.tail onward.near near onward.tail tail)),
)

no_sum : (known : List (Option ℕ)) (arc : Arc) (near far sum : ℕ) → HasDistance known arc.tail near → HasDistance known arc.to far → near + arc.metric ≢ far
    → (None ≡ Some sum → IsOnward known arc sum) × (IsOnward known arc sum → None ≡ Some sum)
no_sum known arc near far sum tail to other = (
  λ same. absurd (cc same),
  λ onward. absurd (other (omega (arith, one_number known arc.tail onward.near near onward.tail tail, one_number known arc.to (onward.near + arc.metric) far onward.to to))),
)

is_none : (o : Option ℕ) (sum : ℕ) → o ≡ None → o ≡ Some sum → ⊥
is_none o sum none is = let clash : None ≡ Some sum = sym none ∙ is in cc

none_read : (known : List (Option ℕ)) (at v d : ℕ) → at ≡ v → get_or known at None ≡ None → ¬ HasDistance known v d
none_read known at v d same none has = let clash : None ≡ Some d = sym none ∙ read_of known at v d same has in cc

pub returns-in_err-near : goal.returns-in_err-near
returns-in_err-near c = λ sum. (
  λ is. absurd (is_none c.from_residual.result sum c.from_residual.ensures is),
  λ onward. absurd (none_read c.args.distances.now c.get.result c.args.arc.now.tail onward.near c.get.ensures.value c.in_err-near.was onward.tail),
)

pub returns-in_err-far : goal.returns-in_err-far
returns-in_err-far c = λ sum. (
  λ is. absurd (is_none c.from_residual-in_err-far.result sum c.from_residual-in_err-far.ensures is),
  λ onward. absurd (none_read c.args.distances.now c.get-2.result c.args.arc.now.to (onward.near + c.args.arc.now.metric) c.get-2.ensures.value c.in_err-far.was onward.to),
)

pub returns-then-near-arc : goal.returns-then-near-arc
returns-then-near-arc c = λ sum.
    let known = c.args.distances.now in
    let arc = c.args.arc.now in
    no_sum known arc c.in_ok-near.near c.in_ok-far.far sum
    (number_read known c.get.result arc.tail c.in_ok-near.near c.get.ensures.value c.requires.tail c.in_ok-near.was)
    (number_read known c.get-2.result arc.to c.in_ok-far.far c.get-2.ensures.value c.requires.to c.in_ok-far.was) c.if-near-arc.true

pub returns : goal.returns
returns c = λ sum.
    let known = c.args.distances.now in
    let arc = c.args.arc.now in
    summed known arc c.in_ok-near.near c.in_ok-far.far sum
    (number_read known c.get.result arc.tail c.in_ok-near.near c.get.ensures.value c.requires.tail c.in_ok-near.was)
    (number_read known c.get-2.result arc.to c.in_ok-far.far c.get-2.ensures.value c.requires.to c.in_ok-far.was) c.if-near-arc.false
