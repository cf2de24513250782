use Rattle.std.proofs.Common.{◌≡◌, ◌+◌, ◌-◌, ◌≤◌, ℕ, List, Option, eqb, eq-eqb, leb-true, sym, subst, arith, true≢false}
use Rattle.std.specs.Prelude.{IsTrue}
use Rattle.area_graph.specs.declared.area_types.Arc.{Arc}
use Rattle.primary_alt.specs.steps.Attaining.{Attains}
use Rattle.primary_alt.specs.Distances.{HasDistance}
use Rattle.primary_alt.proofs.Beginning.{equal_by}
use Rattle.primary_alt.proofs.NumbersRead.{number_read, one_number, read_of}
use Rattle.primary_alt.proofs.first_arcs.attains.Goals as goal

-- by the two distances that were read
attained : (known : List (Option ℕ)) (arc : Arc) (near rest : ℕ) → HasDistance known arc.tail near → HasDistance known arc.to rest → arc.metric ≤ near
    → (IsTrue (eqb (near - arc.metric) rest) → Attains known arc) × (Attains known arc → IsTrue (eqb (near - arc.metric) rest))
attained known arc near rest tail to low = (
  λ same.
      let sum : near ≡ arc.metric + rest = omega (arith, low, equal_by (near - arc.metric) rest same) in
      record { rest = rest; far = to; near = subst (λ (d : ℕ). HasDistance known arc.tail d) sum tail },
  λ attains.
      eq-eqb (near - arc.metric) rest (omega (arith, one_number known arc.to attains.rest rest attains.far to, one_number known arc.tail (arc.metric + attains.rest) near attains.near tail)),
)

pub returns-in_default : goal.returns-in_default
returns-in_default c = (
  λ is. absurd (true≢false (sym is)),
  λ attains. absurd (c.in_default.not-Some (c.args.arc.now.metric + attains.rest) (read_of c.args.known.now c.get.result c.args.arc.now.tail _ c.get.ensures.value attains.near)),
)

pub returns-in_default-known : goal.returns-in_default-known
returns-in_default-known c = (
  λ is. absurd (true≢false (sym is)),
  λ attains. absurd (c.in_default-known.not-Some attains.rest (read_of c.args.known.now c.get-2.result c.args.arc.now.to _ c.get-2.ensures.value attains.far)),
)

pub returns-then-near-metric : goal.returns-then-near-metric
returns-then-near-metric c =
    let known = c.args.known.now in
    let arc = c.args.arc.now in
    attained known arc c.in-Some.near c.in-Some-known.rest (number_read known c.get.result arc.tail c.in-Some.near c.get.ensures.value c.requires.tail c.in-Some.is)
    (number_read known c.get-2.result arc.to c.in-Some-known.rest c.get-2.ensures.value c.requires.to c.in-Some-known.is) c.if-near-metric.true

pub returns-else-near-metric : goal.returns-else-near-metric
returns-else-near-metric c =
    let known = c.args.known.now in
    let arc = c.args.arc.now in
    let near = number_read known c.get.result arc.tail c.in-Some.near c.get.ensures.value c.requires.tail c.in-Some.is in (
      λ is. absurd (omega (arith, c.if-near-metric.false, leb-true arc.metric c.in-Some.near is)),
      λ attains. absurd (omega (arith, c.if-near-metric.false, one_number known arc.tail (arc.metric + attains.rest) c.in-Some.near attains.near near)),
    )
