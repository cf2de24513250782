use Rattle.std.proofs.Common.{◌∙◌, List, Option, ℕ, length, sym, ap, subst, arith, true≢false}
use Rattle.std.specs.BinaryHeap.{heap_items}
use Rattle.primary_alt.specs.Distances.{HasDistance}
use Rattle.primary_alt.proofs.BackwardSteps.{offer_passed, offer_stale}
use Rattle.primary_alt.proofs.backward.settle.Goals as goal

pub relax-requires-clause-tails : goal.relax-requires-clause-tails
relax-requires-clause-tails c = λ arc has. c.requires.tails arc (c.row.ensures.only arc has).0

pub relax-requires-clause-near : goal.relax-requires-clause-near
relax-requires-clause-near c =
    c.requires.small c.args.nearest.node c.args.nearest.distance
    (subst (λ (xs : List (Option ℕ)). HasDistance xs c.args.nearest.node c.args.nearest.distance) c.deref.ensures.value (c.stands.ensures.0 c.if-stands.true))

pub returns-in_ok-relax-clause-searching : goal.returns-in_ok-relax-clause-searching
returns-in_ok-relax-clause-searching c = λ t is.
    offer_passed c.args.into.now.arcs.items c.row.result.now t c.args.nearest.node c.args.nearest.distance c.args.known.now.items c.relax.new.known.items
    (heap_items c.args.waiting.now) (heap_items c.relax.new.waiting)
    (subst (λ (xs : List (Option ℕ)). HasDistance xs c.args.nearest.node c.args.nearest.distance) c.deref.ensures.value (c.stands.ensures.0 c.if-stands.true))
    c.row.ensures c.in_ok-relax.ensures.relaxed is

pub returns-else-stands-clause-searching : goal.returns-else-stands-clause-searching
returns-else-stands-clause-searching c = λ t is.
    offer_stale c.args.into.now.arcs.items t c.args.nearest.node c.args.nearest.distance c.args.known.now.items (heap_items c.args.waiting.now)
    (λ has. true≢false (sym (c.stands.ensures.1 (subst (λ (xs : List (Option ℕ)). HasDistance xs c.args.nearest.node c.args.nearest.distance) (sym c.deref.ensures.value) has)) ∙ c.if-stands.false))
    is

pub row-requires : goal.row-requires
row-requires c = record { starts = c.requires.starts; node = omega (arith, c.requires.rows, c.requires.node) }

pub stands-requires : goal.stands-requires
stands-requires c = omega (arith, c.requires.node, ap length c.deref.ensures.value)

pub returns-in_ok-relax-clause-one_each : goal.returns-in_ok-relax-clause-one_each
returns-in_ok-relax-clause-one_each c = c.in_ok-relax.ensures.relaxed.one_each

pub returns-in_ok-relax-clause-small : goal.returns-in_ok-relax-clause-small
returns-in_ok-relax-clause-small c = c.in_ok-relax.ensures.relaxed.small
