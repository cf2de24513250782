use Rattle.std.proofs.Common.{◌≡◌, ◌∙◌, ℕ, length, subst, arith}
use Rattle.std.proofs.lemmas.Option.{slice_get_read}
use Rattle.std.proofs.Common.{refl}
use Rattle.mrt_graph.specs.Search.{Enters}
use Rattle.proxy_rows.specs.steps.LabelledGraph.{without_rows}
use Rattle.proxy_rows.proofs.Stepping.{LeadsBelow, all_ends, first_end, next_end}
use Rattle.proxy_rows.proofs.marking.visit.Goals as goal

pub loop-place-init : goal.loop-place-init
loop-place-init c = first_end (without_rows c.args.words.now) c.args.at.now c.args.side c.args.v c.args.ends.now c.args.search.now

pub pass-requires : goal.pass-requires
pass-requires c =
    let ends = c.args.ends.now in
    let within = c.requires.within c.loop-place.place c.index-ends-place.result
    (slice_get_read ends (length ends) c.loop-place.place c.index-ends-place.result refl c.loop-place-test.true c.index-ends-place.is) in
    record {
      from = c.requires.from;
      marks = c.loop-place.invariant.one_each ∙ c.requires.marks;
      link = within.0;
      to = within.1;
    }

pub loop-place-preserved : goal.loop-place-preserved
loop-place-preserved c =
    let ends = c.args.ends.now in
    next_end (without_rows c.args.words.now) c.args.at.now c.args.side c.args.v ends c.loop-place.place c.index-ends-place.result c.args.search.now c.loop-place.search c.pass.new.search
    (slice_get_read ends (length ends) c.loop-place.place c.index-ends-place.result refl c.loop-place-test.true c.index-ends-place.is)
    c.loop-place.invariant c.pass.ensures

pub returns : goal.returns
returns c =
    let ends = c.args.ends.now in
    let last : c.loop-place.place ≡ length ends = omega (arith, c.loop-place-test.false, c.loop-place.auto.place-end) in
    all_ends (without_rows c.args.words.now) c.args.at.now c.args.side c.args.v ends c.args.search.now c.loop-place.search
    (subst (λ (n : ℕ). Enters (LeadsBelow (without_rows c.args.words.now) c.args.at.now c.args.side c.args.v ends n) c.args.search.now c.loop-place.search) last c.loop-place.invariant)
