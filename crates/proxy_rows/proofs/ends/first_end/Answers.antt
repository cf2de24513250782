use Rattle.std.proofs.Common.{◌∙◌, length, refl, sym, arith}
use Rattle.std.proofs.lemmas.Bool.{both_ways}
use Rattle.std.proofs.lemmas.Option.{slice_get_read}
use Rattle.proxy_rows.specs.steps.Steps.{IsWanted}
use Rattle.proxy_rows.specs.steps.LabelledGraph.{with_rows}
use Rattle.proxy_rows.proofs.FirstEnds.{end_within, none_at_all, none_more}
use Rattle.proxy_rows.proofs.Grounds.{counts}
use Rattle.proxy_rows.proofs.ends.first_end.Goals as goal

pub is_wanted-requires : goal.is_wanted-requires
is_wanted-requires c =
    let ends = c.ends-ends.result.now in
    let there = slice_get_read ends (length ends) c.loop-place.place c.index-ends-place.result refl c.loop-place-test.true c.index-ends-place.is in
    let within = end_within c.args.words.now.graph.now (with_rows c.args.words.now c.requires.ground.rest) c.args.at.now c.requires.ground.stands c.args.v c.loop-place.place ends c.index-ends-place.result c.ends-ends.ensures.value there in
    let same = (counts c.args.words.now.graph.now (with_rows c.args.words.now c.requires.ground.rest) c.args.at.now c.requires.ground.stands).nodes in
    record {
      link = within.0;
      from = omega (arith, c.requires.within, same);
      to = within.1;
      count = c.requires.count ∙ sym same;
      marked = c.requires.marked;
    }

pub returns-then-is_wanted-clause-some : goal.returns-then-is_wanted-clause-some
returns-then-is_wanted-clause-some c rest =
    let ends = c.ends-ends.result.now in
    record {
      ends = ends;
      list = c.ends-ends.ensures.value;
      place = c.loop-place.place;
      there = slice_get_read ends (length ends) c.loop-place.place c.index-ends-place.result refl c.loop-place-test.true c.index-ends-place.is;
      asked = (c.is_wanted.ensures rest).0 c.if-is_wanted.true;
      none_before = λ k other less at_k. c.loop-place.invariant rest k other less at_k;
    }

pub loop-place-preserved : goal.loop-place-preserved
loop-place-preserved c rest =
    let ends = c.ends-ends.result.now in
    none_more (IsWanted c.args.words.now.graph.now (with_rows c.args.words.now rest) c.args.at.now c.args.wanted c.args.v) ends c.loop-place.place c.index-ends-place.result
    (slice_get_read ends (length ends) c.loop-place.place c.index-ends-place.result refl c.loop-place-test.true c.index-ends-place.is)
    (λ asked. both_ways c.is_wanted.result c.if-is_wanted.false ((c.is_wanted.ensures rest).1 asked))
    (c.loop-place.invariant rest)

pub returns-clause-none : goal.returns-clause-none
returns-clause-none c rest =
    none_at_all c.args.words.now.graph.now (IsWanted c.args.words.now.graph.now (with_rows c.args.words.now rest) c.args.at.now c.args.wanted c.args.v) c.args.v c.loop-place.place c.ends-ends.result.now c.ends-ends.ensures.value
    c.loop-place-test.false (c.loop-place.invariant rest)
