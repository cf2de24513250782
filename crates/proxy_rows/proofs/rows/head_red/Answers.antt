use Rattle.std.proofs.Common.{arith}
use Rattle.proxy_rows.specs.declared.proxy_row.Out.TheVariants as outs
use Rattle.proxy_rows.specs.steps.LabelledGraph.{with_rows}
use Rattle.proxy_rows.proofs.AnyRows.{red_too}
use Rattle.proxy_rows.proofs.Grounds.{counts, head_within}
use Rattle.proxy_rows.proofs.HeadLinks.{red_if_not_plain}
use Rattle.proxy_rows.proofs.SideEnds.{closing_end}
use Rattle.proxy_rows.proofs.rows.head_red.Goals as goal

pub first_end-requires-clause-within : goal.first_end-requires-clause-within
first_end-requires-clause-within c =
    let cert = with_rows c.args.words.now c.requires.ground.rest in
    let ground = c.requires.ground.stands in
    omega (arith, head_within c.args.words.now.graph.now cert c.args.at.now ground, (counts c.args.words.now.graph.now cert c.args.at.now ground).nodes)

pub unreachable-requires : goal.unreachable-requires
unreachable-requires c =
    let own = c.requires.ground.rest in
    closing_end c.args.words.now.graph.now (with_rows c.args.words.now own) c.args.at.now c.requires.ground.stands (c.in-None.ensures.none own)

pub returns : goal.returns
returns c rest =
    let words = c.args.words.now in
    let own = c.requires.ground.rest in
    let asked = (c.in-Some.ensures.some own).asked in
    red_too words c.args.at.now own rest (outs.Link c.in-Some.end.link)
    (red_if_not_plain words.graph.now (with_rows words own) c.args.at.now c.requires.ground.stands c.in-Some.end.link asked.of_block asked.not_plain)
