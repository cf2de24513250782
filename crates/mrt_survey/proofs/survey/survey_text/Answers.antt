use Rattle.std.proofs.Common.{◌++◌, ◌∙◌, [], ℕ, List, ap, length}
use Rattle.mrt_survey.specs.SurveyText.{block_line, island_line, row_line, sum_line}
use Rattle.mrt_survey.proofs.HeadsMarked.{root_in_graph}
use Rattle.mrt_survey.proofs.LinePuts.{four_put}
use Rattle.mrt_survey.proofs.survey.survey_text.Goals as goal

pub id-requires : goal.id-requires
id-requires c = root_in_graph c.args.g.now c.args.root c.args.c.now c.requires

pub returns : goal.returns
returns c =
    let tally = c.tally_of-tally.result in
    let island : List ℕ = island_line c.args.number (length c.args.g.now.ids) (length c.args.g.now.links) c.id.result in
    record {
      root_id = c.id.result;
      root_is = c.id.ensures;
      blocks = c.in_ok-blocks.blocks;
      blocks_are = c.in_ok-blocks.ensures;
      separating = c.in_ok-separating.separating;
      separating_are = c.in_ok-separating.ensures;
      spelled = rw (
        ← c.links.ensures,
        ← c.tally_of-tally.ensures.common,
        ← c.tally_of-tally.ensures.carried,
        ← c.tally_of-tally.ensures.blue,
        ← c.tally_of-tally.ensures.red,
        ← c.sole_links.ensures,
      )
          (four_put [] c.push_island.new.text.items c.push_blocks.new.text.items c.push_rows.new.text.items
          c.push_sums.new.text.items island
          (block_line c.in_ok-blocks.blocks c.sole_links.result c.in_ok-separating.separating)
          (row_line tally.common tally.carried) (sum_line tally.blue tally.red)
          (c.in_ok-push_island.ensures ∙ ap (λ (text : List ℕ). text ++ island) c.in_ok-text.ensures.items)
          c.in_ok-push_blocks.ensures c.in_ok-push_rows.ensures c.in_ok-push_sums.ensures);
    }
