use Rattle.mrt_survey.proofs.SeparatingHeads.{separating_heads}
use Rattle.mrt_survey.proofs.separating_law.separating_nodes_head_blocks.Goals as goal

pub returns : goal.returns
returns c = separating_heads
