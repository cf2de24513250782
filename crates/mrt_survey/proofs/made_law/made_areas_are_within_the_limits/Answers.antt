use Rattle.mrt_survey.proofs.MadeArea.{made_area_arcs, made_area_within, made_nodes}
use Rattle.mrt_survey.proofs.made_law.made_areas_are_within_the_limits.Goals as goal

pub returns : goal.returns
returns c = record { nodes = made_nodes; arcs = made_area_arcs; within = made_area_within }
