use Rattle.area_graph.proofs.speakers.is_live.Goals as goal

pub returns : goal.returns
returns c = cc
