use Rattle.graph_tests.proofs.paths.reach_to.Goals as goal

pub returns : goal.returns
returns c = (c.in_ok-reach.ensures c.requires.directed.directions c.requires.directed.are.says).one_each
