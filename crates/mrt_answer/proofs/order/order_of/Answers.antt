use Rattle.mrt_answer.proofs.order.order_of.Goals as goal

pub returns : goal.returns
returns c = c.order_text.ensures.of_graph c.in_ok-directed.ensures.made

pub directions-requires : goal.directions-requires
directions-requires c = c.requires.root

pub order_text-requires-clause-directed : goal.order_text-requires-clause-directed
order_text-requires-clause-directed c = c.in_ok-directed.ensures.ordered

pub order_text-requires-clause-source : goal.order_text-requires-clause-source
order_text-requires-clause-source c = c.requires.source
