use Rattle.mrt_answer.proofs.proxy.proxy_between.Goals as goal

pub proxy_by-requires-clause-made : goal.proxy_by-requires-clause-made
proxy_by-requires-clause-made c = c.in_ok-columns.ensures.made

pub proxy_by-requires-clause-computed : goal.proxy_by-requires-clause-computed
proxy_by-requires-clause-computed c = c.in_ok-columns.ensures.computed

pub returns : goal.returns
returns c = c.proxy_by.ensures
