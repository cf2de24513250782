use Rattle.std.proofs.Common.{inl}
use Rattle.mrt_calls.proofs.Pairs.{refused_is}
use Rattle.mrt_calls.proofs.proxy.row_of_pair.Goals as goal

pub returns-in-Ok-clause-row : goal.returns-in-Ok-clause-row
returns-in-Ok-clause-row c = inl c.in-Ok.ensures.hops

pub returns-in-Err-clause-row : goal.returns-in-Err-clause-row
returns-in-Err-clause-row c =
    refused_is c.args.at.now.graph.now c.args.at.now.root c.args.at.now.source c.args.pair.now c.in-Err.exit c.refused.result c.in-Err.ensures.hops
    c.refused.ensures.row c.refused.ensures.none
