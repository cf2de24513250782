use Rattle.std.proofs.Common.{inr}
use Rattle.mrt_args.proofs.HandedOn.{if_ok}
use Rattle.mrt_args.proofs.Readings.{if_err}
use Rattle.mrt_answer.proofs.Tables.{in_own_island}
use Rattle.mrt_calls.proofs.proxy.put_given.Goals as goal

pub put_island-requires-clause-inside : goal.put_island-requires-clause-inside
put_island-requires-clause-inside c = let is = c.in_ok-island.ensures.island in in_own_island _ _ _ _ _ _ is.2

pub returns-clause-held : goal.returns-clause-held
returns-clause-held c =
    if_ok c.put_island.result _ _ c.put_island.ensures.held
    (λ count held. (held.0, (c.in_ok-island.island, c.in_ok-island.ensures.island, held.1), held.2))

pub returns-clause-none : goal.returns-clause-none
returns-clause-none c = if_err c.put_island.result _ _ (λ exit memory. inr memory) c.put_island.ensures.none
