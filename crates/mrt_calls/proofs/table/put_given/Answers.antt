use Rattle.mrt_calls.proofs.table.put_given.Goals as goal

pub put_footing-requires : goal.put_footing-requires
put_footing-requires c = (c.args.given.now, c.in_ok-footing.ensures.footing)

pub returns-clause-held : goal.returns-clause-held
returns-clause-held c = c.in_ok-count.ensures.held c.args.given.now c.in_ok-footing.ensures.footing
