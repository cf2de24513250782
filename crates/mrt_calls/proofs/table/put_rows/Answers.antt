use Rattle.mrt_args.proofs.HandedOn.{if_ok}
use Rattle.mrt_calls.proofs.table.put_rows.Goals as goal

pub returns-clause-held : goal.returns-clause-held
returns-clause-held c =
    if_ok c.put_given.result _ _ c.put_given.ensures.held
    (λ count held. (held.0, (c.in_ok-given.given, c.in_ok-given.ensures, held.1), held.2))
