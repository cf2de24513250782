use Rattle.text_parts.proofs.Adding.{joined}
use Rattle.mrt_report.proofs.line.put_primary.Goals as goal

pub returns-clause-added : goal.returns-clause-added
returns-clause-added c =
    joined _ _ _ _ _ (joined _ _ _ _ _ (joined _ _ _ _ _ c.put_hop.ensures.added c.put.ensures.added)
    c.put_letters.ensures.added) c.put_second.ensures.added
