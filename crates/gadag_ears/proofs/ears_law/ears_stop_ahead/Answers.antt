use Rattle.gadag_ears.proofs.FromSearch.{facts_of}
use Rattle.gadag_ears.proofs.TurnsKept.{all_kept, ends_ahead}
use Rattle.gadag_ears.proofs.ears_law.ears_stop_ahead.Goals as goal

pub returns : goal.returns
returns c = λ g root tree over x later ears ear kept within search ordered next.
    let facts = facts_of g root tree (record { kept = kept; within = within; search = search }) in
    ends_ahead g root tree over x later ear facts (all_kept g root tree over x later ears facts ordered) next
