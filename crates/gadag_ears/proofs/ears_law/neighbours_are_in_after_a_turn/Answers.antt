use Rattle.gadag_ears.proofs.FromSearch.{facts_of}
use Rattle.gadag_ears.proofs.TurnsKept.{all_kept}
use Rattle.gadag_ears.proofs.ears_law.neighbours_are_in_after_a_turn.Goals as goal

pub returns : goal.returns
returns c = λ g root tree over x later ears kept within search ordered.
    (all_kept g root tree over x later ears (facts_of g root tree (record { kept = kept; within = within; search = search })) ordered).neighbours
