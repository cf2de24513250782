use Rattle.gadag_ears.proofs.CommonBlocks.{placed_by_low}
use Rattle.gadag_ears.proofs.FromSearch.{facts_of}
use Rattle.gadag_ears.proofs.ears_law.heads_by_lowpoints.Goals as goal

pub returns-clause-heads : goal.returns-clause-heads
returns-clause-heads c = λ g root tree order ears places kept within search are placed v p v_within is.
    (placed_by_low g root tree order ears places (facts_of g root tree (record { kept = kept; within = within; search = search })) are placed v p v_within is).heads

pub returns-clause-others : goal.returns-clause-others
returns-clause-others c = λ g root tree order ears places kept within search are placed v p v_within is.
    (placed_by_low g root tree order ears places (facts_of g root tree (record { kept = kept; within = within; search = search })) are placed v p v_within is).joins
