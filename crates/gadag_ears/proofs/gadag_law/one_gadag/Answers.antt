use Rattle.gadag_ears.proofs.FromSearch.{facts_of}
use Rattle.gadag_ears.proofs.GadagExists.{some_gadag}
use Rattle.gadag_ears.proofs.OneGadag.{one_gadag}
use Rattle.gadag_ears.proofs.gadag_law.one_gadag.Goals as goal

pub returns-clause-some : goal.returns-clause-some
returns-clause-some c = λ g root tree kept within search.
    some_gadag g root tree (facts_of g root tree (record { kept = kept; within = within; search = search }))

pub returns-clause-one : goal.returns-clause-one
returns-clause-one c = λ g root tree gadag other kept within search.
    one_gadag g root tree gadag other (facts_of g root tree (record { kept = kept; within = within; search = search }))
