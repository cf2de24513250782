use Rattle.gadag_ears.proofs.DirectedLinks.{unset_plain}
use Rattle.gadag_ears.proofs.FromSearch.{facts_of}
use Rattle.gadag_ears.proofs.gadag_law.links_without_a_direction_are_plain.Goals as goal

pub returns : goal.returns
returns c = λ g root tree gadag kept within search it.
    unset_plain g root tree gadag (facts_of g root tree (record { kept = kept; within = within; search = search })) it
