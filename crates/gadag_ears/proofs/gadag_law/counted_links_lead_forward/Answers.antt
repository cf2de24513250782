use Rattle.gadag_ears.proofs.DirectedLinks.{counted_forward}
use Rattle.gadag_ears.proofs.FromSearch.{facts_of}
use Rattle.gadag_ears.proofs.gadag_law.counted_links_lead_forward.Goals as goal

pub returns : goal.returns
returns c = λ g root tree gadag kept within search it.
    counted_forward g root tree gadag (facts_of g root tree (record { kept = kept; within = within; search = search })) it
