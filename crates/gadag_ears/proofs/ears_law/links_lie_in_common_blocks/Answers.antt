use Rattle.gadag_ears.proofs.CommonBlocks.{common_block, leads_elsewhere, one_common_block, placed_by_low}
use Rattle.gadag_ears.proofs.FromSearch.{facts_of}
use Rattle.gadag_ears.proofs.ears_law.links_lie_in_common_blocks.Goals as goal

pub returns-clause-one : goal.returns-clause-one
returns-clause-one c = λ g root tree order ears places kept within search are placed one_each e u v onward.
    let facts = facts_of g root tree (record { kept = kept; within = within; search = search }) in
    common_block g root tree places e u v facts (placed_by_low g root tree order ears places facts are placed) one_each onward

pub returns-clause-no_other : goal.returns-clause-no_other
returns-clause-no_other c = λ g root tree order ears places kept within search are placed e u v onward block other one two.
    let facts = facts_of g root tree (record { kept = kept; within = within; search = search }) in
    let both = facts.leads_within e u v onward in
    one_common_block g root tree places u v block other facts (placed_by_low g root tree order ears places facts are placed) placed.of_root.0
    both.0 both.1 (leads_elsewhere g e u v kept onward) one two
