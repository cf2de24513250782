use Rattle.gadag_ears.proofs.CommonBlocks.{placed_by_low, root_alone}
use Rattle.gadag_ears.proofs.FromSearch.{facts_of}
use Rattle.gadag_ears.proofs.ears_law.the_root_is_alone_in_its_block.Goals as goal

pub returns : goal.returns
returns c = λ g root tree order ears places kept within search are placed v v_within is.
    let facts = facts_of g root tree (record { kept = kept; within = within; search = search }) in
    root_alone g root tree places v facts (placed_by_low g root tree order ears places facts are placed) v_within is
