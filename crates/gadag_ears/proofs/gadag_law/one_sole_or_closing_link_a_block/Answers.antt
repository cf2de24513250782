use Rattle.mrt_graph.proofs.ListTests.{there}
use Rattle.gadag_ears.proofs.BlockLinks.{none_in_root}
use Rattle.gadag_ears.proofs.FromSearch.{facts_of}
use Rattle.gadag_ears.proofs.LinkBlocks.{leads_over}
use Rattle.gadag_ears.proofs.SoleLinks.{block_links}
use Rattle.gadag_ears.proofs.gadag_law.one_sole_or_closing_link_a_block.Goals as goal

pub returns-clause-links : goal.returns-clause-links
returns-clause-links c = λ g root tree gadag kept in_graph search it v block within other is.
    block_links g root tree gadag (facts_of g root tree (record { kept = kept; within = in_graph; search = search })) it v block within other is

pub returns-clause-none_of_root : goal.returns-clause-none_of_root
returns-clause-none_of_root c = λ g root tree gadag kept in_graph search it e within.
    let link = there g.links e within in
    none_in_root g root tree gadag (facts_of g root tree (record { kept = kept; within = in_graph; search = search })) it e link.0.a link.0.b
    (leads_over g e link.0 link.1)
