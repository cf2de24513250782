use Rattle.mrt_answer.proofs.CertifiedPasses.{accepts, short, upgrades}
use Rattle.mrt_answer.proofs.OneAnswer.{AreaLaws}
use Rattle.mrt_answer.proofs.answer_law.what_is_certified_passes.Goals as goal

areas : goal.After-one_spelling → AreaLaws
areas c = record {
  stands = c.an_lsa_without_a_fault_may_be_installed.ensures;
  area = c.the_newest_records_give_an_area.ensures;
  bonds = c.bonds_of_the_newest_records_fit.ensures;
  graph = c.what_an_island_keeps.ensures.graph;
  fits = c.what_an_island_keeps.ensures.fits;
}

pub returns-clause-check : goal.returns-clause-check
returns-clause-check c = accepts (areas c) c.an_island_is_that_of_each_router_in_it.ensures

pub returns-clause-upgrade : goal.returns-clause-upgrade
returns-clause-upgrade c = upgrades (areas c) c.an_island_is_that_of_each_router_in_it.ensures

pub returns-clause-short : goal.returns-clause-short
returns-clause-short c = short c.one_spelling.ensures.longest
