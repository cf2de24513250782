use Rattle.std.proofs.Common.{subst}
use Rattle.area_graph.specs.Parts.{AreaParts}
use Rattle.mrt_island.specs.IslandOf.{IsIsland}
use Rattle.mrt_survey.specs.MadeLsas.{made_lsas}
use Rattle.ospf_lsa.specs.LsaText.{lsas_text}
use Rattle.mrt_answer.specs.Input.{policy}
use Rattle.mrt_answer.specs.Surveyed.{made_input}
use Rattle.mrt_answer.proofs.MadeNetworks.{NetworkLaws, made_database, made_has_island, made_is_input}
use Rattle.mrt_answer.proofs.OneReading.{DatabaseLaws, no_bad_database, one_database}
use Rattle.mrt_answer.proofs.survey_law.made_networks_are_taken.Goals as goal

-- the laws of the layers below
networks : goal.After-made_islands_hold_all_routers → NetworkLaws
networks c = record {
  faultless = c.made_lsas_may_be_installed.ensures.faultless;
  kept = c.made_lsas_may_be_installed.ensures.kept;
  settled = c.made_lsas_may_be_installed.ensures.settled;
  newest = c.made_lsas_may_be_installed.ensures.newest;
  entries = c.entries_are_those_of_the_list.ensures;
  agree = c.refuses_exactly_where_not_settled.ensures.settled;
  within = c.made_areas_are_within_the_limits.ensures.within;
  there = c.made_routers_are_in_the_area.ensures;
}

databases : goal.After-made_islands_hold_all_routers → DatabaseLaws
databases c = record {
  never_both = c.bytes_are_lsas_or_have_a_fault.ensures.never_both;
  one_list = c.bytes_are_lsas_or_have_a_fault.ensures.one_list;
  one_fault = c.bytes_are_lsas_or_have_a_fault.ensures.one_fault;
  settled = c.refuses_exactly_where_not_settled.ensures.none;
  only = c.tells_the_first_conflict.ensures.only;
}

pub returns-clause-input : goal.returns-clause-input
returns-clause-input c = made_is_input (networks c)

pub returns-clause-faultless : goal.returns-clause-faultless
returns-clause-faultless c = λ number nodes size at kind.
    no_bad_database (databases c) (lsas_text (made_lsas number nodes)) (made_lsas number nodes) at kind
    (made_database (networks c) number nodes size)

pub returns-clause-newest : goal.returns-clause-newest
returns-clause-newest c = λ number nodes size newest is.
    one_database (databases c) (lsas_text (made_lsas number nodes)) newest (made_lsas number nodes) is
    (made_database (networks c) number nodes size)

pub returns-clause-island : goal.returns-clause-island
returns-clause-island c = made_has_island (networks c)

pub returns-clause-routers : goal.returns-clause-routers
returns-clause-routers c = λ number nodes text survey.
    let island = survey.island in
    c.made_islands_hold_all_routers.ensures number nodes survey.size.0 1 island.graph island.root island.link_of
    (subst (λ (a : AreaParts). IsIsland (policy (made_input number nodes)) a 1 island.graph island.root island.link_of)
    survey.island_is.1.0 survey.island_is.2)
