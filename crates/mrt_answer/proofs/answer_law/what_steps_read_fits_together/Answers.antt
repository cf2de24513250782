use Rattle.std.proofs.Common.{Ok, subst}
use Rattle.area_graph.specs.Parts.{AreaParts}
use Rattle.mrt_answer.specs.Input.{area, policy}
use Rattle.mrt_answer.specs.Islands.{island_of}
use Rattle.mrt_answer.proofs.OneAnswer.{AreaLaws, area_is_kept, area_kept, bonds_kept, parts_fit, rows_for_all}
use Rattle.mrt_answer.proofs.answer_law.what_steps_read_fits_together.Goals as goal

areas : goal.After-what_an_island_keeps → AreaLaws
areas c = record {
  stands = c.an_lsa_without_a_fault_may_be_installed.ensures;
  area = c.the_newest_records_give_an_area.ensures;
  bonds = c.bonds_of_the_newest_records_fit.ensures;
  graph = c.what_an_island_keeps.ensures.graph;
  fits = c.what_an_island_keeps.ensures.fits;
}

pub returns-clause-kept : goal.returns-clause-kept
returns-clause-kept c = λ database profile input given router island is.
    parts_fit (areas c) (policy input) (area input)
    (area_is_kept input (area_kept (areas c) database profile input given) router island is)
    (bonds_kept (areas c) database profile input given) router island
    (subst (λ (of : AreaParts). island_of (policy input) of router (Ok island)) is.1.0 is.2)

pub returns-clause-rows : goal.returns-clause-rows
returns-clause-rows c = rows_for_all
