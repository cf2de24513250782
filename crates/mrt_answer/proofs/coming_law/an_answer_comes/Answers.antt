use Rattle.std.proofs.Common.{arith}
use Rattle.mrt_answer.proofs.AnswersCome.{ComingLaws, over_comes}
use Rattle.mrt_answer.proofs.OthersCome.{flooded_comes, survey_comes}
use Rattle.mrt_answer.proofs.coming_law.an_answer_comes.Goals as goal

-- the laws of the layers below
laws : goal.After-a_script_has_its_text → ComingLaws
laws c = record {
  areas = record {
    stands = c.an_lsa_without_a_fault_may_be_installed.ensures;
    area = c.the_newest_records_give_an_area.ensures;
    bonds = c.bonds_of_the_newest_records_fit.ensures;
    graph = c.what_an_island_keeps.ensures.graph;
    fits = c.what_an_island_keeps.ensures.fits;
  };
  lsas = c.bytes_are_lsas_or_have_a_fault.ensures.either;
  settled = c.refuses_exactly_where_not_settled.ensures.settled;
  conflict = c.tells_the_first_conflict.ensures.told;
  settings = c.lines_are_settings_or_have_a_fault.ensures.either;
  file = c.bytes_are_a_certificate_or_have_a_fault.ensures.either;
  island = c.a_router_has_one_island.ensures.some;
  verdict = c.accepted_or_one_first_fault.ensures.either;
  sound = c.accepted_implies_sound.ensures;
  foldable = c.accepted_files_are_foldable.ensures;
  ids = c.ids_of_the_newest_records_fit.ensures;
  certificate = c.one_certificate.ensures.some;
  accepted = c.certificates_are_accepted.ensures;
  fits_file = c.certificates_fit_their_files.ensures;
  leads_on = c.accepted_rows_lead_on.ensures;
  primaries = c.each_router_has_its_primaries.ensures;
  table = c.one_table_each.ensures.some;
  scripts = c.lines_are_a_script_or_have_a_fault.ensures.either;
  script_text = c.one_text_each.ensures.some_script;
  trace_text = c.one_text_each.ensures.some_trace;
  loop_free = c.one_text_each-2.ensures.some;
  order = c.one_text_each-3.ensures.some_of_graph;
  proxy = c.one_proxy_text.ensures.some;
}

pub returns-clause-task : goal.returns-clause-task
returns-clause-task c = over_comes (laws c)

pub returns-clause-flood : goal.returns-clause-flood
returns-clause-flood c = flooded_comes (record {
  updates = c.bytes_are_updates_or_have_a_fault.ensures.either;
  may = c.what_is_read_may_be_flooded.ensures.may;
  bodies = c.what_is_read_may_be_flooded.ensures.bodies;
  ids = c.what_is_read_may_be_flooded.ensures.ids;
  scripts = c.lines_are_a_flood_script_or_have_a_fault.ensures.either;
  text = c.a_script_has_its_text.ensures;
}) (laws c)

pub returns-clause-survey : goal.returns-clause-survey
returns-clause-survey c = λ number nodes size.
    survey_comes (laws c) c.one_survey_each.ensures.some number nodes size (c.made_networks_are_taken.ensures.input number nodes size)
    (c.made_networks_are_taken.ensures.island number nodes size 1 (omega arith) (omega (arith, size)))
