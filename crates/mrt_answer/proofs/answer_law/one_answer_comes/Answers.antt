use Rattle.mrt_answer.proofs.OneAnswer.{Laws, one_flooded, one_island, one_over, one_survey, read_area, read_file, read_graph, read_nodes}
use Rattle.mrt_answer.proofs.OneReading.{one_input_of}
use Rattle.mrt_answer.proofs.answer_law.one_answer_comes.Goals as goal

-- the laws of the layers below
laws : goal.After-one_verdict_each → Laws
laws c = record {
  databases = record {
    never_both = c.bytes_are_lsas_or_have_a_fault.ensures.never_both;
    one_list = c.bytes_are_lsas_or_have_a_fault.ensures.one_list;
    one_fault = c.bytes_are_lsas_or_have_a_fault.ensures.one_fault;
    settled = c.refuses_exactly_where_not_settled.ensures.none;
    only = c.tells_the_first_conflict.ensures.only;
  };
  profiles = record {
    never_both = c.lines_are_settings_or_have_a_fault.ensures.never_both;
    one_list = c.lines_are_settings_or_have_a_fault.ensures.one_list;
    one_fault = c.lines_are_settings_or_have_a_fault.ensures.one_fault;
  };
  certs = record { one = c.one_spelling.ensures.one; faultless = c.one_spelling.ensures.faultless };
  scripts = record {
    never_both = c.lines_are_a_script_or_have_a_fault.ensures.never_both;
    one_script = c.lines_are_a_script_or_have_a_fault.ensures.one_script;
    one_fault = c.lines_are_a_script_or_have_a_fault.ensures.one_fault;
  };
  updates = record {
    never_both = c.bytes_are_updates_or_have_a_fault.ensures.never_both;
    one_list = c.bytes_are_updates_or_have_a_fault.ensures.one_list;
    one_fault = c.bytes_are_updates_or_have_a_fault.ensures.one_fault;
  };
  deliveries = record {
    never_both = c.lines_are_a_flood_script_or_have_a_fault.ensures.never_both;
    one_script = c.lines_are_a_flood_script_or_have_a_fault.ensures.one_script;
    one_fault = c.lines_are_a_flood_script_or_have_a_fault.ensures.one_fault;
  };
  areas = record {
    stands = c.an_lsa_without_a_fault_may_be_installed.ensures;
    area = c.the_newest_records_give_an_area.ensures;
    bonds = c.bonds_of_the_newest_records_fit.ensures;
    graph = c.what_an_island_keeps.ensures.graph;
    fits = c.what_an_island_keeps.ensures.fits;
  };
  islands = c.a_router_has_one_island.ensures.one;
  certificates = c.one_certificate.ensures.one;
  tables = record { table = c.one_table_each.ensures.one; primary = c.one_primary_each.ensures };
  rules = record { never_both = c.accepted_or_one_first_fault.ensures.never_both; one = c.accepted_or_one_first_fault.ensures.one };
  texts = record {
    script = c.one_text_each.ensures.script;
    trace = c.one_text_each.ensures.trace;
    loop_free = c.one_text_each-2.ensures.one;
    order = c.one_text_each-3.ensures.one_of_graph;
    proxies = record {
      text = c.one_proxy_text.ensures.one;
      related = λ g root cert a b text kept accepted given apart.
          c.proxy_rows_or_no_common_block.ensures.never_both g cert a b given.entries kept accepted given.entries_are apart;
    };
    flood = λ settings. c.one_text_each-4.ensures settings (c.one_verdict_each.ensures.one settings);
    survey = c.one_survey_each.ensures.one;
  };
}

pub returns-clause-task : goal.returns-clause-task
returns-clause-task c = one_over (laws c)

pub returns-clause-flood : goal.returns-clause-flood
returns-clause-flood c = one_flooded (laws c)

pub returns-clause-survey : goal.returns-clause-survey
returns-clause-survey c = λ number nodes text other one.
    one_survey (laws c) (c.made_networks_are_taken.ensures.input number nodes one.size) text other one

pub returns-clause-input : goal.returns-clause-input
returns-clause-input c = one_input_of (laws c).databases (laws c).profiles

pub returns-clause-island : goal.returns-clause-island
returns-clause-island c = one_island (laws c)

pub returns-clause-area : goal.returns-clause-area
returns-clause-area c = read_area (laws c)

pub returns-clause-nodes : goal.returns-clause-nodes
returns-clause-nodes c = read_nodes (laws c)

pub returns-clause-graph : goal.returns-clause-graph
returns-clause-graph c = read_graph (laws c)

pub returns-clause-file : goal.returns-clause-file
returns-clause-file c = read_file (laws c)
