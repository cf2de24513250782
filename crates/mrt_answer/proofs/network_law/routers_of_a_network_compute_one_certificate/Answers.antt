use Rattle.mrt_answer.proofs.OneNetwork.{NetworkLaws, certificate_comes, no_other_island, one_area, one_island, or_max_age, same_certificate, table_by}
use Rattle.mrt_answer.proofs.network_law.routers_of_a_network_compute_one_certificate.Goals as goal

-- the laws of the layers below
laws : goal.After-one_certificate → NetworkLaws
laws c = record {
  databases = record {
    never_both = c.bytes_are_lsas_or_have_a_fault.ensures.never_both;
    one_list = c.bytes_are_lsas_or_have_a_fault.ensures.one_list;
    one_fault = c.bytes_are_lsas_or_have_a_fault.ensures.one_fault;
    settled = c.refuses_exactly_where_not_settled.ensures.none;
    only = c.tells_the_first_conflict.ensures.only;
  };
  profiles = record {
    never_both = c.lines_are_settings_or_have_a_fault.ensures.never_both;
    one_list = c.lines_are_settings_or_have_a_fault.ensures.one_list;
    one_fault = c.lines_are_settings_or_have_a_fault.ensures.one_fault;
  };
  areas = record {
    stands = c.an_lsa_without_a_fault_may_be_installed.ensures;
    area = c.the_newest_records_give_an_area.ensures;
    bonds = c.bonds_of_the_newest_records_fit.ensures;
    graph = c.what_an_island_keeps.ensures.graph;
    fits = c.what_an_island_keeps.ensures.fits;
  };
  same = c.the_same_live_lsas_give_the_same_area.ensures.same;
  live = c.the_same_live_lsas_give_the_same_area.ensures.instances;
  differ = c.instances_differ_in_max_age_alone.ensures;
  islands = c.a_router_has_one_island.ensures.one;
  each = c.an_island_is_that_of_each_router_in_it.ensures;
  certificates = c.one_certificate.ensures.one;
}

pub returns : goal.returns
returns c = record {
  area = one_area (laws c);
  island = one_island (laws c);
  one_island = no_other_island (laws c);
  certificate = same_certificate (laws c);
  comes = certificate_comes (laws c);
  table = table_by (laws c);
  max_age = or_max_age (laws c);
}
