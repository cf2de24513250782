use Rattle.flood_verdict.proofs.OneVerdict.{one_verdict}
use Rattle.flood_verdict.proofs.SomeVerdict.{some_verdict}
use Rattle.flood_verdict.proofs.verdict_law.one_verdict_each.Goals as goal

pub returns-clause-some : goal.returns-clause-some
returns-clause-some c = some_verdict (record {
  area = c.the_newest_records_give_an_area.ensures;
  bonds = c.bonds_of_the_newest_records_fit.ensures;
  ids = c.ids_of_the_newest_records_fit.ensures;
  island = c.a_router_has_one_island.ensures.some;
  graph = c.what_an_island_keeps.ensures.graph;
  fits = c.what_an_island_keeps.ensures.fits;
  certificate = c.one_certificate.ensures.some;
  fits_file = c.certificates_fit_their_files.ensures;
  spelled = c.one_spelling.ensures.one;
})

pub returns-clause-one : goal.returns-clause-one
returns-clause-one c = λ settings. one_verdict (record {
  one_island = c.a_router_has_one_island.ensures.one;
  one_certificate = c.one_certificate.ensures.one;
}) settings
